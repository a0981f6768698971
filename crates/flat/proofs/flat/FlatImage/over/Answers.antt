use Rattle.flat.proofs.Told.{flat_holds, offered_flat}
use Rattle.flat.proofs.flat.FlatImage.over.Goals as goal

pub returns-clause-blocks : goal.returns-clause-blocks
returns-clause-blocks c = offered_flat c.args.bytes.now c.args.damage.now c.args.protection

pub returns-clause-law : goal.returns-clause-law
returns-clause-law c = flat_holds c.args.bytes.now c.args.damage.now c.args.protection
