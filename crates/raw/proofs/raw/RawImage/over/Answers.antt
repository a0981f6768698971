use Rattle.raw.proofs.Told.{raw_holds, offered_raw}
use Rattle.raw.proofs.raw.RawImage.over.Goals as goal

pub returns-clause-law : goal.returns-clause-law
returns-clause-law c = raw_holds c.args.bytes.now c.args.spares.now c.args.records c.args.protection

pub returns-clause-blocks : goal.returns-clause-blocks
returns-clause-blocks c = offered_raw c.args.bytes.now c.args.spares.now c.args.records c.args.protection
