use Rattle.flex.proofs.Places.{numbered}
use Rattle.flex.proofs.geometry.Geometry.vector_at.Goals as goal

pub returns-then-address-size-clause-law : goal.returns-then-address-size-clause-law
returns-then-address-size-clause-law c = numbered c.args.self

pub returns-clause-law : goal.returns-clause-law
returns-clause-law c = numbered c.args.self
