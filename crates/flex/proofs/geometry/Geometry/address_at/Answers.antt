use Rattle.flex.proofs.Places.{numbered}
use Rattle.flex.proofs.geometry.Geometry.address_at.Goals as goal

pub returns-then-vector-cylinders-clause-law : goal.returns-then-vector-cylinders-clause-law
returns-then-vector-cylinders-clause-law c = numbered c.args.self

pub returns-clause-law : goal.returns-clause-law
returns-clause-law c = numbered c.args.self
