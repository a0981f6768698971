use Rattle.std.proofs.Common.{length, arith}
use Rattle.raw.specs.Lawful.{inside_raw}
use Rattle.raw.proofs.raw.RawImage.start.Goals as goal

pub returns-clause-inside : goal.returns-clause-inside
returns-clause-inside c = let s = c.args.self.now in omega (arith, inside_raw s.spares.now (length s.bytes.now) s.records c.args.block c.requires)
