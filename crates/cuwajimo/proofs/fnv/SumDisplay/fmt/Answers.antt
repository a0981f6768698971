use Rattle.cuwajimo.proofs.Padding.{written_hex}
use Rattle.cuwajimo.proofs.fnv.SumDisplay.fmt.Goals as goal

pub returns-clause-writes : goal.returns-clause-writes
returns-clause-writes g c = rw (written_hex 16 c.args.self.now.0 c.in_radix.result c.laid_out.result c.in_radix.ensures c.laid_out.ensures) at c.write.ensures.writes
