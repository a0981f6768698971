use Rattle.std.proofs.Common.{refl}
use Rattle.cuwajimo.proofs.Cutting.{words_got}
use Rattle.cuwajimo.proofs.line.Line.after.Goals as goal

pub returns : goal.returns
returns c = words_got c.args.self.words.now c.args.before c.get.result _ c.unwrap_or.result c.get.ensures.lookup refl c.unwrap_or.ensures
