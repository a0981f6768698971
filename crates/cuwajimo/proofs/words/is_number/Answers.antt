use Rattle.std.proofs.Common.{◌∙◌}
use Rattle.cuwajimo.specs.Numerals.{is_parsed}
use Rattle.cuwajimo.proofs.words.is_number.Goals as goal

pub returns : goal.returns
returns c = c.is_ok.ensures.value ∙ is_parsed 32 c.args.word.now c.parse.result c.parse.ensures.value.0
