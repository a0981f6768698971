use Rattle.std.proofs.Common.{◌^◌, is_some, ap, sym, ◌∙◌, List, ℕ, Option}
use Rattle.cuwajimo.specs.Lines.{line_words}
use Rattle.cuwajimo.specs.Words.{number_in}
use Rattle.cuwajimo.proofs.Images.{raw_read}
use Rattle.cuwajimo.proofs.build.raw.Goals as goal

pub returns-then-is_number : goal.returns-then-is_number
returns-then-is_number c =
    raw_read c.args.line.spot.line (line_words c.args.line) c.raw_in_memory.result
    (ap (λ (word : Option (List ℕ)). is_some (number_in (2 ^ 32) word)) (sym c.in_ok-word.ensures.value) ∙ sym c.is_number.ensures ∙ c.if-is_number.true)
    c.raw_in_memory.ensures
