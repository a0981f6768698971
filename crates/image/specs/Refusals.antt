-- Why lent memory is refused as an image, and the status that tells it.
use Rattle.std.specs.Prelude.{ℕ, List, ◌++◌, codes, decimal}
use Rattle.image.specs.declared.refusal.Refusal.{Refusal}
use Rattle.image.specs.declared.refusal.Refusal.TheVariants as refusals

-- A refusal's status, as its group and the code within it: every refusal is 128/3.
abbrev pub refusal_numbers : Refusal → ℕ × ℕ
refusal_numbers refusals.Records = (128, 3)
refusal_numbers refusals.Lengths = (128, 3)
refusal_numbers (refusals.Spare track) = (128, 3)

-- It is written group/code.
abbrev pub refusal_text : Refusal → List ℕ
refusal_text r = decimal (refusal_numbers r).0 ++ (codes "/" ++ decimal (refusal_numbers r).1)
