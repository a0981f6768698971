-- The words for the kinds of fault.
use Rattle.std.specs.Prelude.{ℕ, List, codes}
use Rattle.store.specs.declared.fault.FaultKind.{FaultKind}
use Rattle.store.specs.declared.fault.FaultKind.TheVariants as kinds

-- The word that is printed for a kind of fault.
abbrev pub kind_word : FaultKind → List ℕ
kind_word kinds.Length = codes "length"
kind_word kinds.Beyond = codes "beyond"
kind_word kinds.Damaged = codes "damaged"
kind_word kinds.Protected = codes "protected"
