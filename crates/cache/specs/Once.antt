-- No block is kept twice.
use Rattle.std.specs.Prelude.{◌≡◌, ℕ, List, Some}
use Rattle.std.specs.List.{slice_get}
use Rattle.cache.specs.declared.slot.Slot.{Slot}

-- Two slots that keep one block are one slot.
abbrev pub Once : List Slot → Type 0
Once slots = (i j b : ℕ) (s t : Slot) → slice_get slots i ≡ Some s → slice_get slots j ≡ Some t → s.block ≡ Some b → t.block ≡ Some b → i ≡ j
