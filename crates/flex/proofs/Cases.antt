-- A fact on options that several proofs share.
use Rattle.std.proofs.Common.{◌≡◌, Some, None, Option, refl}

-- an option that holds nothing is none
pub absent : {A : Type 0} (o : Option A) → ((x : A) → o ≡ Some x → ⊥) → o ≡ None
absent None h = refl
absent (Some x) h = absurd (h x refl)
