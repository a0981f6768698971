-- Cutting a line at its first '#'.
use Rattle.std.proofs.Common.{◌≡◌, ℕ, suc, ◌<◌, false, eqb, List, [], ◌∷◌, ◌++◌, length, get_or, refl, ap, inl, inr, arith}
use Rattle.std.proofs.lemmas.Bool.Decides.{eqb_tells}
use Rattle.cuwajimo.specs.Lines.{before_comment}

abbrev pub NoHash : List ℕ → Type 0
NoHash bs = (i : ℕ) → i < length bs → get_or bs i 0 ≡ 35 → ⊥

other : (c : ℕ) (cs : List ℕ) → NoHash (c ∷ cs) → eqb c 35 ≡ false
other c cs none =
    elim (eqb_tells c 35) [
      | inl p ↦ absurd (none 0 (omega arith) p.1)
      | inr p ↦ p.0
    ]

later : (c : ℕ) (cs : List ℕ) → NoHash (c ∷ cs) → NoHash cs
later c cs none i h e = none (suc i) (omega arith) e

pub all_said : (bs : List ℕ) → NoHash bs → before_comment bs ≡ bs
all_said [] none = refl
all_said (c ∷ cs) none = rw (other c cs none) (ap (λ rest. c ∷ rest) (all_said cs (later c cs none)))

pub said_before : (bs rest : List ℕ) → NoHash bs → before_comment (bs ++ (35 ∷ rest)) ≡ bs
said_before [] rest none = refl
said_before (c ∷ cs) rest none = rw (other c cs none) (ap (λ more. c ∷ more) (said_before cs rest (later c cs none)))
