-- Facts on tests, options and lists that the files of the isolation proof share.
use Rattle.std.proofs.Common.{◌≡◌, ℕ, zero, suc, ◌<◌, ◌≤◌, Bool, true, false, ◌⊎◌, List, length, get_or, set, replicate, Some, None, sym, refl, inl, inr, arith}
use Rattle.std.proofs.lemmas.Bool.{both_ways, cases_eq, cases_lt}
use Rattle.std.proofs.lemmas.List.{get_or-set_same, get_or-set_other, set_past}

-- A test that cannot be true is false.
pub is_false : (b : Bool) → (b ≡ true → ⊥) → b ≡ false
is_false true n = absurd (n refl)
is_false false n = refl

-- What is both true and false shows anything.
pub clash : {P : Type 0} (b : Bool) → b ≡ true → b ≡ false → P
clash b t f = absurd (both_ways b f t)

-- By cases of a test, and of a sum.
pub either : {P : Type 0} (b : Bool) → (b ≡ true → P) → (b ≡ false → P) → P
either true t f = t refl
either false t f = f refl

pub one_of : {A B P : Type 0} → A ⊎ B → (A → P) → (B → P) → P
one_of (inl a) f g = f a
one_of (inr b) f g = g b

pub none_some : {A : Type 0} (a : A) → None ≡ Some a → ⊥
none_some a e = let z : ◌≡◌ {A = ℕ} 0 1 = cc in omega arith

-- Two tests that hold together, or fail together, are the same.
pub agree : (a b : Bool) → (a ≡ true → b ≡ true) → (b ≡ true → a ≡ true) → a ≡ b
agree true b p q = sym (p refl)
agree false true p q = q refl
agree false false p q = refl

pub fail_together : (a b : Bool) → (a ≡ false → b ≡ false) → (b ≡ false → a ≡ false) → a ≡ b
fail_together true true p q = refl
fail_together true false p q = q refl
fail_together false true p q = sym (p refl)
fail_together false false p q = refl

-- What stands in a list with one element replaced: what stood there, or the new one.
pub getD_set_cases : {A : Type 0} (l : List A) (i : ℕ) (a d : A) (k : ℕ) → (get_or (set l i a) k d ≡ get_or l k d) ⊎ ((k ≡ i) × (get_or (set l i a) k d ≡ a))
getD_set_cases l i a d k = go (cases_eq k i) (cases_lt i (length l))
  where
    go : (k ≡ i) ⊎ (k ≡ i → ⊥) → (i < length l) ⊎ (length l ≤ i) → (get_or (set l i a) k d ≡ get_or l k d) ⊎ ((k ≡ i) × (get_or (set l i a) k d ≡ a))
    go (inr n) q = inl (get_or-set_other l i k a d n)
    go (inl e) (inl q) = inr (e, rw e (get_or-set_same l i a d q))
    go (inl e) (inr q) = inl (rw (set_past l i a q))

-- Each of a row of one value has what that value and the default have.
pub of_row : {A : Type 0} (P : A → Type 0) (a d : A) → P a → P d → (n g : ℕ) → P (get_or (replicate n a) g d)
of_row P a d p q zero g = q
of_row P a d p q (suc n) zero = p
of_row P a d p q (suc n) (suc g) = of_row P a d p q n g
