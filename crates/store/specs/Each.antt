-- A list with each element changed by its place.
use Rattle.std.specs.Prelude.{◌≡◌, ℕ, zero, suc, ◌+◌, List, [], ◌∷◌, length, Some, refl}
use Rattle.std.proofs.Common.{sym, ap, ◌∙◌, zero-add, suc-add, add-suc, add-zero}
use Rattle.std.specs.List.{slice_get}
use Rattle.std.specs.Option.{option_map}

-- The places are counted from i: f i x₀, f (i + 1) x₁, and so on.
abbrev pub each_from : {X : Type 0} → (ℕ → X → X) → ℕ → List X → List X
each_from f i [] = []
each_from f i (x ∷ xs) = f i x ∷ each_from f (suc i) xs

-- f 0 x₀, f 1 x₁, and so on.
abbrev pub each : {X : Type 0} → (ℕ → X → X) → List X → List X
each f xs = each_from f 0 xs

-- There are as many elements after as before, from wherever the places are counted.
length_each_from : {X : Type 0} (f : ℕ → X → X) (i : ℕ) (xs : List X) → length (each_from f i xs) ≡ length xs
length_each_from f i [] = refl
length_each_from f i (x ∷ xs) = ap suc (length_each_from f (suc i) xs)

-- There are as many elements after as before.
pub length_each : {X : Type 0} (f : ℕ → X → X) (xs : List X) → length (each f xs) ≡ length xs
length_each f xs = length_each_from f 0 xs

-- Element j after is made of element j before and its place, counted from i.
nth_each_from : {X : Type 0} (f : ℕ → X → X) (i : ℕ) (xs : List X) (j : ℕ) → slice_get (each_from f i xs) j ≡ option_map (f (i + j)) (slice_get xs j)
nth_each_from f i [] j = refl
nth_each_from f i (x ∷ xs) zero = ap (λ n. Some (f n x)) (sym (add-zero i))
nth_each_from f i (x ∷ xs) (suc j) = nth_each_from f (suc i) xs j ∙ ap (λ n. option_map (f n) (slice_get xs j)) (suc-add i j ∙ sym (add-suc i j))

-- Element j after is made of element j before and its place.
pub nth_each : {X : Type 0} (f : ℕ → X → X) (xs : List X) (j : ℕ) → slice_get (each f xs) j ≡ option_map (f j) (slice_get xs j)
nth_each f xs j = nth_each_from f 0 xs j ∙ ap (λ n. option_map (f n) (slice_get xs j)) (zero-add j)
