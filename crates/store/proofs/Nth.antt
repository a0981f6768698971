-- Lists by what stands at each place.
use Rattle.std.proofs.Common.{◌≡◌, ℕ, zero, suc, List, [], ◌∷◌, set, Some, None, refl, ap, ◌∙◌}
use Rattle.std.specs.List.{slice_get}
use Rattle.std.specs.Option.{option_map}

pub same_nth : {X : Type 0} (xs ys : List X) → ((i : ℕ) → slice_get xs i ≡ slice_get ys i) → xs ≡ ys
same_nth [] [] h = refl
same_nth [] (y ∷ ys) h = let e : None ≡ Some y = h 0 in cc
same_nth (x ∷ xs) [] h = let e : Some x ≡ None = h 0 in cc
same_nth (x ∷ xs) (y ∷ ys) h =
    let e : Some x ≡ Some y = h 0 in
    let f : x ≡ y = cc in
    let t : xs ≡ ys = same_nth xs ys (λ i. h (suc i)) in
    ap (λ z. z ∷ xs) f ∙ ap (λ l. y ∷ l) t

pub nth_set_same : {X : Type 0} (xs : List X) (i : ℕ) (x : X) → slice_get (set xs i x) i ≡ option_map (λ _. x) (slice_get xs i)
nth_set_same [] i x = refl
nth_set_same (y ∷ ys) zero x = refl
nth_set_same (y ∷ ys) (suc i) x = nth_set_same ys i x

pub nth_set_other : {X : Type 0} (xs : List X) (i j : ℕ) (x : X) → (j ≡ i → ⊥) → slice_get (set xs i x) j ≡ slice_get xs j
nth_set_other [] i j x ne = refl
nth_set_other (y ∷ ys) zero zero x ne = absurd (ne refl)
nth_set_other (y ∷ ys) zero (suc j) x ne = refl
nth_set_other (y ∷ ys) (suc i) zero x ne = refl
nth_set_other (y ∷ ys) (suc i) (suc j) x ne = nth_set_other ys i j x (λ e. ne (ap suc e))
