-- A list that is filled place by place.
use Rattle.std.proofs.Common.{◌≡◌, ℕ, ◌+◌, ◌<◌, List, length, set, get_or, ap, ◌∙◌, arith}
use Rattle.std.proofs.lemmas.List.{length-set}
use Rattle.std.proofs.lemmas.List.Edits.{fill_by_more}

pub next_filled :
    {X : Type 0} (f : ℕ → X) (xs : List X) (i : ℕ) (x d : X) (n : ℕ) → length xs ≡ n → ((k : ℕ) → k < i → get_or xs k d ≡ f k) → i < n → x ≡ f i
    → (length (set xs i x) ≡ n) × ((k : ℕ) → k < i + 1 → get_or (set xs i x) k d ≡ f k)
next_filled f xs i x d n long so_far within is = (
  length-set xs i x ∙ long,
  λ k below. ap (λ y. get_or (set xs i y) k d) is ∙ fill_by_more f xs i d (omega (arith, long)) so_far k below,
)
