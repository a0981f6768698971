-- Spans of blocks, read and laid.
use Rattle.std.proofs.Common.{◌≡◌, ℕ, zero, suc, ◌+◌, ◌<◌, ◌≤◌, ◌⊎◌, List, [], ◌∷◌, ◌++◌, length, get_or, set, sym, refl, ap, ◌∙◌, inl, inr, add-zero, arith, length-set}
use Rattle.std.proofs.lemmas.List.{get_or-set_other, get_or-set_same, set_past}
use Rattle.std.proofs.lemmas.Bool.{cases_eq, cases_lt}
use Rattle.std.specs.List.{slice_get}
use Rattle.std.specs.Option.{option_map}
use Rattle.store.specs.Blocks.{Block}
use Rattle.store.proofs.Nth.{nth_set_same, nth_set_other}
use Rattle.transfer.specs.Segments.{span, laid}

pub length_span : (bs : List Block) (b n : ℕ) → length (span bs b n) ≡ n
length_span bs b zero = refl
length_span bs b (suc n) = ap suc (length_span bs (suc b) n)

pub span_alike : (bs cs : List Block) (p n : ℕ) → ((b : ℕ) → p ≤ b → b < p + n → slice_get bs b ≡ slice_get cs b) → span bs p n ≡ span cs p n
span_alike bs cs p zero e = refl
span_alike bs cs p (suc n) e =
    let tail = span_alike bs cs (suc p) n (λ b l r. e b (omega arith) (omega arith)) in
    let head = e p (omega arith) (omega arith) in
    cc

module _ {X : Type 0} where
  pub length_laid : (xs : List X) (p : ℕ) (ks : List X) → length (laid xs p ks) ≡ length xs
  length_laid xs p [] = refl
  length_laid xs p (k ∷ ks) = length_laid (set xs p k) (suc p) ks ∙ length-set xs p k

  pub laid_other : (xs : List X) (p : ℕ) (ks : List X) (b : ℕ) → (b < p) ⊎ (p + length ks ≤ b) → slice_get (laid xs p ks) b ≡ slice_get xs b
  laid_other xs p [] b o = refl
  laid_other xs p (k ∷ ks) b (inl l) = laid_other (set xs p k) (suc p) ks b (inl (omega arith)) ∙ nth_set_other xs p b k (omega arith)
  laid_other xs p (k ∷ ks) b (inr l) = laid_other (set xs p k) (suc p) ks b (inr (omega arith)) ∙ nth_set_other xs p b k (omega arith)

  pub laid_cut : (xs : List X) (p : ℕ) (ks ls : List X) → laid xs p (ks ++ ls) ≡ laid (laid xs p ks) (p + length ks) ls
  laid_cut xs p [] ls = ap (λ i. laid xs i ls) (sym (add-zero p))
  laid_cut xs p (k ∷ ks) ls = laid_cut (set xs p k) (suc p) ks ls ∙ ap (λ i. laid (laid (set xs p k) (suc p) ks) i ls) (omega arith)

  nth_set_alike : (xs ys : List X) (p : ℕ) (k : X) (b : ℕ) → slice_get xs b ≡ slice_get ys b → slice_get (set xs p k) b ≡ slice_get (set ys p k) b
  nth_set_alike xs ys p k b e = go (cases_eq b p)
    where
      go : (b ≡ p) ⊎ (b ≡ p → ⊥) → slice_get (set xs p k) b ≡ slice_get (set ys p k) b
      go (inl i) =
          let f : slice_get xs p ≡ slice_get ys p = rw i at e in
          rw i (nth_set_same xs p k ∙ ap (option_map (λ _. k)) f ∙ sym (nth_set_same ys p k))
      go (inr n) = nth_set_other xs p b k n ∙ e ∙ sym (nth_set_other ys p b k n)

  pub laid_alike : (xs ys : List X) (p : ℕ) (ks : List X) (b : ℕ) → slice_get xs b ≡ slice_get ys b → slice_get (laid xs p ks) b ≡ slice_get (laid ys p ks) b
  laid_alike xs ys p [] b e = e
  laid_alike xs ys p (k ∷ ks) b e = laid_alike (set xs p k) (set ys p k) (suc p) ks b (nth_set_alike xs ys p k b e)

  pub set_alike : (xs ys : List X) (p : ℕ) (a d : X) (b : ℕ) → length xs ≡ length ys → get_or xs b d ≡ get_or ys b d → get_or (set xs p a) b d ≡ get_or (set ys p a) b d
  set_alike xs ys p a d b l e = go (cases_eq b p) (cases_lt p (length xs))
    where
      go : (b ≡ p) ⊎ (b ≡ p → ⊥) → (p < length xs) ⊎ (length xs ≤ p) → get_or (set xs p a) b d ≡ get_or (set ys p a) b d
      go (inr n) q = get_or-set_other xs p b a d n ∙ e ∙ sym (get_or-set_other ys p b a d n)
      go (inl i) (inl q) = rw i (get_or-set_same xs p a d q ∙ sym (get_or-set_same ys p a d (omega arith)))
      go (inl i) (inr q) = let k : length ys ≤ p = omega arith in rw (set_past xs p a q, set_past ys p a k) e
