-- Blocks made from their numbers, with one of them changed, and lists made alike.
use Rattle.std.proofs.Common.{◌≡◌, ℕ, zero, suc, ◌+◌, ◌<◌, ◌≤◌, ◌∷◌, map, set, Some, refl, sym, ap, ◌∙◌, inl, inr, arith}
use Rattle.std.specs.List.{slice_get, range_with_len}
use Rattle.std.specs.Option.{option_map}
use Rattle.std.proofs.lemmas.Bool.{cases_eq, cases_lt}
use Rattle.store.specs.Blocks.{Block}
use Rattle.store.proofs.Nth.{same_nth, nth_set_same, nth_set_other}
use Rattle.image.specs.Images.{blocks_by}
use Rattle.image.specs.Lawful.{nth_numbered, nth_numbered_past}

pub set_numbered :
    (n : ℕ) (f g : ℕ → Block) (b : ℕ) (x : Block)
    → (b < n → g b ≡ x) → ((i : ℕ) → i < n → (i ≡ b → ⊥) → g i ≡ f i)
    → blocks_by n g ≡ set (blocks_by n f) b x
set_numbered n f g b x here other = same_nth (blocks_by n g) (set (blocks_by n f) b x) at
  where
    same : b < n → slice_get (blocks_by n g) b ≡ slice_get (set (blocks_by n f) b x) b
    same h = nth_numbered n g b h ∙ ap Some (here h) ∙ sym (nth_set_same (blocks_by n f) b x ∙ ap (option_map (λ _. x)) (nth_numbered n f b h))

    below : (i : ℕ) → i < n → slice_get (blocks_by n g) i ≡ slice_get (set (blocks_by n f) b x) i
    below i h = elim (cases_eq i b) [
      | inl e ↦ rw e (same (rw e at h))
      | inr ne ↦ nth_numbered n g i h ∙ ap Some (other i h ne) ∙ sym (nth_set_other (blocks_by n f) b i x ne ∙ nth_numbered n f i h)
    ]

    past : (i : ℕ) → n ≤ i → slice_get (blocks_by n g) i ≡ slice_get (set (blocks_by n f) b x) i
    past i h = elim (cases_eq i b) [
      | inl e ↦ rw e (nth_numbered_past n g b (rw e at h) ∙ sym (nth_set_same (blocks_by n f) b x ∙ ap (option_map (λ _. x)) (nth_numbered_past n f b (rw e at h))))
      | inr ne ↦ nth_numbered_past n g i h ∙ sym (nth_set_other (blocks_by n f) b i x ne ∙ nth_numbered_past n f i h)
    ]

    at : (i : ℕ) → slice_get (blocks_by n g) i ≡ slice_get (set (blocks_by n f) b x) i
    at i = elim (cases_lt i n) [ inl h ↦ below i h | inr h ↦ past i h ]

-- what is made of numbers is the same where the same is made of each of them
pub same_made : {X : Type 0} (f g : ℕ → X) (a n : ℕ) → ((i : ℕ) → a ≤ i → i < a + n → f i ≡ g i) → map f (range_with_len a n) ≡ map g (range_with_len a n)
same_made f g a zero same = refl
same_made f g a (suc n) same =
    ap (λ x. x ∷ map f (range_with_len (a + 1) n)) (same a (omega arith) (omega arith))
    ∙ ap (λ l. g a ∷ l) (same_made f g (a + 1) n (λ i low high. same i (omega arith) (omega arith)))
