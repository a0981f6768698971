-- Blocks made from their numbers are few enough, and each sound one is whole.
-- What is shown here is what a store's ghost member asks of an image; nothing here is a rule to believe.
use Rattle.std.specs.Prelude.{◌≡◌, ℕ, ◌+◌, ◌<◌, ◌≤◌, min, Bool, true, false, List, length, drop, Some, None}
use Rattle.std.proofs.Common.{sym, ap, subst, ◌∙◌, inl, inr, arith}
use Rattle.std.specs.List.{slice_get}
use Rattle.std.proofs.lemmas.List.FromFn.{length-map-range_with_len, get_or-map-range_with_len}
use Rattle.std.proofs.lemmas.List.{length-take, length-drop}
use Rattle.std.proofs.lemmas.Option.{slice_get-get_or, slice_get_past}
use Rattle.std.proofs.lemmas.Bool.{cases_lt}
use Rattle.store.specs.declared.fault.Protection.{Protection}
use Rattle.store.specs.Blocks.{Block, Sized, Whole, WholeOf}
use Rattle.store.specs.Counts.{most_blocks}
use Rattle.image.specs.Memory.{part}
use Rattle.image.specs.Images.{block_of, blocks_by}

-- There are as many blocks as were to be made.
pub length_numbered : (n : ℕ) (f : ℕ → Block) → length (blocks_by n f) ≡ n
length_numbered n f = length-map-range_with_len f 0 n

-- Block i, where there is one, is the one made from i.
pub nth_numbered : (n : ℕ) (f : ℕ → Block) (i : ℕ) → i < n → slice_get (blocks_by n f) i ≡ Some (f i)
nth_numbered n f i h =
    slice_get-get_or (blocks_by n f) i (f i) (rw length_numbered h) ∙ ap Some (get_or-map-range_with_len f 0 n i i (f i) h (omega arith))

-- Past the count there is no block.
pub nth_numbered_past : (n : ℕ) (f : ℕ → Block) (i : ℕ) → n ≤ i → slice_get (blocks_by n f) i ≡ None
nth_numbered_past n f i h = slice_get_past (blocks_by n f) i (rw length_numbered h)

-- A part that lies in the memory has its length.
pub length_part : (bytes : List ℕ) (at n : ℕ) → at + n ≤ length bytes → length (part bytes at n) ≡ n
length_part bytes at n h = length-take n (drop at bytes) ∙ ap (min n) (length-drop at bytes) ∙ omega arith

-- A block made from 256 bytes is whole, marked or not.
whole_block : (mark : Bool) (bytes : List ℕ) (p : Protection) → length bytes ≡ 256 → WholeOf (block_of mark bytes p).contents
whole_block true bytes p e = tt
whole_block false bytes p e = e

-- Blocks with 256 bytes each, marked or not.
pub sized_numbered :
    (n : ℕ) (marks : ℕ → Bool) (bytes : ℕ → List ℕ) (p : Protection) → n ≤ most_blocks → ((i : ℕ) → i < n → length (bytes i) ≡ 256)
    → Sized (blocks_by n (λ i. block_of (marks i) (bytes i) p))
sized_numbered n marks bytes p few whole = record { few = rw (length_numbered n f) few; whole = at }
  where
    f : ℕ → Block
    f i = block_of (marks i) (bytes i) p

    at : (i : ℕ) → Whole (slice_get (blocks_by n f) i)
    at i = elim (cases_lt i n) [
      | inl h ↦ subst Whole (sym (nth_numbered n f i h)) (whole_block (marks i) (bytes i) p (whole i h))
      | inr h ↦ subst Whole (sym (nth_numbered_past n f i h)) tt
    ]
