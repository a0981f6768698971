-- A part of memory after something was laid over it.
use Rattle.std.proofs.Common.{◌≡◌, ℕ, ◌+◌, ◌-◌, ◌<◌, ◌≤◌, min, cond, eqb, ◌&&◌, ◌⊎◌, List, [], ◌∷◌, ◌++◌, length, get_or, take, drop, set, sym, refl, ap, ◌∙◌, inl, inr, add-one, arith, rules}
use borrow.Rule.Slice.PartMut.{put_mid}
use Rattle.std.proofs.lemmas.List.{length-take, length-drop, length-take-le, take_at, drop_at, drop-drop, get_or-take, get_or-drop, set_split, drop-take, take-take, same_lists, places}
use Rattle.image.specs.Memory.{part, laid}

-- what a write to a part of a slice leaves is what is laid there
pub laid_over : (bytes : List ℕ) (at k : ℕ) (new : List ℕ) → length new ≡ k → put_mid at k bytes new ≡ laid bytes at new
laid_over bytes at k new e = rw (drop-drop k at bytes, e)

module _ (bytes : List ℕ) (at : ℕ) (new : List ℕ) (inside : at + length new ≤ length bytes) where
  pub length_laid : length (laid bytes at new) ≡ length bytes
  length_laid = search (rules, places)

  pub part_laid : part (laid bytes at new) at (length new) ≡ new
  part_laid =
      let l : length (take at bytes) ≡ at = length-take-le at bytes (omega arith) in
      ap (take (length new)) (drop_at (take at bytes) (new ++ drop (at + length new) bytes) at l)
      ∙ take_at new (drop (at + length new) bytes) (length new) refl

  -- a byte that lies before or after
  pub getD_laid : (i d : ℕ) → (i < at) ⊎ (at + length new ≤ i) → get_or (laid bytes at new) i d ≡ get_or bytes i d
  getD_laid i d (inl h) = search (rules, places)
  getD_laid i d (inr h) = search (rules, places)

  -- a part that lies before or after
  pub part_laid_apart : (from n : ℕ) → (from + n ≤ at) ⊎ (at + length new ≤ from) → part (laid bytes at new) from n ≡ part bytes from n
  part_laid_apart from n apart =
      same_lists (part (laid bytes at new) from n) (part bytes from n)
      (long (laid bytes at new) ∙ ap (λ m. min n (m - from)) length_laid ∙ sym (long bytes))
      (λ k d l. let m : k < n = omega (arith, long (laid bytes at new)) in there (laid bytes at new) k d m ∙ getD_laid (from + k) d (apart_at k m apart) ∙ sym (there bytes k d m))
    where
      long : (xs : List ℕ) → length (part xs from n) ≡ min n (length xs - from)
      long xs = length-take n (drop from xs) ∙ ap (min n) (length-drop from xs)

      there : (xs : List ℕ) (k d : ℕ) → k < n → get_or (part xs from n) k d ≡ get_or xs (from + k) d
      there xs k d h = get_or-take n (drop from xs) k d h ∙ get_or-drop from xs k d

      apart_at : (k : ℕ) → k < n → (from + n ≤ at) ⊎ (at + length new ≤ from) → (from + k < at) ⊎ (at + length new ≤ from + k)
      apart_at k h (inl a) = inl (omega arith)
      apart_at k h (inr a) = inr (omega arith)

-- one byte set is one byte laid
pub set_laid : (bytes : List ℕ) (at v : ℕ) → at < length bytes → set bytes at v ≡ laid bytes at (v ∷ [])
set_laid bytes at v h = rw (add-one at) (set_split bytes at v h)

-- a part of a part, and a byte of one
pub part_part : (bytes : List ℕ) (at n k m : ℕ) → k + m ≤ n → part (part bytes at n) k m ≡ part bytes (at + k) m
part_part bytes at n k m h =
    let e : n ≡ k + (n - k) = omega arith in
    ap (λ j. take m (drop k (take j (drop at bytes)))) e
    ∙ ap (take m) (drop-take k (n - k) (drop at bytes))
    ∙ take-take m (n - k) (drop k (drop at bytes)) (omega arith)
    ∙ ap (take m) (drop-drop k at bytes)

pub get_d_part : (bytes : List ℕ) (at n k d : ℕ) → k < n → get_or (part bytes at n) k d ≡ get_or bytes (at + k) d
get_d_part bytes at n k d h = get_or-take n (drop at bytes) k d h ∙ get_or-drop at bytes k d

-- a block that is copied whole
pub copied : (from to : List ℕ) → length from ≡ 256 → length to ≡ 256 → cond (eqb (length from) 256 && eqb (length to) 256) from to ≡ from
copied from to f t = rw (f, t) refl
