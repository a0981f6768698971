-- What a write leaves at each block, and so what every reader gets after it.
use Rattle.std.proofs.Common.{◌≡◌, ℕ, zero, suc, Bool, true, false, cond, eqb, List, [], ◌∷◌, length, set, Some, None, Ok, Err, Option, sym, refl, ap, ◌∙◌, inl, inr}
use Rattle.std.specs.List.{slice_get}
use Rattle.std.specs.Option.{option_map}
use Rattle.std.proofs.lemmas.List.{length-set}
use Rattle.std.proofs.lemmas.Bool.{cases_Bool, cases_eq, eqb-true}
use Rattle.store.specs.declared.fault.StoreFault.{StoreFault}
use Rattle.store.specs.declared.fault.Protection.{Protection}
use Rattle.store.specs.declared.fault.Protection.TheVariants as protections
use Rattle.store.specs.Blocks.{Block, if_whole, open_block, protection_at, protections_of, taken, taken_of, write_at, write_of, write_answer, written, written_at, written_of}
use Rattle.store.specs.Laws.{Gives, ReadsAlike, WriteLaw}
use Rattle.store.proofs.Nth.{nth_set_same, nth_set_other}

-- one block's protection is what decides, so each fact is shown for both
module _ (bs : List Block) (b : ℕ) (bytes : List ℕ) where
  pub length_written : length (written bs b bytes) ≡ length bs
  length_written = whole (eqb (length bytes) 256) (slice_get bs b)
    where
      of : (p : Protection) → length (written_of bs b bytes p) ≡ length bs
      of protections.Open = length-set bs b (open_block bytes)
      of protections.Protected = refl

      whole : (t : Bool) (o : Option Block) → length (cond t (written_at bs b bytes o) bs) ≡ length bs
      whole true None = refl
      whole true (Some k) = of k.protection
      whole false o = refl

  pub nth_written_other : (j : ℕ) → (j ≡ b → ⊥) → slice_get (written bs b bytes) j ≡ slice_get bs j
  nth_written_other j ne = whole (eqb (length bytes) 256) (slice_get bs b)
    where
      of : (p : Protection) → slice_get (written_of bs b bytes p) j ≡ slice_get bs j
      of protections.Open = nth_set_other bs b j (open_block bytes) ne
      of protections.Protected = refl

      whole : (t : Bool) (o : Option Block) → slice_get (cond t (written_at bs b bytes o) bs) j ≡ slice_get bs j
      whole true None = refl
      whole true (Some k) = of k.protection
      whole false o = refl

  pub nth_written_same : slice_get (written bs b bytes) b ≡ option_map (taken bytes) (slice_get bs b)
  nth_written_same = whole (slice_get bs b) refl
    where
      of : (k : Block) (p : Protection) → slice_get bs b ≡ Some k → slice_get (if_whole bytes (written_of bs b bytes p) bs) b ≡ Some (taken_of bytes k p)
      of k protections.Open e = elim (cases_Bool (eqb (length bytes) 256)) [
        | inl t ↦ rw t (nth_set_same bs b (open_block bytes) ∙ ap (option_map (λ _. open_block bytes)) e)
        | inr t ↦ rw t e
      ]
      of k protections.Protected e = elim (cases_Bool (eqb (length bytes) 256)) [ inl t ↦ rw t e | inr t ↦ rw t e ]

      none : slice_get bs b ≡ None → slice_get (if_whole bytes bs bs) b ≡ None
      none e = elim (cases_Bool (eqb (length bytes) 256)) [ inl t ↦ rw t e | inr t ↦ rw t e ]

      whole : (o : Option Block) → slice_get bs b ≡ o → slice_get (if_whole bytes (written_at bs b bytes o) bs) b ≡ option_map (taken bytes) o
      whole None e = none e
      whole (Some k) e = of k k.protection e

-- a write of a whole block is taken only where the block is open
pub permitted : (b : ℕ) (p : Protection) → write_of b p ≡ Ok tt → p ≡ protections.Open
permitted b protections.Open e = refl
permitted b protections.Protected e = cc

pub protection_taken : (bytes : List ℕ) (k : Block) (p : Protection) → k.protection ≡ p → (taken_of bytes k p).protection ≡ k.protection
protection_taken bytes k protections.Open e = elim (cases_Bool (eqb (length bytes) 256)) [ inl t ↦ rw t (sym e) | inr t ↦ rw t refl ]
protection_taken bytes k protections.Protected e = refl

module _ (bs : List Block) (b : ℕ) (bytes : List ℕ) where
  protection_written : (j : ℕ) → protection_at j (slice_get (written bs b bytes) j) ≡ protection_at j (slice_get bs j)
  protection_written j =
      elim (cases_eq j b) [
        | inl e ↦ ap (λ i. protection_at j (slice_get (written bs b bytes) i)) e ∙ ap (protection_at j) (nth_written_same bs b bytes) ∙ at (slice_get bs b) ∙ ap (λ i. protection_at j (slice_get bs i)) (sym e)
        | inr ne ↦ ap (protection_at j) (nth_written_other bs b bytes j ne)
      ]
    where
      at : (o : Option Block) → protection_at j (option_map (taken bytes) o) ≡ protection_at j o
      at None = refl
      at (Some k) = ap Ok (protection_taken bytes k k.protection refl)

  -- an answer tells how long the bytes are and what stood at the block
  accepted : write_answer bs b bytes ≡ Ok tt → (length bytes ≡ 256) × ((k : Block) × (slice_get bs b ≡ Some k) × (k.protection ≡ protections.Open))
  accepted a = elim (cases_Bool (eqb (length bytes) 256)) [ inl t ↦ (eqb-true (length bytes) 256 t, at (slice_get bs b) refl (rw t at a)) | inr t ↦ let f = rw t at a in cc ]
    where
      at : (o : Option Block) → slice_get bs b ≡ o → write_at b o ≡ Ok tt → (k : Block) × (slice_get bs b ≡ Some k) × (k.protection ≡ protections.Open)
      at None e f = cc
      at (Some k) e f = (k, e, permitted b k.protection f)

  read_back : write_answer bs b bytes ≡ Ok tt → Gives (written bs b bytes) b bytes
  read_back a buffer whole =
      let h = accepted a in
      let e : slice_get (written bs b bytes) b ≡ Some (open_block bytes) = nth_written_same bs b bytes ∙ ap (option_map (taken bytes)) h.1.1 ∙ taken_open h.1.0 h.0 h.1.2 in
      (rw (whole, e), rw (whole, e))
    where
      taken_open : (k : Block) → length bytes ≡ 256 → k.protection ≡ protections.Open → Some (taken bytes k) ≡ Some (open_block bytes)
      taken_open k l o = rw (o, l)

  pub refused_same : (f : StoreFault) → write_answer bs b bytes ≡ Err f → written bs b bytes ≡ bs
  refused_same f a = elim (cases_Bool (eqb (length bytes) 256)) [ inl t ↦ rw t (at (slice_get bs b) (rw t at a)) | inr t ↦ rw t refl ]
    where
      of : (p : Protection) → write_of b p ≡ Err f → written_of bs b bytes p ≡ bs
      of protections.Open e = cc
      of protections.Protected e = refl

      at : (o : Option Block) → write_at b o ≡ Err f → written_at bs b bytes o ≡ bs
      at None e = refl
      at (Some k) e = of k.protection e

  others_alike : (j : ℕ) → (j ≡ b → ⊥) → ReadsAlike (written bs b bytes) bs j
  others_alike j ne buffer = let e = nth_written_other bs b bytes j ne in (rw e, rw e)

  pub write_law : WriteLaw bs b bytes (write_answer bs b bytes) (written bs b bytes)
  write_law = record {
    read_back = read_back;
    others = others_alike;
    refused = refused_same;
    count = length_written bs b bytes;
    protection = protection_written;
  }

-- a block in the place of one of the same protection
protections_set : (bs : List Block) (b : ℕ) (k x : Block) → slice_get bs b ≡ Some k → x.protection ≡ k.protection → protections_of (set bs b x) ≡ protections_of bs
protections_set [] b k x e p = refl
protections_set (y ∷ ys) zero k x e p = let f : y ≡ k = cc in ap (λ q. q ∷ protections_of ys) (p ∙ ap (λ (j : Block). j.protection) (sym f))
protections_set (y ∷ ys) (suc b) k x e p = ap (λ l. y.protection ∷ l) (protections_set ys b k x e p)

-- no write changes whether a block may be written
pub protections_written : (bs : List Block) (b : ℕ) (bytes : List ℕ) → protections_of (written bs b bytes) ≡ protections_of bs
protections_written bs b bytes = whole (eqb (length bytes) 256) (slice_get bs b) refl
  where
    of : (k : Block) (p : Protection) → slice_get bs b ≡ Some k → k.protection ≡ p → protections_of (written_of bs b bytes p) ≡ protections_of bs
    of k protections.Open e f = protections_set bs b k (open_block bytes) e (sym f)
    of k protections.Protected e f = refl

    whole : (t : Bool) (o : Option Block) → slice_get bs b ≡ o → protections_of (cond t (written_at bs b bytes o) bs) ≡ protections_of bs
    whole true None e = refl
    whole true (Some k) e = of k k.protection e refl
    whole false o e = refl
