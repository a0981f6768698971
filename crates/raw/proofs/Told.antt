-- What memory tells of the blocks, and what a change of one block's record leaves of the rest.
use Rattle.std.proofs.Common.{◌≡◌, ℕ, ◌+◌, ◌-◌, ◌*◌, ◌≤◌, Bool, true, false, cond, not, eqb, List, ◌++◌, length, get_or, is_some, Some, None, Option, refl, sym, ap, subst, ◌∙◌, inl, inr, arith}
use Rattle.std.specs.List.{slice_get}
use Rattle.std.proofs.lemmas.Bool.{cases_eq, cases_lt, eqb-true, eq-eqb}
use Rattle.store.specs.declared.fault.Protection.{Protection}
use Rattle.store.specs.Blocks.{Block, sound, damaged}
use Rattle.image.specs.Memory.{part}
use Rattle.image.specs.declared.refusal.Refusal.{Refusal}
use Rattle.image.specs.declared.refusal.Refusal.TheVariants as refusals
use Rattle.image.specs.Images.{block_of, blocks_by, unless_refused}
use Rattle.image.specs.Lawful.{nth_numbered, nth_numbered_past}
use Rattle.image.proofs.Numbered.{same_made}
use Rattle.image.proofs.Parts.{part_part}
use Rattle.std.specs.Option.{unwrap_or}
use Rattle.std.proofs.lemmas.Bool.{and_parts}
use Rattle.raw.specs.Lengths.{records_fit, raw_fits, raw_count, misplaced, raw_size}
use Rattle.raw.specs.Raw.{raw_record, raw_block, raw_blocks, raw_offered, raw_refusal, spare_refusal, is_spare, record_rest, records_rest, RawHolds}

-- memory in which, of one record, only header byte 0 and the data are changed
module _ (before after spares : List ℕ) (r k : ℕ)
    (others : (m : ℕ) → (m ≡ k → ⊥) → part after (276 * m) 276 ≡ part before (276 * m) 276)
    (header : part after (276 * k + 1) 5 ≡ part before (276 * k + 1) 5)
    (trailer : part after (276 * k + 262) 14 ≡ part before (276 * k + 262) 14) where
  within : (m from n : ℕ) → from + n ≤ 276 → (m ≡ k → ⊥) → part after (276 * m + from) n ≡ part before (276 * m + from) n
  within m from n h ne = sym (part_part after (276 * m) 276 from n h) ∙ ap (λ xs. part xs from n) (others m ne) ∙ part_part before (276 * m) 276 from n h

  rest_of : (spare : Bool) (m : ℕ) → (spare ≡ true → m ≡ k → ⊥)
      → cond spare (part after (276 * m) 276) (part after (276 * m + 1) 5 ++ part after (276 * m + 262) 14) ≡ cond spare (part before (276 * m) 276) (part before (276 * m + 1) 5 ++ part before (276 * m + 262) 14)
  rest_of true m ne = others m (ne refl)
  rest_of false m ne = elim (cases_eq m k) [
    | inl e ↦ rw (e, header, trailer) refl
    | inr n ↦ rw (within m 1 5 (omega arith) n, within m 262 14 (omega arith) n) refl
  ]

  pub rest_stays : is_spare spares r k ≡ false → records_rest after spares r ≡ records_rest before spares r
  rest_stays other = same_made (record_rest after spares r) (record_rest before spares r) 0 (r * length spares) (λ m _ _. rest_of (is_spare spares r m) m (λ spare e. let f : true ≡ false = sym spare ∙ ap (is_spare spares r) e ∙ other in absurd cc))

-- one block, by its flag and data
contents_by : (mark : Bool) (xs : List ℕ) (p : Protection) (x : Block) → Some (block_of mark xs p) ≡ Some x → cond mark damaged (sound xs) ≡ x.contents
contents_by mark xs p x e = let f : block_of mark xs p ≡ x = cc in ap (λ (k : Block). k.contents) f

sound_by : (flag : ℕ) (xs held : List ℕ) (none : Bool) → eqb flag 0 ≡ none → cond (not none) damaged (sound xs) ≡ sound held → (xs ≡ held) × (flag ≡ 0)
sound_by flag xs held true z e = (cc, eqb-true flag 0 z)
sound_by flag xs held false z e = absurd cc

damaged_by : (flag : ℕ) (xs : List ℕ) (none : Bool) → eqb flag 0 ≡ none → cond (not none) damaged (sound xs) ≡ damaged → flag ≡ 0 → ⊥
damaged_by flag xs true z e is = absurd cc
damaged_by flag xs false z e is = let f : true ≡ false = sym (eq-eqb flag 0 is) ∙ z in absurd cc

module _ (bytes spares : List ℕ) (r : ℕ) (p : Protection) where
  abbrev flag : ℕ → ℕ
  flag b = get_or bytes (276 * raw_record spares r b) 0

  abbrev content : ℕ → List ℕ
  content b = part bytes (276 * raw_record spares r b + 6) 256

  made_here : (b : ℕ) (x : Block) → slice_get (raw_blocks bytes spares r p) b ≡ Some x → cond (not (eqb (flag b) 0)) damaged (sound (content b)) ≡ x.contents
  made_here b x e = elim (cases_lt b (raw_size (length bytes) spares r)) [
    | inl h ↦ contents_by (not (eqb (flag b) 0)) (content b) p x (sym (nth_numbered (raw_size (length bytes) spares r) (raw_block bytes spares r p) b h) ∙ e)
    | inr h ↦ let f : None ≡ Some x = sym (nth_numbered_past (raw_size (length bytes) spares r) (raw_block bytes spares r p) b h) ∙ e in absurd cc
  ]

  pub raw_holds : RawHolds bytes spares r (raw_blocks bytes spares r p)
  raw_holds = record {
    whole = λ b held q e. sound_by (flag b) (content b) held (eqb (flag b) 0) refl (made_here b (record { contents = sound held; protection = q }) e);
    lost = λ b q e is. damaged_by (flag b) (content b) (eqb (flag b) 0) refl (made_here b (record { contents = damaged; protection = q }) e) is;
  }

-- What the three tests of the refusal make of the count: the records of a track, the lengths, and the spare places.
abbrev count_by : Bool → Option ℕ → ℕ → ℕ
count_by fits m n = cond (is_some m) 0 (unwrap_or (cond fits (Some n) None) 0)

abbrev refusal_by : Bool → Bool → Option ℕ → Option Refusal
refusal_by two fits m = cond two (cond fits (spare_refusal m) (Some refusals.Lengths)) (Some refusals.Records)

none_by : (two fits : Bool) (m : Option ℕ) (n : ℕ) (x : Refusal) → (fits ≡ true → two ≡ true) → refusal_by two fits m ≡ Some x → count_by fits m n ≡ 0
none_by two fits (Some k) n x h e = refl
none_by two false None n x h e = refl
none_by true true None n x h e = absurd cc
none_by false true None n x h e = let f : false ≡ true = h refl in absurd cc

all_by : (two fits : Bool) (m : Option ℕ) (n : ℕ) → refusal_by two fits m ≡ None → count_by fits m n ≡ unwrap_or (cond fits (Some n) None) 0
all_by two fits None n e = refl
all_by true true (Some k) n e = absurd cc
all_by true false (Some k) n e = refl
all_by false fits (Some k) n e = absurd cc

module _ (n : ℕ) (spares : List ℕ) (r : ℕ) where
  fits_two : raw_fits n (length spares) r ≡ true → records_fit r ≡ true
  fits_two e = (and_parts (records_fit r) _ e).0

  -- memory that is refused has no blocks, and what is not refused has those that the lengths make
  pub size_refused : (x : Refusal) → raw_refusal n spares r ≡ Some x → raw_size n spares r ≡ 0
  size_refused x e = none_by (records_fit r) (raw_fits n (length spares) r) (misplaced r spares) (length spares * (r - 1)) x fits_two e

  pub size_accepted : raw_refusal n spares r ≡ None → raw_size n spares r ≡ unwrap_or (raw_count n (length spares) r) 0
  size_accepted e = all_by (records_fit r) (raw_fits n (length spares) r) (misplaced r spares) (length spares * (r - 1)) e

module _ (bytes spares : List ℕ) (r : ℕ) (p : Protection) where
  offered_by : (o : Option Refusal) → raw_refusal (length bytes) spares r ≡ o → raw_blocks bytes spares r p ≡ unless_refused o (raw_blocks bytes spares r p)
  offered_by None e = refl
  offered_by (Some x) e = ap (λ n. blocks_by n (raw_block bytes spares r p)) (size_refused (length bytes) spares r x e)

  pub offered_raw : raw_blocks bytes spares r p ≡ raw_offered bytes spares r p
  offered_raw = offered_by (raw_refusal (length bytes) spares r) refl

  pub offered_holds : RawHolds bytes spares r (raw_offered bytes spares r p)
  offered_holds = subst (RawHolds bytes spares r) offered_raw (raw_holds bytes spares r p)
