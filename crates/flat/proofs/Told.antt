-- What memory and map tell of the blocks, and what a change of one bit leaves of the spare marks.
use Rattle.std.proofs.Common.{◌≡◌, ℕ, ◌-◌, ◌*◌, ◌/◌, ◌<◌, Bool, true, false, cond, List, length, map, Some, None, refl, sym, ap, subst, ◌∙◌, inl, inr, arith}
use Rattle.std.specs.List.{slice_get, range_with_len}
use Rattle.std.specs.Option.{unwrap_or}
use Rattle.std.proofs.lemmas.Bool.{cases_lt, cond_both}
use Rattle.store.specs.declared.fault.Protection.{Protection}
use Rattle.store.specs.Blocks.{Block, sound, damaged}
use Rattle.image.specs.declared.refusal.Refusal.TheVariants as refusals
use Rattle.image.specs.Memory.{part}
use Rattle.image.specs.Images.{block_of, blocks_by, unless_refused}
use Rattle.image.specs.Lawful.{nth_numbered, nth_numbered_past}
use Rattle.image.proofs.Numbered.{same_made}
use Rattle.flat.specs.Lengths.{flat_fits, flat_size}
use Rattle.flat.specs.Flat.{flat_block, flat_blocks, flat_offered, marked, spare_marks, FlatHolds, OnlyMark}
use Rattle.flat.proofs.FlatBlocks.{length_flat}

-- the spare marks are those of no block
pub spare_stays : (bytes : ℕ) (damage : List ℕ) (b : ℕ) (mark : Bool) (after : List ℕ) → b < flat_size bytes (length damage) → OnlyMark damage b mark after → spare_marks bytes after ≡ spare_marks bytes damage
spare_stays bytes damage b mark after h only =
    ap (λ n. map (marked after) (range_with_len (flat_size bytes n) (8 * n - flat_size bytes n))) only.long
    ∙ same_made (marked after) (marked damage) (flat_size bytes (length damage)) (8 * length damage - flat_size bytes (length damage)) (λ i low _. only.others i (λ e. omega arith))

-- one block, by its mark and bytes
contents_by : (mark : Bool) (xs : List ℕ) (p : Protection) (x : Block) → Some (block_of mark xs p) ≡ Some x → cond mark damaged (sound xs) ≡ x.contents
contents_by mark xs p x e = let f : block_of mark xs p ≡ x = cc in ap (λ (k : Block). k.contents) f

sound_by : (mark : Bool) (xs held : List ℕ) → cond mark damaged (sound xs) ≡ sound held → (xs ≡ held) × (mark ≡ false)
sound_by true xs held e = absurd cc
sound_by false xs held e = (cc, refl)

damaged_by : (mark : Bool) (xs : List ℕ) → cond mark damaged (sound xs) ≡ damaged → mark ≡ true
damaged_by true xs e = refl
damaged_by false xs e = absurd cc

module _ (bytes damage : List ℕ) (p : Protection) where
  abbrev size : ℕ
  size = flat_size (length bytes) (length damage)

  -- a block that is there is made of its mark and bytes
  made_here : (b : ℕ) (x : Block) → slice_get (flat_blocks bytes damage p) b ≡ Some x → cond (marked damage b) damaged (sound (part bytes (256 * b) 256)) ≡ x.contents
  made_here b x e = elim (cases_lt b size) [
    | inl h ↦ contents_by (marked damage b) (part bytes (256 * b) 256) p x (sym (nth_numbered size (flat_block bytes damage p) b h) ∙ e)
    | inr h ↦ let f : None ≡ Some x = sym (nth_numbered_past size (flat_block bytes damage p) b h) ∙ e in absurd cc
  ]

  pub flat_holds : FlatHolds bytes damage (flat_blocks bytes damage p)
  flat_holds = record {
    count = length_flat bytes damage p;
    whole = λ b held q e. sound_by (marked damage b) (part bytes (256 * b) 256) held (made_here b (record { contents = sound held; protection = q }) e);
    lost = λ b q e. damaged_by (marked damage b) (part bytes (256 * b) 256) (made_here b (record { contents = damaged; protection = q }) e);
  }

  -- memory that is refused has no blocks, so an image over it shows none
  pub offered_flat : flat_blocks bytes damage p ≡ flat_offered bytes damage p
  offered_flat =
      cond_both (flat_fits (length bytes) (length damage)) None (Some refusals.Lengths) (λ o. flat_blocks bytes damage p ≡ unless_refused o (flat_blocks bytes damage p))
      (λ _. refl)
      (λ e. ap (λ t. blocks_by (unwrap_or (cond t (Some (length bytes / 256)) None) 0) (flat_block bytes damage p)) e)

  pub offered_holds : FlatHolds bytes damage (flat_offered bytes damage p)
  offered_holds = subst (FlatHolds bytes damage) offered_flat flat_holds
