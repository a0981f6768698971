-- The blocks of a raw image, by its memory, and what a change of the memory makes of them.
use Rattle.std.proofs.Common.{◌≡◌, ℕ, ◌+◌, ◌*◌, ◌<◌, ◌≤◌, Bool, false, cond, not, eqb, ltb, ◌⊎◌, List, [], ◌∷◌, length, get_or, set, Ok, Err, sym, ap, ◌∙◌, inl, inr, add-zero, arith}
use Rattle.std.proofs.lemmas.List.{length-set, get_or-set_same}
use Rattle.std.proofs.lemmas.Bool.{cases_order}
use Rattle.store.specs.declared.fault.FaultKind.TheVariants as kinds
use Rattle.store.specs.declared.fault.Protection.{Protection}
use Rattle.store.specs.declared.fault.Protection.TheVariants as protections
use Rattle.store.specs.Blocks.{Block, damaged, fault, read_of, read_answer, buffer_of, read_buffer, write_of, write_answer, written_of, written, protection_answer}
use Rattle.image.specs.Memory.{part}
use Rattle.image.specs.Images.{asked, block_of, blocks_by, harmed}
use Rattle.raw.specs.Lengths.{raw_size}
use Rattle.raw.specs.Raw.{raw_record, raw_block, raw_blocks, with_data, with_flag, RecordWritten}
use Rattle.image.specs.Lawful.{length_numbered}
use Rattle.raw.specs.Lawful.{inside_raw}
use Rattle.image.proofs.Numbered.{set_numbered}
use Rattle.image.proofs.Parts.{length_laid, part_laid, getD_laid, part_laid_apart, set_laid, part_part, get_d_part}
use Rattle.raw.proofs.Records.{records_two, record_apart}
use Rattle.image.proofs.Calls.{then_answer, then_leaves, reads_answer, reads_buffer, writes_answer, writes_blocks, accepts, asks_protection, harms}

-- a record of the memory, and the two parts of it that a block is read from
flag_of : (bytes : List ℕ) (m : ℕ) → get_or bytes (276 * m) 0 ≡ get_or (part bytes (276 * m) 276) 0 0
flag_of bytes m = ap (λ k. get_or bytes k 0) (sym (add-zero (276 * m))) ∙ sym (get_d_part bytes (276 * m) 276 0 0 (omega arith))

data_of : (bytes : List ℕ) (m : ℕ) → part bytes (276 * m + 6) 256 ≡ part (part bytes (276 * m) 276) 6 256
data_of bytes m = sym (part_part bytes (276 * m) 276 6 256 (omega arith))

-- another record lies before or after
apart : (m k from n : ℕ) → (m ≡ k → ⊥) → 276 * k ≤ from → from + n ≤ 276 * k + 276 → (276 * m + 276 ≤ from) ⊎ (from + n ≤ 276 * m)
apart m k from n ne low high = elim (cases_order m k) [ inl e ↦ absurd (ne e) | inr o ↦ elim o [ inl l ↦ inl (omega arith) | inr l ↦ inr (omega arith) ] ]

-- one record with its header byte 0 set
module _ (bytes : List ℕ) (k v : ℕ) (inside : 276 * k + 276 ≤ length bytes) where
  pub flag_others : (m : ℕ) → (m ≡ k → ⊥) → part (set bytes (276 * k) v) (276 * m) 276 ≡ part bytes (276 * m) 276
  flag_others m ne =
      ap (λ xs. part xs (276 * m) 276) (set_laid bytes (276 * k) v (omega arith))
      ∙ part_laid_apart bytes (276 * k) (v ∷ []) (omega arith) (276 * m) 276 (apart m k (276 * k) 1 ne (omega arith) (omega arith))

  pub flag_rest : (from n : ℕ) → 276 * k < from → part (set bytes (276 * k) v) from n ≡ part bytes from n
  flag_rest from n h =
      ap (λ xs. part xs from n) (set_laid bytes (276 * k) v (omega arith))
      ∙ part_laid_apart bytes (276 * k) (v ∷ []) (omega arith) from n (inr (omega arith))

-- one record with new data
module _ (bytes : List ℕ) (k : ℕ) (new : List ℕ) (inside : 276 * k + 276 ≤ length bytes) (whole : length new ≡ 256) where
  abbrev flagged : List ℕ
  flagged = set bytes (276 * k) 0

  fits : 276 * k + 6 + length new ≤ length flagged
  fits = omega (arith, length-set bytes (276 * k) 0)

  rest : (from n : ℕ) → 276 * k < from → (from + n ≤ 276 * k + 6) ⊎ (276 * k + 262 ≤ from) → part (with_data bytes k new) from n ≡ part bytes from n
  rest from n h side = part_laid_apart flagged (276 * k + 6) new fits from n (sides side) ∙ flag_rest bytes k 0 inside from n h
    where
      sides : (from + n ≤ 276 * k + 6) ⊎ (276 * k + 262 ≤ from) → (from + n ≤ 276 * k + 6) ⊎ (276 * k + 6 + length new ≤ from)
      sides (inl a) = inl a
      sides (inr a) = inr (omega arith)

  pub writes_record : RecordWritten bytes k new (with_data bytes k new)
  writes_record = record {
    flag = getD_laid flagged (276 * k + 6) new fits (276 * k) 0 (inl (omega arith)) ∙ get_or-set_same bytes (276 * k) 0 0 (omega arith);
    header = rest (276 * k + 1) 5 (omega arith) (inl (omega arith));
    content = ap (part (with_data bytes k new) (276 * k + 6)) (sym whole) ∙ part_laid flagged (276 * k + 6) new fits;
    trailer = rest (276 * k + 262) 14 (omega arith) (inr (omega arith));
    others = λ m ne. part_laid_apart flagged (276 * k + 6) new fits (276 * m) 276 (apart m k (276 * k + 6) (length new) ne (omega arith) (omega arith)) ∙ flag_others bytes k 0 inside m ne;
    long = length_laid flagged (276 * k + 6) new fits ∙ length-set bytes (276 * k) 0;
  }

module _ (bytes spares : List ℕ) (r : ℕ) (p : Protection) where
  abbrev size : ℕ
  size = raw_size (length bytes) spares r

  abbrev at : ℕ → ℕ
  at = raw_record spares r

  abbrev marks : List ℕ → ℕ → Bool
  marks xs i = not (eqb (get_or xs (276 * at i) 0) 0)

  abbrev datas : List ℕ → ℕ → List ℕ
  datas xs i = part xs (276 * at i + 6) 256

  pub length_raw : length (raw_blocks bytes spares r p) ≡ size
  length_raw = length_numbered size (raw_block bytes spares r p)

  -- memory in which only the record of block b is changed
  only_record :
      (b : ℕ) (after : List ℕ) (x : Block) → b < size → length after ≡ length bytes → ((m : ℕ) → (m ≡ at b → ⊥) → part after (276 * m) 276 ≡ part bytes (276 * m) 276)
      → block_of (marks after b) (datas after b) p ≡ x
      → raw_blocks after spares r p ≡ set (raw_blocks bytes spares r p) b x
  only_record b after x h long others here =
      ap (λ n. blocks_by (raw_size n spares r) (raw_block after spares r p)) long
      ∙ set_numbered size (raw_block bytes spares r p) (raw_block after spares r p) b x (λ _. here) same
    where
      same : (i : ℕ) → i < size → (i ≡ b → ⊥) → raw_block after spares r p i ≡ raw_block bytes spares r p i
      same i l ne =
          let e = others (at i) (record_apart spares r (records_two (length bytes) spares r b h) i b ne) in
          let f : get_or after (276 * at i) 0 ≡ get_or bytes (276 * at i) 0 = flag_of after (at i) ∙ ap (λ xs. get_or xs 0 0) e ∙ sym (flag_of bytes (at i)) in
          let g : datas after i ≡ datas bytes i = data_of after (at i) ∙ ap (λ xs. part xs 6 256) e ∙ sym (data_of bytes (at i)) in
          ap (λ v. block_of (not (eqb v 0)) (datas after i) p) f ∙ ap (λ xs. block_of (marks bytes i) xs p) g

  pub raw_harmed : (b : ℕ) → b < size → raw_blocks (with_flag bytes (at b)) spares r p ≡ set (raw_blocks bytes spares r p) b (record { contents = damaged; protection = p })
  raw_harmed b h =
      let inside = inside_raw spares (length bytes) r b h in
      only_record b (with_flag bytes (at b)) (record { contents = damaged; protection = p }) h (length-set bytes (276 * at b) 1) (flag_others bytes (at b) 1 inside)
      (ap (λ v. block_of (not (eqb v 0)) (datas (with_flag bytes (at b)) b) p) (get_or-set_same bytes (276 * at b) 1 0 (omega arith)))

  pub raw_put : (b : ℕ) (new : List ℕ) → b < size → length new ≡ 256 → raw_blocks (with_data bytes (at b) new) spares r p ≡ set (raw_blocks bytes spares r p) b (block_of false new p)
  raw_put b new h whole =
      let only = writes_record bytes (at b) new (inside_raw spares (length bytes) r b h) whole in
      only_record b (with_data bytes (at b) new) (block_of false new p) h only.long only.others
      (ap (λ v. block_of (not (eqb v 0)) (datas (with_data bytes (at b) new) b) p) only.flag ∙ ap (λ xs. block_of false xs p) only.content)

  -- what each call answers and leaves
  pub raw_reads : (b : ℕ) (buffer : List ℕ) → (then_answer (asked (length buffer) b size) (read_of b (raw_block bytes spares r p b).contents) ≡ read_answer (raw_blocks bytes spares r p) b buffer) × (then_leaves (asked (length buffer) b size) (buffer_of buffer (raw_block bytes spares r p b).contents) buffer ≡ read_buffer (raw_blocks bytes spares r p) b buffer)
  raw_reads b buffer = (reads_answer size (marks bytes) (datas bytes) p b buffer, reads_buffer size (marks bytes) (datas bytes) p b buffer)

  pub raw_writes : (b : ℕ) (new : List ℕ) → (then_answer (asked (length new) b size) (write_of b p) ≡ write_answer (raw_blocks bytes spares r p) b new) × (then_leaves (asked (length new) b size) (written_of (raw_blocks bytes spares r p) b new p) (raw_blocks bytes spares r p) ≡ written (raw_blocks bytes spares r p) b new)
  raw_writes b new = (writes_answer size (marks bytes) (datas bytes) p b new, writes_blocks size (marks bytes) (datas bytes) p b new)

  pub raw_wrote : (b : ℕ) (new : List ℕ) → b < size → length new ≡ 256 → p ≡ protections.Open → (Ok tt ≡ write_answer (raw_blocks bytes spares r p) b new) × (raw_blocks (with_data bytes (at b) new) spares r p ≡ written (raw_blocks bytes spares r p) b new)
  raw_wrote b new h whole free = let e = accepts size (marks bytes) (datas bytes) p b new h whole free in (e.0, raw_put b new h whole ∙ e.1)

  pub raw_protects : (b : ℕ) → cond (ltb b size) (Ok p) (Err (fault kinds.Beyond b)) ≡ protection_answer (raw_blocks bytes spares r p) b
  raw_protects b = asks_protection size (marks bytes) (datas bytes) p b []

  pub raw_harms : (b : ℕ) → cond (ltb b size) (set (raw_blocks bytes spares r p) b (record { contents = damaged; protection = p })) (raw_blocks bytes spares r p) ≡ harmed (raw_blocks bytes spares r p) b
  raw_harms b = harms size (marks bytes) (datas bytes) p b []
