-- The blocks of a flat image, by its memory, and what a change of the memory makes of them.
use Rattle.std.proofs.Common.{◌≡◌, ℕ, ◌+◌, ◌*◌, ◌/◌, ◌<◌, ◌≤◌, false, cond, ltb, ◌⊎◌, List, [], length, set, Ok, Err, sym, ap, ◌∙◌, inl, inr, arith}
use Rattle.std.proofs.lemmas.Bool.{cases_order}
use Rattle.std.proofs.lemmas.Bool.Decides.{nat_tests}
use Rattle.store.specs.declared.fault.FaultKind.TheVariants as kinds
use Rattle.store.specs.declared.fault.Protection.{Protection}
use Rattle.store.specs.declared.fault.Protection.TheVariants as protections
use Rattle.store.specs.Blocks.{Block, damaged, fault, read_of, read_answer, buffer_of, read_buffer, write_of, write_answer, written_of, written, protection_answer}
use Rattle.image.specs.Memory.{part, laid}
use Rattle.image.specs.Images.{asked, block_of, blocks_by, harmed}
use Rattle.flat.specs.Lengths.{flat_size}
use Rattle.flat.specs.Flat.{flat_block, flat_blocks, marked, with_mark, without_mark}
use Rattle.image.specs.Lawful.{length_numbered}
use Rattle.image.proofs.Numbered.{set_numbered}
use Rattle.image.proofs.Parts.{length_laid, part_laid, part_laid_apart}
use Rattle.flat.proofs.OneBit.{marks_one, unmarks_one}
use Rattle.image.proofs.Calls.{then_answer, then_leaves, reads_answer, reads_buffer, writes_answer, writes_blocks, accepts, asks_protection, harms}

-- a block that is there has its bytes in the memory and its mark in the map
pub in_memory : (n m b : ℕ) → b < flat_size n m → 256 * b + 256 ≤ n
in_memory n m b h = grind (arith, nat_tests)

pub in_map : (n m b : ℕ) → b < flat_size n m → b / 8 < m
in_map n m b h = grind (arith, nat_tests)

module _ (bytes damage : List ℕ) (p : Protection) where
  abbrev size : ℕ
  size = flat_size (length bytes) (length damage)

  pub length_flat : length (flat_blocks bytes damage p) ≡ size
  length_flat = length_numbered size (flat_block bytes damage p)

  -- a block that is marked damaged in the map
  pub flat_harmed : (b : ℕ) → b < size → flat_blocks bytes (with_mark damage b) p ≡ set (flat_blocks bytes damage p) b (record { contents = damaged; protection = p })
  flat_harmed b h =
      let only = marks_one damage b (in_map (length bytes) (length damage) b h) in
      ap (λ n. blocks_by (flat_size (length bytes) n) (flat_block bytes (with_mark damage b) p)) only.long
      ∙ set_numbered size (flat_block bytes damage p) (flat_block bytes (with_mark damage b) p) b (record { contents = damaged; protection = p })
      (λ _. ap (λ m. block_of m (part bytes (256 * b) 256) p) only.here)
      (λ i _ ne. ap (λ m. block_of m (part bytes (256 * i) 256) p) (only.others i ne))

  -- a block that is given new bytes and marked sound
  pub flat_put : (b : ℕ) (new : List ℕ) → b < size → length new ≡ 256 → flat_blocks (laid bytes (256 * b) new) (without_mark damage b) p ≡ set (flat_blocks bytes damage p) b (block_of false new p)
  flat_put b new h whole =
      let only = unmarks_one damage b (in_map (length bytes) (length damage) b h) in
      let inside : 256 * b + length new ≤ length bytes = omega (arith, in_memory (length bytes) (length damage) b h) in
      let f : ℕ → Block = flat_block (laid bytes (256 * b) new) (without_mark damage b) p in
      ap (λ n. blocks_by (flat_size n (length (without_mark damage b))) f) (length_laid bytes (256 * b) new inside)
      ∙ ap (λ n. blocks_by (flat_size (length bytes) n) f) only.long
      ∙ set_numbered size (flat_block bytes damage p) f b (block_of false new p)
      (λ _. ap (λ m. block_of m (part (laid bytes (256 * b) new) (256 * b) 256) p) only.here ∙ ap (λ xs. block_of false xs p) (ap (part (laid bytes (256 * b) new) (256 * b)) (sym whole) ∙ part_laid bytes (256 * b) new inside))
      (λ i _ ne. ap (λ m. block_of m (part (laid bytes (256 * b) new) (256 * i) 256) p) (only.others i ne) ∙ ap (λ xs. block_of (marked damage i) xs p) (part_laid_apart bytes (256 * b) new inside (256 * i) 256 (apart i ne)))
    where
      apart : (i : ℕ) → (i ≡ b → ⊥) → (256 * i + 256 ≤ 256 * b) ⊎ (256 * b + length new ≤ 256 * i)
      apart i ne = elim (cases_order i b) [ inl e ↦ absurd (ne e) | inr o ↦ elim o [ inl l ↦ inl (omega arith) | inr l ↦ inr (omega arith) ] ]

  -- what each call answers and leaves
  pub flat_reads : (b : ℕ) (buffer : List ℕ) → (then_answer (asked (length buffer) b size) (read_of b (flat_block bytes damage p b).contents) ≡ read_answer (flat_blocks bytes damage p) b buffer) × (then_leaves (asked (length buffer) b size) (buffer_of buffer (flat_block bytes damage p b).contents) buffer ≡ read_buffer (flat_blocks bytes damage p) b buffer)
  flat_reads b buffer =
      (reads_answer size (marked damage) (λ i. part bytes (256 * i) 256) p b buffer, reads_buffer size (marked damage) (λ i. part bytes (256 * i) 256) p b buffer)

  pub flat_writes : (b : ℕ) (new : List ℕ) → (then_answer (asked (length new) b size) (write_of b p) ≡ write_answer (flat_blocks bytes damage p) b new) × (then_leaves (asked (length new) b size) (written_of (flat_blocks bytes damage p) b new p) (flat_blocks bytes damage p) ≡ written (flat_blocks bytes damage p) b new)
  flat_writes b new =
      (writes_answer size (marked damage) (λ i. part bytes (256 * i) 256) p b new, writes_blocks size (marked damage) (λ i. part bytes (256 * i) 256) p b new)

  pub flat_protects : (b : ℕ) → cond (ltb b size) (Ok p) (Err (fault kinds.Beyond b)) ≡ protection_answer (flat_blocks bytes damage p) b
  flat_protects b = asks_protection size (marked damage) (λ i. part bytes (256 * i) 256) p b []

  pub flat_harms : (b : ℕ) → cond (ltb b size) (set (flat_blocks bytes damage p) b (record { contents = damaged; protection = p })) (flat_blocks bytes damage p) ≡ harmed (flat_blocks bytes damage p) b
  flat_harms b = harms size (marked damage) (λ i. part bytes (256 * i) 256) p b []

  -- and an accepted write, all together
  pub flat_wrote : (b : ℕ) (new : List ℕ) → b < size → length new ≡ 256 → p ≡ protections.Open → (Ok tt ≡ write_answer (flat_blocks bytes damage p) b new) × (flat_blocks (laid bytes (256 * b) new) (without_mark damage b) p ≡ written (flat_blocks bytes damage p) b new)
  flat_wrote b new h whole free =
      let e = accepts size (marked damage) (λ i. part bytes (256 * i) 256) p b new h whole free in
      (e.0, flat_put b new h whole ∙ e.1)
