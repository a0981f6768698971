-- What reading, writing and asking for the protection answer, by what stands at the block.
use Rattle.std.proofs.Common.{◌≡◌, ℕ, ◌<◌, Bool, false, cond, eqb, ltb, List, length, set, Some, None, Ok, Err, Option, Result, sym, refl, ap, ◌∙◌, inl, inr}
use Rattle.std.specs.List.{slice_get}
use Rattle.std.proofs.lemmas.Bool.{cases_Bool, cases_lt, lt-ltb, le-ltb}
use Rattle.store.specs.declared.fault.StoreFault.{StoreFault}
use Rattle.store.specs.declared.fault.FaultKind.TheVariants as kinds
use Rattle.store.specs.declared.fault.Protection.{Protection}
use Rattle.store.specs.declared.fault.Protection.TheVariants as protections
use Rattle.store.specs.Blocks.{Block, damaged, fault, if_whole, read_of, read_at, read_answer, buffer_of, buffer_at, read_buffer, write_of, write_at, write_answer, written_of, written_at, written, protection_at, protection_answer}
use Rattle.image.specs.Images.{asked, block_of, blocks_by, harmed, harmed_at}
use Rattle.image.specs.Lawful.{nth_numbered, nth_numbered_past}

-- what a call answers and leaves, once it was asked: a refusal, or what the block gives
abbrev pub then_answer : Result ℕ StoreFault → Result (Unit {0}) StoreFault → Result (Unit {0}) StoreFault
then_answer (Ok k) r = r
then_answer (Err f) r = Err f

abbrev pub then_leaves : {X : Type 0} → Result ℕ StoreFault → X → X → X
then_leaves (Ok k) new old = new
then_leaves (Err f) new old = old

module _ (n : ℕ) (marks : ℕ → Bool) (bytes : ℕ → List ℕ) (p : Protection) (b : ℕ) (buffer : List ℕ) where
  abbrev all : List Block
  all = blocks_by n (λ i. block_of (marks i) (bytes i) p)

  -- the three ways: a buffer of another length, a block that is not there, a block that is
  by_asked : {X : Type 0} (F : Option Block → X) (refused : X) (of : Result ℕ StoreFault → X)
      → of (Err (fault kinds.Length b)) ≡ refused
      → of (Err (fault kinds.Beyond b)) ≡ F None
      → of (Ok b) ≡ F (Some (block_of (marks b) (bytes b) p))
      → of (asked (length buffer) b n) ≡ if_whole buffer (F (slice_get all b)) refused
  by_asked F refused of short beyond there = elim (cases_Bool (eqb (length buffer) 256)) [
    | inl t ↦ elim (cases_lt b n) [
      | inl h ↦ rw (t, lt-ltb b n h, nth_numbered n (λ i. block_of (marks i) (bytes i) p) b h) there
      | inr h ↦ rw (t, le-ltb b n h, nth_numbered_past n (λ i. block_of (marks i) (bytes i) p) b h) beyond
    ]
    | inr t ↦ rw t short
  ]

  pub reads_answer : then_answer (asked (length buffer) b n) (read_of b (block_of (marks b) (bytes b) p).contents) ≡ read_answer all b buffer
  reads_answer = by_asked (read_at b) (Err (fault kinds.Length b)) (λ r. then_answer r (read_of b (block_of (marks b) (bytes b) p).contents)) refl refl refl

  pub reads_buffer : then_leaves (asked (length buffer) b n) (buffer_of buffer (block_of (marks b) (bytes b) p).contents) buffer ≡ read_buffer all b buffer
  reads_buffer = by_asked (buffer_at buffer) buffer (λ r. then_leaves r (buffer_of buffer (block_of (marks b) (bytes b) p).contents) buffer) refl refl refl

  pub writes_answer : then_answer (asked (length buffer) b n) (write_of b p) ≡ write_answer all b buffer
  writes_answer = by_asked (write_at b) (Err (fault kinds.Length b)) (λ r. then_answer r (write_of b p)) refl refl refl

  pub writes_blocks : then_leaves (asked (length buffer) b n) (written_of all b buffer p) all ≡ written all b buffer
  writes_blocks = by_asked (written_at all b buffer) all (λ r. then_leaves r (written_of all b buffer p) all) refl refl refl

  pub accepts : b < n → length buffer ≡ 256 → p ≡ protections.Open → (Ok tt ≡ write_answer all b buffer) × (set all b (block_of false buffer p) ≡ written all b buffer)
  accepts h whole free =
      let e = nth_numbered n (λ i. block_of (marks i) (bytes i) p) b h in
      (rw (whole, e, free), ap (λ q. set all b (block_of false buffer q)) free ∙ sym (ap (written_of all b buffer) free) ∙ rw (whole, e))

  -- and of a call that takes no buffer, two
  by_number : {X : Type 0} (F : Option Block → X) → cond (ltb b n) (F (Some (block_of (marks b) (bytes b) p))) (F None) ≡ F (slice_get all b)
  by_number F = elim (cases_lt b n) [
    | inl h ↦ rw (lt-ltb b n h, nth_numbered n (λ i. block_of (marks i) (bytes i) p) b h)
    | inr h ↦ rw (le-ltb b n h, nth_numbered_past n (λ i. block_of (marks i) (bytes i) p) b h)
  ]

  pub asks_protection : cond (ltb b n) (Ok p) (Err (fault kinds.Beyond b)) ≡ protection_answer all b
  asks_protection = by_number (protection_at b)

  pub harms : cond (ltb b n) (set all b (record { contents = damaged; protection = p })) all ≡ harmed all b
  harms = by_number (harmed_at all b)
