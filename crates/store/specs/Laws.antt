-- Laws that every store keeps, in terms of what a reader gets.
use Rattle.std.specs.Prelude.{◌≡◌, ℕ, List, length, Ok, Err, Result, ◌≢◌}
use Rattle.store.specs.declared.fault.StoreFault.{StoreFault}
use Rattle.store.specs.Blocks.{Block, read_answer, read_buffer, protection_answer}

-- Whoever reads block b, with any buffer of a block's length, gets these bytes.
abbrev pub Gives : List Block → ℕ → List ℕ → Type 0
Gives bs b bytes = (buffer : List ℕ) → length buffer ≡ 256 → (read_answer bs b buffer ≡ Ok tt) × (read_buffer bs b buffer ≡ bytes)

-- Whoever reads block b, with any buffer at all, gets the same from both.
abbrev pub ReadsAlike : List Block → List Block → ℕ → Type 0
ReadsAlike bs cs b = (buffer : List ℕ) → (read_answer bs b buffer ≡ read_answer cs b buffer) × (read_buffer bs b buffer ≡ read_buffer cs b buffer)

-- What a write does to readers: an accepted one is read back, every other block reads as before, a refused one is not seen at all, and neither the count nor any block's protection changes.
pub record WriteLaw (before : List Block) (b : ℕ) (bytes : List ℕ) (answer : Result (Unit {0}) StoreFault) (after : List Block) : Type 0 where
  pub read_back : answer ≡ Ok tt → Gives after b bytes
  pub others : (j : ℕ) → (j ≢ b) → ReadsAlike after before j
  pub refused : (f : StoreFault) → answer ≡ Err f → after ≡ before
  pub count : length after ≡ length before
  pub protection : (j : ℕ) → protection_answer after j ≡ protection_answer before j
