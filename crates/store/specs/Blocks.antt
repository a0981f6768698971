-- What a block store is, and what each call of one answers and leaves.
use Rattle.std.specs.Prelude.{◌≡◌, ℕ, ◌≤◌, Bool, true, false, cond, List, map, length, Some, None, Ok, Err, Option, Result, ◌==◌, slice_set}
use Rattle.std.specs.List.{slice_get}
use Rattle.store.specs.declared.fault.FaultKind.{FaultKind}
use Rattle.store.specs.declared.fault.FaultKind.TheVariants as kinds
use Rattle.store.specs.declared.fault.StoreFault.{StoreFault}
use Rattle.store.specs.declared.fault.Protection.{Protection}
use Rattle.store.specs.declared.fault.Protection.TheVariants as protections
use Rattle.store.specs.Counts.{most_blocks}

-- A block is sound, with its bytes, or damaged.
pub data Contents : Type 0 where
  sound : List ℕ → Contents
  damaged : Contents

-- And it is open or protected. A store means a list of blocks; block b is the b-th from 0.
pub record Block : Type 0 where
  pub contents : Contents
  pub protection : Protection

-- An open block that is sound with these bytes.
abbrev pub open_block : List ℕ → Block
open_block bytes = record { contents = sound bytes; protection = protections.Open }

-- A fault holds its kind and the block's number.
abbrev pub fault : FaultKind → ℕ → StoreFault
fault k b = record { kind = k; block = b }

-- First of all a buffer must have 256 bytes, else the fault is "length", whatever the number.
abbrev pub if_whole : {X : Type 0} → List ℕ → X → X → X
if_whole buffer x y = cond (length buffer == 256) x y

-- Read: a sound block answers, a damaged one is the fault "damaged", and a number not below the count "beyond".
abbrev pub read_of : ℕ → Contents → Result (Unit {0}) StoreFault
read_of b (sound bytes) = Ok tt
read_of b damaged = Err (fault kinds.Damaged b)

-- A read at a number: what the block there answers; where there is none, the fault is "beyond".
abbrev pub read_at : ℕ → Option Block → Result (Unit {0}) StoreFault
read_at b None = Err (fault kinds.Beyond b)
read_at b (Some k) = read_of b k.contents

-- What a read answers: the length of the buffer is looked at first, then the block of that number.
abbrev pub read_answer : List Block → ℕ → List ℕ → Result (Unit {0}) StoreFault
read_answer bs b buffer = if_whole buffer (read_at b (slice_get bs b)) (Err (fault kinds.Length b))

-- The buffer after a read: the bytes of a sound block, and otherwise what it held.
abbrev pub buffer_of : List ℕ → Contents → List ℕ
buffer_of buffer (sound bytes) = bytes
buffer_of buffer damaged = buffer

-- The buffer after a read at a number: where there is no block, what it held.
abbrev pub buffer_at : List ℕ → Option Block → List ℕ
buffer_at buffer None = buffer
buffer_at buffer (Some k) = buffer_of buffer k.contents

-- The buffer after a read; one that has not 256 bytes holds what it held.
abbrev pub read_buffer : List Block → ℕ → List ℕ → List ℕ
read_buffer bs b buffer = if_whole buffer (buffer_at buffer (slice_get bs b)) buffer

-- A block's bytes by themselves, for whoever lends no buffer: those of a sound block, else the fault of a read.
abbrev pub fetched_of : ℕ → Contents → Result (List ℕ) StoreFault
fetched_of b (sound bytes) = Ok bytes
fetched_of b damaged = Err (fault kinds.Damaged b)

-- A block's bytes at a number; where there is no block, the fault is "beyond".
abbrev pub fetched_at : ℕ → Option Block → Result (List ℕ) StoreFault
fetched_at b None = Err (fault kinds.Beyond b)
fetched_at b (Some k) = fetched_of b k.contents

-- Block b's bytes by themselves, or the fault of reading it.
abbrev pub fetched : List Block → ℕ → Result (List ℕ) StoreFault
fetched bs b = fetched_at b (slice_get bs b)

-- Write: an open block takes the bytes, a protected one is the fault "protected".
abbrev pub write_of : ℕ → Protection → Result (Unit {0}) StoreFault
write_of b protections.Open = Ok tt
write_of b protections.Protected = Err (fault kinds.Protected b)

-- A write at a number: what the block there answers; where there is none, the fault is "beyond".
abbrev pub write_at : ℕ → Option Block → Result (Unit {0}) StoreFault
write_at b None = Err (fault kinds.Beyond b)
write_at b (Some k) = write_of b k.protection

-- What a write answers: the length of the bytes is looked at first, then the block of that number.
abbrev pub write_answer : List Block → ℕ → List ℕ → Result (Unit {0}) StoreFault
write_answer bs b bytes = if_whole bytes (write_at b (slice_get bs b)) (Err (fault kinds.Length b))

-- The blocks after a write: an open block is sound with the bytes, and nothing else is changed.
abbrev pub written_of : List Block → ℕ → List ℕ → Protection → List Block
written_of bs b bytes protections.Open = slice_set bs b (open_block bytes)
written_of bs b bytes protections.Protected = bs

-- The blocks after a write at a number: where there is no block, as they were.
abbrev pub written_at : List Block → ℕ → List ℕ → Option Block → List Block
written_at bs b bytes None = bs
written_at bs b bytes (Some k) = written_of bs b bytes k.protection

-- The blocks after a write of block b; bytes that are not 256 change nothing.
abbrev pub written : List Block → ℕ → List ℕ → List Block
written bs b bytes = if_whole bytes (written_at bs b bytes (slice_get bs b)) bs

-- What a write of these bytes makes of one block: an open one is sound with them, a protected one stays.
abbrev pub taken_of : List ℕ → Block → Protection → Block
taken_of bytes k protections.Open = if_whole bytes (open_block bytes) k
taken_of bytes k protections.Protected = k

-- What a write of these bytes makes of a block, by its own protection.
abbrev pub taken : List ℕ → Block → Block
taken bytes k = taken_of bytes k k.protection

-- The protection question takes no buffer, so its only fault is "beyond".
abbrev pub protection_at : ℕ → Option Block → Result Protection StoreFault
protection_at b None = Err (fault kinds.Beyond b)
protection_at b (Some k) = Ok k.protection

-- What the protection question answers of block b: its protection, or "beyond".
abbrev pub protection_answer : List Block → ℕ → Result Protection StoreFault
protection_answer bs b = protection_at b (slice_get bs b)

-- A protection is that of an open block, or it is not.
abbrev pub is_open : Protection → Bool
is_open protections.Open = true
is_open protections.Protected = false

-- Whether each block may be written.
abbrev pub protections_of : List Block → List Protection
protections_of bs = map (λ k. k.protection) bs

-- There is a block, and it is open: so it can be written.
abbrev pub is_open_at : Option Block → Bool
is_open_at None = false
is_open_at (Some k) = is_open k.protection

-- A sound block has 256 bytes.
abbrev pub WholeOf : Contents → Type 0
WholeOf (sound bytes) = length bytes ≡ 256
WholeOf damaged = Unit {0}

-- What there is at a number is whole: no block, or one that has 256 bytes if it is sound.
abbrev pub Whole : Option Block → Type 0
Whole None = Unit {0}
Whole (Some k) = WholeOf k.contents

-- What everything that is read by blocks owes of its meaning: no more blocks than that, and 256 bytes in each sound one.
pub record Sized (bs : List Block) : Type 0 where
  pub few : length bs ≤ most_blocks
  pub whole : (i : ℕ) → Whole (slice_get bs i)
