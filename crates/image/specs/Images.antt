-- What the two images have in common.
use Rattle.std.specs.Prelude.{ℕ, Bool, cond, List, [], map, Some, None, Ok, Err, Option, Result, ◌==◌, nat_lt, slice_set}
use Rattle.std.specs.List.{slice_get, range_with_len}
use Rattle.store.specs.declared.fault.FaultKind.TheVariants as kinds
use Rattle.store.specs.declared.fault.StoreFault.{StoreFault}
use Rattle.store.specs.declared.fault.Protection.{Protection}
use Rattle.store.specs.Blocks.{Block, fault, sound, damaged}
use Rattle.image.specs.declared.refusal.Refusal.{Refusal}

-- One block of an image: damaged if its mark says so, else sound with its bytes; the protection is the image's.
abbrev pub block_of : Bool → List ℕ → Protection → Block
block_of mark bytes protection = record { contents = cond mark damaged (sound bytes); protection = protection }

-- As many blocks as there are, block b made by `at` from its number.
abbrev pub blocks_by : ℕ → (ℕ → Block) → List Block
blocks_by count at = map at (range_with_len 0 count)

-- Memory that is refused has no blocks.
abbrev pub unless_refused : Option Refusal → List Block → List Block
unless_refused None blocks = blocks
unless_refused (Some refusal) blocks = []

-- What a write leaves in the memory: something new if it was accepted, and else what was there.
abbrev pub if_accepted : {X : Type 0} → Result (Unit {0}) StoreFault → X → X → X
if_accepted (Ok t) new old = new
if_accepted (Err f) new old = old

-- The blocks with block b marked damaged, whatever its protection, which stays; a number not below the count is passed over.
abbrev pub harmed_at : List Block → ℕ → Option Block → List Block
harmed_at blocks b None = blocks
harmed_at blocks b (Some block) = slice_set blocks b (record { contents = damaged; protection = block.protection })

-- The blocks after block b was marked damaged.
abbrev pub harmed : List Block → ℕ → List Block
harmed blocks b = harmed_at blocks b (slice_get blocks b)

-- What a call that moves bytes asks first: a buffer of 256 bytes, then a number below the count.
abbrev pub asked : ℕ → ℕ → ℕ → Result ℕ StoreFault
asked length b count = cond (length == 256) (cond (nat_lt b count) (Ok b) (Err (fault kinds.Beyond b))) (Err (fault kinds.Length b))
