-- What moving blocks means, block by block: the law of a segment, and of a whole transfer.
use Rattle.std.specs.Prelude.{◌≡◌, ℕ, ◌+◌, ◌*◌, ◌<◌, ◌≤◌, Bool, true, false, ◌⊎◌, List, take, drop, Some, None, Ok, Err, Option, Result, ◌≢◌}
use Rattle.std.specs.List.{slice_get}
use Rattle.std.specs.Option.{option_or}
use Rattle.store.specs.Blocks.{Block, Contents, sound, damaged, open_block, buffer_at, is_open_at}
use Rattle.message.specs.declared.command.Command.{Command}
use Rattle.message.specs.declared.command.Command.TheVariants as commands
use Rattle.flex.specs.declared.status.Status.{Status}
use Rattle.host.specs.declared.progress.Progress.{Progress}
use Rattle.host.specs.declared.transaction.Failure.{Failure}
use Rattle.host.specs.declared.transaction.Failure.TheVariants as failures
use Rattle.host.specs.declared.transaction.Transaction.{Transaction}
use Rattle.transfer.specs.Segments.{zeros}

-- Block j of what is moved has bytes 256 × j to 256 × j + 255.
abbrev pub part : ℕ → List ℕ → List ℕ
part j bytes = take 256 (drop (256 * j) bytes)

-- The contents are sound, and not damaged.
abbrev pub is_sound : Contents → Bool
is_sound (sound bytes) = true
is_sound damaged = false

-- A block can be read when it is there and sound.
abbrev pub is_readable : Option Block → Bool
is_readable None = false
is_readable (Some k) = is_sound k.contents

-- The n blocks from block b and address a on are read: the first that cannot be read is to be reported with its address, unless there was
-- something to report already.
pub record Scanned (bs : List Block) (b a n : ℕ) (before after : Option Failure) : Type 0 where
  pub fine : ((j : ℕ) → j < n → is_readable (slice_get bs (b + j)) ≡ true) → after ≡ before
  pub failed : (j : ℕ) → j < n → ((i : ℕ) → i < j → is_readable (slice_get bs (b + i)) ≡ true) → is_readable (slice_get bs (b + j)) ≡ false → after ≡ option_or before (Some (failures.Unrecoverable (a + j)))

-- Their bytes stand in the buffer in order, zeros for one that cannot be read; the buffer's other bytes stay.
pub record HandedOver (bs : List Block) (b n : ℕ) (given left : List ℕ) : Type 0 where
  pub bytes : (j : ℕ) → j < n → part j left ≡ buffer_at zeros (slice_get bs (b + j))
  pub rest : drop (256 * n) left ≡ drop (256 * n) given

-- They are written in order: each takes its bytes, up to the first that cannot be written, and from there on every block stays; so does every
-- block outside.
pub record Written (bs bs' : List Block) (b n : ℕ) (given : List ℕ) : Type 0 where
  pub taken : (j : ℕ) → j < n → ((i : ℕ) → i ≤ j → is_open_at (slice_get bs (b + i)) ≡ true) → slice_get bs' (b + j) ≡ Some (open_block (part j given))
  pub stopped : (i j : ℕ) → i ≤ j → is_open_at (slice_get bs (b + i)) ≡ false → slice_get bs' (b + j) ≡ slice_get bs (b + j)
  pub outside : (c : ℕ) → (c < b) ⊎ (b + n ≤ c) → slice_get bs' c ≡ slice_get bs c

-- There is a fault to report just when one of them could not be written.
pub record Wrote (bs : List Block) (b n : ℕ) (after : Option Failure) : Type 0 where
  pub fine : ((j : ℕ) → j < n → is_open_at (slice_get bs (b + j)) ≡ true) → after ≡ None
  pub failed : (j : ℕ) → j < n → is_open_at (slice_get bs (b + j)) ≡ false → after ≡ Some failures.UnitFault

-- The n blocks from b on of a transaction t are moved: from blocks bs to bs', from a buffer as it is given to one as it is left, and to what
-- there is to report after. A Write with something to report already drops its data.
abbrev pub MovesBy : Option Command → Transaction → ℕ → ℕ → List Block → List Block → List ℕ → List ℕ → Option Failure → Type 0
MovesBy None t b n bs bs' given left after = Unit {0}
MovesBy (Some commands.Read) t b n bs bs' given left after =
    Scanned bs b t.at n t.outcome after × HandedOver bs b n given left × (bs' ≡ bs)
MovesBy (Some commands.Write) t b n bs bs' given left after =
    (t.outcome ≡ None → Written bs bs' b n given × Wrote bs b n after) ×
    ((t.outcome ≢ None) → (bs' ≡ bs) × (after ≡ t.outcome)) ×
    (left ≡ given)
MovesBy (Some commands.Verify) t b n bs bs' given left after =
    Scanned bs b t.at n t.outcome after × (left ≡ given) × (bs' ≡ bs)
MovesBy (Some commands.ExtendedDescribe) t b n bs bs' given left after = Unit {0}
MovesBy (Some commands.SetDeviceLock) t b n bs bs' given left after = Unit {0}
MovesBy (Some commands.DeleteDeviceLock) t b n bs bs' given left after = Unit {0}
MovesBy (Some commands.SetUnitLock) t b n bs bs' given left after = Unit {0}
MovesBy (Some commands.DeleteUnitLock) t b n bs bs' given left after = Unit {0}

-- The same by the transaction's own command; where that moves no block, nothing is said.
abbrev pub Moves : Transaction → ℕ → ℕ → List Block → List Block → List ℕ → List ℕ → Option Failure → Type 0
Moves t b n bs bs' given left after = MovesBy t.command t b n bs bs' given left after

-- The law of a segment: if it is not refused, its blocks are moved.
abbrev pub SegmentLaw : Result Progress Status → Transaction → ℕ → ℕ → List Block → List Block → List ℕ → List ℕ → Type 0
SegmentLaw (Ok p) t b n bs bs' given left = Moves t b n bs bs' given left p.outcome
SegmentLaw (Err s) t b n bs bs' given left = (bs' ≡ bs) × (left ≡ given)
