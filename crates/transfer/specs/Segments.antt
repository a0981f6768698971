-- What one segment does: over the blocks of its span, and the caller's buffer.
use Rattle.std.specs.Prelude.{ℕ, zero, suc, ◌+◌, ◌*◌, Bool, true, false, cond, ◌&&◌, List, [], ◌∷◌, ◌++◌, length, take, drop, replicate, Some, None, Ok, Err, Option, Result, nat_le, slice_set}
use Rattle.std.specs.List.{slice_get}
use Rattle.std.specs.Option.{option_map, option_or}
use Rattle.store.specs.declared.fault.StoreFault.{StoreFault}
use Rattle.store.specs.Blocks.{Block, open_block, read_at, buffer_at, write_at}
use Rattle.message.specs.declared.command.Command.{Command}
use Rattle.message.specs.declared.command.Command.TheVariants as commands
use Rattle.flex.specs.declared.status.Status.{Status}
use Rattle.flex.specs.declared.status.Status.TheVariants as statuses
use Rattle.flex.specs.declared.unit.Unit.{Unit as DiscUnit}
use Rattle.flex.specs.declared.unit_map.UnitMap.{UnitMap}
use Rattle.flex.specs.Maps.{unit_at}
use Rattle.describe.specs.Descriptions.{description}
use Rattle.host.specs.declared.fault.HostFault.{HostFault}
use Rattle.host.specs.declared.fault.TransferFault.{TransferFault}
use Rattle.host.specs.declared.transaction.Failure.{Failure}
use Rattle.host.specs.declared.transaction.Failure.TheVariants as failures
use Rattle.host.specs.declared.transaction.Transaction.{Transaction}
use Rattle.host.specs.declared.progress.Progress.{Progress}
use Rattle.host.specs.Messages.{describes}
use Rattle.host.specs.Progress.{lies_in, segment_of, first_fault}

-- The first block of a unit; where there is no unit, 0.
abbrev pub first_in : Option DiscUnit → ℕ
first_in None = 0
first_in (Some u) = u.first

-- The first block of the unit of a number; of the controller, and of a number that is no unit's, 0.
abbrev pub first_of : UnitMap → ℕ → ℕ
first_of map u = first_in (unit_at map u)

-- The span of a transaction's next segment: from which block of the store on; without a transaction, from 0.
abbrev pub start_of : UnitMap → Option Transaction → ℕ
start_of map None = 0
start_of map (Some t) = first_of map t.unit + t.at

-- The span of a transaction's next segment: how many blocks it has; without a transaction, none.
abbrev pub reach_of : Option Transaction → ℕ
reach_of None = 0
reach_of (Some t) = segment_of t

-- The blocks of a span.
abbrev pub span : List Block → ℕ → ℕ → List (Option Block)
span bs b zero = []
span bs b (suc n) = slice_get bs b ∷ span bs (suc b) n

-- A store fault becomes the transfer's, whole.
abbrev pub converted : {T : Type 0} → Result T StoreFault → Result T TransferFault
converted (Ok x) = Ok x
converted (Err f) = Err (record { store = f })

-- It is kept with the unit and the block's address in it.
abbrev pub met_by : {T : Type 0} → Result T TransferFault → ℕ → ℕ → Option HostFault
met_by (Ok x) u a = None
met_by (Err f) u a = Some (record { fault = f; unit = u; address = a })

-- The first fault from a block on: its own if it has one, else that of the later blocks.
abbrev pub met : {T : Type 0} → Result T StoreFault → ℕ → ℕ → Option HostFault → Option HostFault
met r u a later = first_fault (met_by (converted r) u a) later

-- Read and Verify: the first fault of a span of unit u that begins at block b and address a.
abbrev pub read_fault : ℕ → ℕ → ℕ → List (Option Block) → Option HostFault
read_fault u b a [] = None
read_fault u b a (o ∷ os) = met (read_at b o) u a (read_fault u (suc b) (suc a) os)

-- What a block reads as that cannot be read: 256 zeros.
abbrev pub zeros : List ℕ
zeros = replicate 256 0

-- The bytes of the blocks of a span, in order; a block that cannot be read reads as zeros.
abbrev pub read_bytes : List (Option Block) → List ℕ
read_bytes [] = []
read_bytes (o ∷ os) = buffer_at zeros o ++ read_bytes os

-- The first block that cannot be read sets 8/4 with its address, unless there is a status already.
abbrev pub after_reading : Option Failure → Option HostFault → Option Failure
after_reading o f = option_or o (option_map (λ x. failures.Unrecoverable x.address) f)

-- Write: blocks are written in order until one refuses, and the fault is that one's; the span is of unit u and begins at block b and address a.
abbrev pub write_fault : ℕ → ℕ → ℕ → List (Option Block) → Option HostFault
write_fault u b a [] = None
write_fault u b a (o ∷ os) = met (write_at b o) u a (write_fault u (suc b) (suc a) os)

-- A block that is written is put, and then those after it; with one that refuses, nothing more is put.
abbrev pub put_next : {T : Type 0} → Result T StoreFault → Block → List Block → List Block
put_next (Ok x) k ks = k ∷ ks
put_next (Err f) k ks = []

-- What the blocks of the span become, from its first on, up to the first that refuses: block k takes bytes 256 × k to 256 × k + 255 of the buffer.
abbrev pub put : ℕ → List (Option Block) → List ℕ → List Block
put b [] bytes = []
put b (o ∷ os) bytes = put_next (write_at b o) (open_block (take 256 bytes)) (put (suc b) os (drop 256 bytes))

-- How many are tried from a block on: itself and those tried after it, or itself alone where it refuses.
abbrev pub tried_next : {T : Type 0} → Result T StoreFault → ℕ → ℕ
tried_next (Ok x) n = suc n
tried_next (Err f) n = 1

-- How many blocks of the span are tried: those up to the first that refuses, which is the last that is tried, or else all.
abbrev pub write_tried : ℕ → List (Option Block) → ℕ
write_tried b [] = 0
write_tried b (o ∷ os) = tried_next (write_at b o) (write_tried (suc b) os)

-- A block that cannot be written sets 5/4, unless there is a status already.
abbrev pub after_writing : Option Failure → Option HostFault → Option Failure
after_writing o f = option_or o (option_map (λ _. failures.UnitFault) f)

-- The list with some elements put in from one place on.
abbrev pub laid : {X : Type 0} → List X → ℕ → List X → List X
laid xs p [] = xs
laid xs p (k ∷ ks) = laid (slice_set xs p k) (suc p) ks

-- What a segment comes to: the buffer as it is left, what is put into the span, and how the transaction goes on.
pub record Moved : Type 0 where
  pub buffer : List ℕ
  pub put : List Block
  pub progress : Progress

-- Read and Verify try every block of the span; the first that cannot be read gives the fault, and it sets 8/4 unless there is a status already.
abbrev pub reading : Transaction → ℕ → List (Option Block) → Progress
reading t b os = record {
  tried = length os;
  outcome = after_reading t.outcome (read_fault t.unit b t.at os);
  fault = read_fault t.unit b t.at os;
}

-- Read: the buffer's front takes the blocks' bytes, its other bytes stay, and nothing is put into the span.
abbrev pub read_moved : Transaction → ℕ → List (Option Block) → List ℕ → Moved
read_moved t b os buffer = record { buffer = read_bytes os ++ drop (256 * length os) buffer; put = []; progress = reading t b os }

-- Verify: the blocks are tried as for a Read, but the buffer stays, and nothing is put into the span.
abbrev pub verified : Transaction → ℕ → List (Option Block) → List ℕ → Moved
verified t b os buffer = record { buffer = buffer; put = []; progress = reading t b os }

-- Nothing is tried: the buffer stays, nothing is put into the span, and what there is to report stays.
abbrev pub untried : Transaction → List ℕ → Moved
untried t buffer = record { buffer = buffer; put = []; progress = record { tried = 0; outcome = t.outcome; fault = None } }

-- Write: blocks take the buffer's bytes until one refuses, which sets 5/4 unless there is a status already; the buffer stays.
abbrev pub writing : Transaction → ℕ → List (Option Block) → List ℕ → Moved
writing t b os buffer = record {
  buffer = buffer;
  put = put b os buffer;
  progress = record {
    tried = write_tried b os;
    outcome = after_writing t.outcome (write_fault t.unit b t.at os);
    fault = write_fault t.unit b t.at os;
  };
}

-- A Write with nothing to report yet writes; one with something to report was stopped: it takes the rest of the data and tries nothing.
abbrev pub write_by : Option Failure → Transaction → ℕ → List (Option Block) → List ℕ → Moved
write_by None t b os buffer = writing t b os buffer
write_by (Some f) t b os buffer = untried t buffer

-- What a segment comes to, by its command: Read, Write and Verify move blocks, and all else tries none.
unfoldable pub moved_by_command : Option Command → Transaction → ℕ → List (Option Block) → List ℕ → Moved
moved_by_command None t b os buffer = untried t buffer
moved_by_command (Some commands.Read) t b os buffer = read_moved t b os buffer
moved_by_command (Some commands.Write) t b os buffer = write_by t.outcome t b os buffer
moved_by_command (Some commands.Verify) t b os buffer = verified t b os buffer
moved_by_command (Some commands.ExtendedDescribe) t b os buffer = untried t buffer
moved_by_command (Some commands.SetDeviceLock) t b os buffer = untried t buffer
moved_by_command (Some commands.DeleteDeviceLock) t b os buffer = untried t buffer
moved_by_command (Some commands.SetUnitLock) t b os buffer = untried t buffer
moved_by_command (Some commands.DeleteUnitLock) t b os buffer = untried t buffer

-- The message that a segment writes for the host: the description, for Extended Describe; for all else there is none.
abbrev pub message_of : UnitMap → ℕ → Transaction → List ℕ
message_of map h t = cond (describes t.command) (description map h) []

-- It goes into the front of the buffer; the other bytes stay.
abbrev pub told : List ℕ → Moved → Moved
told message m = record { buffer = message ++ drop (length message) m.buffer; put = m.put; progress = m.progress }

-- The command is Verify.
abbrev pub is_verify : Option Command → Bool
is_verify None = false
is_verify (Some commands.Read) = false
is_verify (Some commands.Write) = false
is_verify (Some commands.Verify) = true
is_verify (Some commands.ExtendedDescribe) = false
is_verify (Some commands.SetDeviceLock) = false
is_verify (Some commands.DeleteDeviceLock) = false
is_verify (Some commands.SetUnitLock) = false
is_verify (Some commands.DeleteUnitLock) = false

-- A buffer holds the blocks of a segment when it has 256 bytes for each; for Verify any buffer will do.
abbrev pub holds_blocks : Transaction → List ℕ → Bool
holds_blocks t buffer = cond (is_verify t.command) true (nat_le (256 * segment_of t) (length buffer))

-- A buffer holds a segment when it holds its blocks, and is at least as long as the message.
abbrev pub holds_segment : Transaction → List ℕ → List ℕ → Bool
holds_segment t message buffer = holds_blocks t buffer && nat_le (length message) (length buffer)

-- A segment is executed if its transaction lies in its unit, else 1/6, and the buffer holds it, else 128/5, in this order.
abbrev pub refusal_of : UnitMap → Transaction → List ℕ → List ℕ → Option Status
refusal_of map t message buffer = cond (lies_in map t) (cond (holds_segment t message buffer) None (Some statuses.BadBuffer)) (Some statuses.MessageSequence)

-- What the next segment of a transaction comes to over a store of these blocks.
abbrev pub moved_over : UnitMap → List Block → Transaction → List ℕ → Moved
moved_over map bs t buffer =
    moved_by_command t.command t (start_of map (Some t)) (span bs (start_of map (Some t)) (segment_of t)) buffer

-- The same, and the message for host h, if there is one, stands in the front of the buffer.
abbrev pub executed_over : UnitMap → List Block → ℕ → Transaction → List ℕ → Moved
executed_over map bs h t buffer = told (message_of map h t) (moved_over map bs t buffer)

-- A segment answers how the transaction goes on, or the status that it is refused with.
abbrev pub progress_by : Option Status → Moved → Result Progress Status
progress_by None m = Ok m.progress
progress_by (Some s) m = Err s

-- The buffer after a segment; a refused segment leaves it.
abbrev pub buffer_by : Option Status → Moved → List ℕ → List ℕ
buffer_by None m buffer = m.buffer
buffer_by (Some s) m buffer = buffer

-- The store's blocks after a segment, with what it puts into the span that begins at start; a refused segment leaves them.
abbrev pub blocks_by : Option Status → Moved → List Block → ℕ → List Block
blocks_by None m bs start = laid bs start m.put
blocks_by (Some s) m bs start = bs
