-- Two runs that meet what the isolation theorem asks for. Host 0 has unit 0 locked and writes there, host 1 writes to unit 1 and asks twice for unit
-- 0, refused with 1/6 and with 4/3. And host 0 has the device locked, and host 1 is refused with 4/3.
use Rattle.std.specs.Prelude.{◌≡◌, ℕ, ◌+◌, true, List, [], ◌∷◌, ◌++◌, replicate, Some, None, filter, refl}
use Rattle.std.proofs.Common.{lit≤}
use Rattle.std.specs.List.{slice_get}
use Rattle.store.specs.Blocks.{Block, open_block}
use Rattle.flex.specs.declared.status.Status.TheVariants as statuses
use Rattle.flex.specs.declared.unit.Unit.{Unit as DiscUnit}
use Rattle.flex.specs.declared.unit_map.UnitMap.{UnitMap}
use Rattle.flex.specs.Maps.{padded}
use Rattle.device.specs.declared.ticket.Ticket.{Ticket}
use Rattle.device.specs.declared.ticket.Ticket.TheVariants as tickets
use Rattle.device.specs.Calls.{Call, command, segment, report, clear, notice, Answer, accepted, moved, reported, noticed, refusal}
use Rattle.device.specs.Device.{State, host_of, run, power_on}
use Rattle.device.specs.Isolation.{Holds, Keeps, by_host, answers}

-- A unit of four blocks, from this block of the store on.
abbrev pub unit_from : ℕ → DiscUnit
unit_from first = record { first = first; geometry = record { cylinders = 1; heads = 2; sectors = 2 } }

-- Two units of four blocks each: unit 0 from block 0 on, and unit 1 from block 4 on. The map's stated end is 8.
abbrev pub two_units : UnitMap
two_units = record {
  units = padded (unit_from 0 ∷ unit_from 4 ∷ []);
  count = 2;
  end = 8;
  full = refl;
  some = lit≤ tt;
  few = lit≤ tt;
  reachable = lit≤ tt;
  counts = refl;
  once = refl;
  within = refl;
}

-- An open block that is sound, with 256 bytes, each of them this byte.
abbrev pub filled_with : ℕ → Block
filled_with byte = open_block (replicate 256 byte)

-- A command of host h: unit u in effect, and its lock set.
abbrev pub lock_unit : ℕ → ℕ → Call
lock_unit h u = command h ((0x20 + u) ∷ 0x73 ∷ [])

-- A command of host h: the device's lock set.
abbrev pub lock_device : ℕ → Call
lock_device h = command h (0x63 ∷ [])

-- A command of host h, of this code, on one block: unit u in effect, and address 1 of it.
abbrev pub on_one : ℕ → ℕ → ℕ → Call
on_one code h u = command h ((0x20 + u) ∷ 0x10 ∷ 0 ∷ 0 ∷ 0 ∷ 0 ∷ 0 ∷ 1 ∷ 0x18 ∷ 0 ∷ 0 ∷ 1 ∷ 0 ∷ code ∷ [])

-- It writes that block.
abbrev pub write_one : ℕ → ℕ → Call
write_one = on_one 0x02

-- A segment of host h, on an execution ticket of device 5: a buffer of 256 bytes, each of them this byte.
abbrev pub send : ℕ → ℕ → Call
send h byte = segment (record { device = 5; host = h }) (replicate 256 byte)

-- A command of host h: unit u in effect, and a read of the length that the host has, which after a clear is the whole unit.
abbrev pub read_unit : ℕ → ℕ → Call
read_unit h u = command h ((0x20 + u) ∷ 0x00 ∷ [])

-- A report of host h, on a report ticket of device 5, with a buffer of 16 bytes, each of them AAH.
abbrev pub ask_report : ℕ → Call
ask_report h = report (record { device = 5; host = h }) (replicate 16 0xaa)

-- The execution ticket of host h, of device 5.
abbrev pub execution_of : ℕ → Ticket
execution_of h = tickets.Execution (record { device = 5; host = h })

-- The report ticket of host h, of device 5.
abbrev pub report_of : ℕ → Ticket
report_of h = tickets.Report (record { device = 5; host = h })

-- What such a report is answered where there is no status: 13 zeros, and the other bytes stay.
abbrev pub all_well : Answer
all_well = reported (replicate 13 0 ++ replicate 3 0xaa)

-- What is answered to every call of a continuation, in order.
abbrev pub all_answers : State → List Call → List Answer
all_answers = answers (λ _. true)

-- Device 5 over eight blocks of zeros; hosts 0 and 1 have cleared.
unfoldable pub cleared_state : State
cleared_state = run (power_on 5 two_units (replicate 8 (filled_with 0))) (clear 0 ∷ clear 1 ∷ [])

-- ---- By a unit's lock.

-- Host 0 has locked unit 0 there, and its report is taken.
unfoldable pub locked_state : State
locked_state = run cleared_state (lock_unit 0 0 ∷ ask_report 0 ∷ [])

-- Host 0 writes there; in the first continuation host 1's calls fall between its own.
unfoldable pub among_others : List Call
among_others =
    write_one 0 0 ∷ write_one 1 1 ∷ send 0 7 ∷ read_unit 1 0 ∷ send 1 9 ∷ ask_report 1 ∷ read_unit 1 0 ∷ ask_report 0 ∷ []

-- In the second continuation host 0 makes the same calls alone.
unfoldable pub by_itself : List Call
by_itself = write_one 0 0 ∷ send 0 7 ∷ ask_report 0 ∷ []

-- All that the theorem asks for holds, in the first continuation both hosts' blocks are written, and each call is answered so.
pub record Sampled : Type 0 where
  pub holds : Holds (host_of locked_state 0)
  pub same : filter (by_host 0) among_others ≡ filter (by_host 0) by_itself
  pub keeps : Keeps 0 locked_state among_others
  pub keeps_too : Keeps 0 locked_state by_itself
  pub its_block : slice_get (run locked_state among_others).blocks 1 ≡ Some (filled_with 7)
  pub another_block : slice_get (run locked_state among_others).blocks 5 ≡ Some (filled_with 9)
  pub left_alone : slice_get (run locked_state by_itself).blocks 5 ≡ Some (filled_with 0)
  pub locking : all_answers cleared_state (lock_unit 0 0 ∷ ask_report 0 ∷ []) ≡ accepted (report_of 0) ∷ all_well ∷ []
  pub answered : all_answers locked_state among_others
      ≡ accepted (execution_of 0)
      ∷ accepted (execution_of 1)
      ∷ moved (report_of 0) (replicate 256 7)
      ∷ refusal statuses.MessageSequence
      ∷ moved (report_of 1) (replicate 256 9)
      ∷ all_well
      ∷ refusal statuses.ResourceUnavailable
      ∷ all_well
      ∷ []
  pub answered_alone : all_answers locked_state by_itself ≡ accepted (execution_of 0) ∷ moved (report_of 0) (replicate 256 7) ∷ all_well ∷ []

-- ---- By the device's lock.

-- Host 0 has locked the device there, and its report is taken.
unfoldable pub device_locked : State
device_locked = run cleared_state (lock_device 0 ∷ ask_report 0 ∷ [])

-- Host 0 writes to unit 1, and asks for its notice. In the first continuation host 1 asks twice to write there, is refused, and asks for its notice.
unfoldable pub all_locked : List Call
all_locked =
    write_one 1 1 ∷ write_one 0 1 ∷ notice 1 ∷ send 0 7 ∷ write_one 1 1 ∷ notice 0 ∷ ask_report 0 ∷ []

-- In the second continuation host 0 makes the same calls alone.
unfoldable pub all_by_itself : List Call
all_by_itself = write_one 0 1 ∷ send 0 7 ∷ notice 0 ∷ ask_report 0 ∷ []

-- All that the theorem asks for holds by the device's lock, host 0's block is written, and each call is answered so.
pub record SampledByDevice : Type 0 where
  pub lock : (host_of device_locked 0).locks.device ≡ true
  pub same : filter (by_host 0) all_locked ≡ filter (by_host 0) all_by_itself
  pub keeps : Keeps 0 device_locked all_locked
  pub keeps_too : Keeps 0 device_locked all_by_itself
  pub its_block : slice_get (run device_locked all_locked).blocks 5 ≡ Some (filled_with 7)
  pub locking : all_answers cleared_state (lock_device 0 ∷ ask_report 0 ∷ []) ≡ accepted (report_of 0) ∷ all_well ∷ []
  pub answered : all_answers device_locked all_locked
      ≡ refusal statuses.ResourceUnavailable
      ∷ accepted (execution_of 0)
      ∷ noticed None
      ∷ moved (report_of 0) (replicate 256 7)
      ∷ refusal statuses.ResourceUnavailable
      ∷ noticed None
      ∷ all_well
      ∷ []
  pub answered_alone : all_answers device_locked all_by_itself ≡ accepted (execution_of 0) ∷ moved (report_of 0) (replicate 256 7) ∷ noticed None ∷ all_well ∷ []
