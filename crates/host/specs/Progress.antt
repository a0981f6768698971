-- How a transaction goes on: by segments, and to its end.
use Rattle.std.specs.Prelude.{ℕ, ◌+◌, ◌-◌, ◌^◌, min, Bool, cond, Some, None, Option, ◌==◌, nat_le}
use Rattle.std.specs.Option.{option_or}
use Rattle.flex.specs.declared.unit_map.UnitMap.{UnitMap}
use Rattle.host.specs.declared.fault.HostFault.{HostFault}
use Rattle.host.specs.declared.progress.Progress.{Progress}
use Rattle.host.specs.declared.record.Host.{Host}
use Rattle.host.specs.declared.transaction.Phase.{Phase}
use Rattle.host.specs.declared.transaction.Phase.TheVariants as phases
use Rattle.host.specs.declared.transaction.Transaction.{Transaction}
use Rattle.host.specs.Messages.{at_address, unit_size}

-- A transaction lies in its unit: the blocks that it has left to move do not pass the unit's end.
abbrev pub lies_in : UnitMap → Transaction → Bool
lies_in map t = nat_le (t.at + t.left) (unit_size map t.unit)

-- A segment moves the next 32 blocks or the rest.
abbrev pub segment_of : Transaction → ℕ
segment_of t = min 32 t.left

-- How many blocks are left after it.
abbrev pub left_after : Transaction → ℕ
left_after t = t.left - segment_of t

-- The transaction then waits for the next segment, or where no blocks are left for its report.
abbrev pub phase_after : Transaction → Phase
phase_after t = cond (left_after t == 0) phases.Report phases.Execution

-- The address n blocks further on. An address has 32 bits, and stops at the largest; no unit is so large that one of its addresses is there.
abbrev pub address_past : ℕ → ℕ → ℕ
address_past at n = min (at + n) (2 ^ 32 - 1)

-- The transaction after a segment.
abbrev pub advanced : Transaction → Progress → Transaction
advanced t p = record {
  command = t.command;
  unit = t.unit;
  phase = phase_after t;
  at = address_past t.at (segment_of t);
  left = left_after t;
  outcome = p.outcome;
}

-- Only the first fault is kept.
abbrev pub first_fault : Option HostFault → Option HostFault → Option HostFault
first_fault earlier new = option_or earlier new

-- The target address becomes one past the last block tried; where none was tried it stays.
abbrev pub address_tried : ℕ → ℕ → ℕ → ℕ
address_tried old at tried = cond (tried == 0) old (address_past at tried)

-- The host after a segment: its target address and its transaction go on, and the segment's fault is kept if it is the first; all else stays.
abbrev pub moved_by : Transaction → Progress → Host → Host
moved_by t p x = record {
  parameters = at_address x.parameters (address_tried x.parameters.address t.at p.tried);
  interlocked = x.interlocked;
  locks = x.locks;
  transaction = Some (advanced t p);
  fault = first_fault x.fault p.fault;
}

-- Report and cancel end the transaction.
abbrev pub ended : Host → Host
ended x = record { parameters = x.parameters; interlocked = x.interlocked; locks = x.locks; transaction = None; fault = x.fault }
