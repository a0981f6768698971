-- The calls of a device, and what they answer.
use Rattle.std.specs.Prelude.{ℕ, List, Option}
use Rattle.flex.specs.declared.status.Status.{Status}
use Rattle.host.specs.declared.fault.HostFault.{HostFault}
use Rattle.device.specs.declared.ticket.ExecutionTicket.{ExecutionTicket}
use Rattle.device.specs.declared.ticket.ReportTicket.{ReportTicket}
use Rattle.device.specs.declared.ticket.Ticket.{Ticket}
use Rattle.device.specs.declared.ticket.Ticket.TheVariants as tickets

-- A call with all that it is given: two calls are the same when they are equal.
pub data Call : Type 0 where
  command : ℕ → List ℕ → Call
  segment : ExecutionTicket → List ℕ → Call
  report : ReportTicket → List ℕ → Call
  cancel : Ticket → Call
  clear : ℕ → Call
  notice : ℕ → Call
  fault : ℕ → Call

-- The host that a ticket bears.
abbrev pub bearer : Ticket → ℕ
bearer (tickets.Execution k) = k.host
bearer (tickets.Report k) = k.host

-- A call is a host's if it names that host or its ticket bears it.
abbrev pub by : Call → ℕ
by (command h bytes) = h
by (segment k buffer) = k.host
by (report k buffer) = k.host
by (cancel k) = bearer k
by (clear h) = h
by (notice h) = h
by (fault h) = h

-- What a call answers, with the buffer as it is left.
pub data Answer : Type 0 where
  -- a command that is accepted hands out a ticket
  accepted : Ticket → Answer
  -- a segment exchanges its ticket for the next
  moved : Ticket → List ℕ → Answer
  -- a report fills the buffer
  reported : List ℕ → Answer
  -- a cancel or a clear is done
  done : Answer
  -- the host's notice, or none
  noticed : Option Status → Answer
  -- the host's fault, or none
  faulted : Option HostFault → Answer
  -- a command, a clear, a notice or a fault call is refused
  refusal : Status → Answer
  -- a segment, a report or a cancel is refused: its ticket comes back, and the buffer stays
  returned : Status → Ticket → List ℕ → Answer
