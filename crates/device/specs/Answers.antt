-- What the device's calls return, as answers.
use Rattle.std.specs.Prelude.{ℕ, List, [], Ok, Err, Option, Result}
use Rattle.flex.specs.declared.status.Status.{Status}
use Rattle.host.specs.declared.fault.HostFault.{HostFault}
use Rattle.device.specs.declared.ticket.ExecutionTicket.{ExecutionTicket}
use Rattle.device.specs.declared.ticket.ReportTicket.{ReportTicket}
use Rattle.device.specs.declared.ticket.Returned.{Returned}
use Rattle.device.specs.declared.ticket.Ticket.{Ticket}
use Rattle.device.specs.declared.ticket.Ticket.TheVariants as tickets
use Rattle.device.specs.Calls.{Answer, accepted, moved, reported, done, noticed, faulted, refusal, returned}

-- A command answers by a ticket, or is refused.
abbrev pub command_answer : Result Ticket Status → Answer
command_answer (Ok k) = accepted k
command_answer (Err s) = refusal s

-- A segment answers by the next ticket and the buffer; refused, it hands its ticket back, and the buffer too.
abbrev pub segment_answer : Result Ticket (Returned ExecutionTicket) → List ℕ → Answer
segment_answer (Ok k) buffer = moved k buffer
segment_answer (Err r) buffer = returned r.status (tickets.Execution r.ticket) buffer

-- A report answers by the buffer; refused, it hands its ticket back, and the buffer too.
abbrev pub report_answer : Result (Unit {0}) (Returned ReportTicket) → List ℕ → Answer
report_answer (Ok t) buffer = reported buffer
report_answer (Err r) buffer = returned r.status (tickets.Report r.ticket) buffer

-- A cancel is done; refused, it hands its ticket back, and there is no buffer.
abbrev pub cancel_answer : Result (Unit {0}) (Returned Ticket) → Answer
cancel_answer (Ok t) = done
cancel_answer (Err r) = returned r.status r.ticket []

-- A clear is done, or is refused.
abbrev pub clear_answer : Result (Unit {0}) Status → Answer
clear_answer (Ok t) = done
clear_answer (Err s) = refusal s

-- A notice call answers by the notice, or that there is none, or is refused.
abbrev pub notice_answer : Result (Option Status) Status → Answer
notice_answer (Ok n) = noticed n
notice_answer (Err s) = refusal s

-- A fault call answers by the fault, or that there is none, or is refused.
abbrev pub fault_answer : Result (Option HostFault) Status → Answer
fault_answer (Ok f) = faulted f
fault_answer (Err s) = refusal s
