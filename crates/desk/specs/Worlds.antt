-- A device with the tickets that its hosts hold, and what a call makes of it.
use Rattle.std.specs.Prelude.{ℕ, zero, suc, ◌+◌, List, [], Some, None, Ok, Err, Option, Result}
use Rattle.store.specs.Blocks.{Block}
use Rattle.flex.specs.declared.status.Status.{Status}
use Rattle.flex.specs.declared.unit_map.UnitMap.{UnitMap}
use Rattle.message.specs.declared.parameters.Parameters.{Parameters}
use Rattle.host.specs.declared.fault.HostFault.{HostFault}
use Rattle.host.specs.declared.locks.Locks.{Locks}
use Rattle.device.specs.declared.ticket.Ticket.{Ticket}
use Rattle.device.specs.declared.ticket.Ticket.TheVariants as tickets
use Rattle.device.specs.Calls as calls
use Rattle.device.specs.Device.{State, state, power_on, answer, next}
use Rattle.desk.specs.declared.desk.Desk.{Desk}
use Rattle.desk.specs.Desks.{empty_desk, held, with_slot}
use Rattle.desk.specs.declared.answer.Answer.{Answer}
use Rattle.desk.specs.declared.answer.Answer.TheVariants as answers
use Rattle.desk.specs.declared.session.Session.{Session}
use Rattle.desk.specs.Answers.{handed}

-- A device with the tickets that its hosts hold.
pub record World : Type 0 where
  pub state : State
  pub desk : Desk

-- What the code holds of one; `blocks` says what a store means.
abbrev pub world : {S : Type 0} → (S → List Block) → Session S → World
world blocks p = record { state = state blocks p.device; desk = p.desk }

-- A device at power on, whose hosts hold no ticket.
abbrev pub at_start : ℕ → UnitMap → List Block → World
at_start number map blocks = record { state = power_on number map blocks; desk = empty_desk }

-- ---- Tickets.

-- A host's ticket is taken from its place; the device is left as it is.
abbrev pub without_ticket : World → ℕ → World
without_ticket w h = record { state = w.state; desk = with_slot w.desk h None }

-- A ticket is kept for a host; the device is left as it is.
abbrev pub with_ticket : World → ℕ → Ticket → World
with_ticket w h k = record { state = w.state; desk = with_slot w.desk h (Some k) }

-- A ticket, if there is one, is kept for a host; without one nothing changes.
abbrev pub with_any_ticket : World → ℕ → Option Ticket → World
with_any_ticket w h None = w
with_any_ticket w h (Some k) = with_ticket w h k

-- The ticket that a call of the device hands out, or hands back.
abbrev pub ticket_in : calls.Answer → Option Ticket
ticket_in (calls.accepted k) = Some k
ticket_in (calls.moved k buffer) = Some k
ticket_in (calls.reported buffer) = None
ticket_in calls.done = None
ticket_in (calls.noticed status) = None
ticket_in (calls.faulted met) = None
ticket_in (calls.refusal status) = None
ticket_in (calls.returned status k buffer) = Some k

-- ---- A call of the device: what is told of its answer, the buffer that it hands back, and the world after it.

-- A notice is told; where there is none, that the call is done.
abbrev pub notice_told : Option Status → Answer
notice_told None = answers.Done
notice_told (Some status) = answers.Notice status

-- A fault is told; where there is none, that the call is done.
abbrev pub fault_told : Option HostFault → Answer
fault_told None = answers.Done
fault_told (Some met) = answers.Fault met

-- What is told of the device's answer: the kind of ticket that the host now has, its notice or fault, that the call is done, or a refusal's status.
abbrev pub told : calls.Answer → Answer
told (calls.accepted k) = handed k
told (calls.moved k buffer) = handed k
told (calls.reported buffer) = answers.Done
told calls.done = answers.Done
told (calls.noticed status) = notice_told status
told (calls.faulted met) = fault_told met
told (calls.refusal status) = answers.Refused status
told (calls.returned status k buffer) = answers.Refused status

-- The buffer that the device's answer hands back; an answer that bears none hands back an empty one.
abbrev pub buffer_in : calls.Answer → List ℕ
buffer_in (calls.accepted k) = []
buffer_in (calls.moved k buffer) = buffer
buffer_in (calls.reported buffer) = buffer
buffer_in calls.done = []
buffer_in (calls.noticed status) = []
buffer_in (calls.faulted met) = []
buffer_in (calls.refusal status) = []
buffer_in (calls.returned status k buffer) = buffer

-- The world after a call of the device: the ticket that it hands out or back is kept for its host.
abbrev pub called : World → ℕ → calls.Call → World
called w h c = with_any_ticket (record { state = next w.state c; desk = w.desk }) h (ticket_in (answer w.state c))

-- ---- A call of the session: what it answers, the buffer as it is left, and the world after it.

-- What a call of the session comes to: its answer, the buffer as it is left, and the world after it.
pub record Made : Type 0 where
  pub answer : Answer
  pub buffer : List ℕ
  pub world : World

-- What the code hands over of one.
abbrev pub comes_to : Answer → List ℕ → World → Made
comes_to a buffer w = record { answer = a; buffer = buffer; world = w }

-- A call of the device, but for any buffer that it takes: what is told of its answer, and the world after it.
abbrev pub by_call : World → ℕ → calls.Call → Answer × World
by_call w h c = (told (answer w.state c), called w h c)

-- An answer and the world after it beside a buffer: one that stays, or one that was handed back.
abbrev pub beside : List ℕ → Answer × World → Made
beside buffer p = record { answer = p.0; buffer = buffer; world = p.1 }

-- A call of the device that takes the buffer: the buffer afterwards is the one that its answer hands back.
abbrev pub by_lending : World → ℕ → calls.Call → Made
by_lending w h c = beside (buffer_in (answer w.state c)) (by_call w h c)

-- Where the host has no ticket of the kind that the call takes, nothing is called.
abbrev pub no_ticket : World → Answer × World
no_ticket w = (answers.NoTicket, w)

-- A segment with the host's execution ticket, which is taken for it; without one nothing is called, and the world and the buffer stay.
abbrev pub by_segment : World → ℕ → Option Ticket → List ℕ → Made
by_segment w h None buffer = beside buffer (no_ticket w)
by_segment w h (Some (tickets.Execution k)) buffer = by_lending (without_ticket w h) h (calls.segment k buffer)
by_segment w h (Some (tickets.Report k)) buffer = beside buffer (no_ticket w)

-- A report with the host's report ticket, which is taken for it; without one nothing is called, and the world and the buffer stay.
abbrev pub by_report : World → ℕ → Option Ticket → List ℕ → Made
by_report w h None buffer = beside buffer (no_ticket w)
by_report w h (Some (tickets.Execution k)) buffer = beside buffer (no_ticket w)
by_report w h (Some (tickets.Report k)) buffer = by_lending (without_ticket w h) h (calls.report k buffer)

-- A cancel with the host's ticket, of either kind, which ends with it: it is always done. Without one nothing is called, and the world stays.
abbrev pub by_cancel : World → ℕ → Option Ticket → Answer × World
by_cancel w h None = no_ticket w
by_cancel w h (Some k) = (answers.Done, record { state = next w.state (calls.cancel k); desk = with_slot w.desk h None })

-- A view of a host's parameters tells them, or the status of a refusal; a view changes nothing.
abbrev pub parameters_told : Result Parameters Status → Answer
parameters_told (Ok p) = answers.Parameters p
parameters_told (Err status) = answers.Refused status

-- A view of a host's locks tells them, or the status of a refusal.
abbrev pub locks_told : Result Locks Status → Answer
locks_told (Ok l) = answers.Locks l
locks_told (Err status) = answers.Refused status

-- ---- The end: the tickets that are still open are cancelled, and the device is powered off.

-- The world after host h has given its ticket back, if it has one.
abbrev pub given_back : World → ℕ → World
given_back w h = (by_cancel w h (held w.desk h)).1

-- And after n hosts have, from host h on, in their order.
abbrev pub all_given_back : World → ℕ → ℕ → World
all_given_back w zero h = w
all_given_back w (suc n) h = all_given_back (given_back w h) n (h + 1)

-- The state of the device at the end: every ticket that is still open is cancelled, in the hosts' order.
abbrev pub at_end : World → State
at_end w = (all_given_back w 8 0).state
