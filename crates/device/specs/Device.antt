-- The rules of the whole device: what each call answers, and what it leaves.
use Rattle.std.specs.Prelude.{ℕ, zero, suc, ◌+◌, ◌-◌, ◌^◌, min, Bool, true, false, cond, ◌&&◌, List, [], ◌∷◌, ◌++◌, length, drop, replicate, is_some, Some, None, Ok, Err, Option, Result, ◌==◌, nat_le, nat_lt, slice_set}
use Rattle.store.specs.Blocks.{Block}
use Rattle.message.specs.declared.message.Message.{Message}
use Rattle.message.specs.declared.parameters.Parameters.{Parameters}
use Rattle.flex.specs.declared.status.Status.{Status}
use Rattle.flex.specs.declared.status.Status.TheVariants as statuses
use Rattle.flex.specs.declared.unit_map.UnitMap.{UnitMap}
use Rattle.host.specs.declared.locks.Locks.{Locks}
use Rattle.host.specs.declared.mail.Mail.{Mail}
use Rattle.host.specs.declared.progress.Progress.{Progress}
use Rattle.host.specs.declared.record.Host.{Host}
use Rattle.host.specs.declared.transaction.Phase.{Phase}
use Rattle.host.specs.declared.transaction.Phase.TheVariants as phases
use Rattle.host.specs.declared.transaction.Transaction.{Transaction}
use Rattle.host.specs.Hosts.{at_start, cleared, host_at, stands, another}
use Rattle.host.specs.Messages.{judged, refused, accepted as accepted_by, opened, wanted}
use Rattle.host.specs.Progress.{lies_in, phase_after, moved_by, advanced, ended}
use Rattle.host.specs.Waits.{powered, silent, mail_at, settle, waiting_for, without_notice}
use Rattle.device.specs.declared.controller.Controller.{Controller}
use Rattle.device.specs.declared.device.Device.{Device}
use Rattle.device.specs.declared.ticket.ExecutionTicket.{ExecutionTicket}
use Rattle.device.specs.declared.ticket.ReportTicket.{ReportTicket}
use Rattle.device.specs.declared.ticket.Ticket.{Ticket}
use Rattle.device.specs.declared.ticket.Ticket.TheVariants as tickets
use Rattle.device.specs.Calls.{Call, command, segment, report, cancel, clear, notice, fault, by, Answer, accepted, moved, reported, done, noticed, faulted, refusal, returned}
use Rattle.transfer.specs.Reports.{report_bytes}
use Rattle.transfer.specs.Segments.{start_of, reach_of, span, laid, Moved, moved_by_command, message_of, told, holds_segment}

-- The state of a device: its controller, and what its store means.
pub record State : Type 0 where
  pub number : ℕ
  pub map : UnitMap
  pub hosts : List Host
  pub mail : List Mail
  pub activity : ℕ
  pub blocks : List Block

-- The state of a device with this controller, over a store that means these blocks.
abbrev pub state_of : Controller → List Block → State
state_of c blocks = record { number = c.number; map = c.map; hosts = c.hosts; mail = c.mail; activity = c.activity; blocks = blocks }

-- The state of a device, from what its controller holds and what its store means; `blocks` says what a store means.
abbrev pub state : {S : Type 0} → (S → List Block) → Device S → State
state blocks d = state_of d.controller (blocks d.store)

-- The record of host h; where there is no such host, one that holds nothing.
abbrev pub host_of : State → ℕ → Host
host_of s h = host_at s.hosts h

-- The mail of host h, its wait and its notice; where there is no such host, neither.
abbrev pub mail_of : State → ℕ → Mail
mail_of s h = mail_at s.mail h

-- What never changes: the device's number, its unit map, and whether the store's count reaches the map's stated end.
pub record Fixed : Type 0 where
  pub number : ℕ
  pub map : UnitMap
  pub reaches : Bool

-- These as they are in a state; the store's count reaches the map's stated end when it is that end or more.
abbrev pub fixed : State → Fixed
fixed s = record { number = s.number; map = s.map; reaches = nat_le s.map.end (length s.blocks) }

-- ---- The lock check.

-- The message that comes to the lock check, or none where it is refused before.
abbrev pub message_in : Result Message Status → Option Message
message_in (Ok m) = Some m
message_in (Err s) = None

-- The message that a call brings to the lock check, if it is a command that passes all checks before it.
abbrev pub brings : Fixed → Host → Call → Option Message
brings f x (command h bytes) = cond (nat_lt h 8) (message_in (judged f.map f.reaches x bytes)) None
brings f x (segment k buffer) = None
brings f x (report k buffer) = None
brings f x (cancel k) = None
brings f x (clear h) = None
brings f x (notice h) = None
brings f x (fault h) = None

-- The same for a call in a state, by the record of the host that the call names or its ticket bears.
abbrev pub asked : State → Call → Option Message
asked s c = brings (fixed s) (host_of s (by c)) c

-- Some host other than h stands in the way of what the message wants; with no message nothing does.
abbrev pub blocked : List Host → ℕ → Option Message → Bool
blocked hosts h None = false
blocked hosts h (Some m) = another (stands (wanted m)) h hosts

-- Something stands in the way of the message.
abbrev pub in_way : State → Call → Bool
in_way s c = blocked s.hosts (by c) (asked s c)

-- ---- What a call comes to, by its host's own record and the blocks of its own span.

-- What a call comes to: its answer, its host's record after it, the blocks put from the start of its span on, and how many were tried.
pub record Served : Type 0 where
  pub answer : Answer
  pub host : Host
  pub put : List Block
  pub tried : ℕ

-- A call that only answers, and leaves its host's record as it is given here: no block is put and none tried.
abbrev pub says : Answer → Host → Served
says a x = record { answer = a; host = x; put = []; tried = 0 }

-- The ticket for a phase that bears device n's number and host h: for execution an execution ticket, for the report a report ticket.
abbrev pub ticket_for : ℕ → ℕ → Phase → Ticket
ticket_for n h phases.Execution = tickets.Execution (record { device = n; host = h })
ticket_for n h phases.Report = tickets.Report (record { device = n; host = h })

-- The status of a refused message: the one that keeps it from the lock check, or 4/3 where it comes there.
abbrev pub status_in : Result Message Status → Status
status_in (Ok m) = statuses.ResourceUnavailable
status_in (Err s) = s

-- A host's number is 0 to 7, first of all, else 128/4.
abbrev pub first_status : Fixed → Host → ℕ → List ℕ → Status
first_status f x h bytes = cond (nat_lt h 8) (status_in (judged f.map f.reaches x bytes)) statuses.BadHost

-- A command: accepted, it hands out a ticket for its transaction's phase; refused, it leaves its host, but 1/3 zeroes the address.
abbrev pub commanded : Fixed → Option Message → Host → ℕ → List ℕ → Served
commanded f (Some m) x h bytes = says (accepted (ticket_for f.number h (opened f.map m).phase)) (accepted_by f.map m x)
commanded f None x h bytes = says (refusal (first_status f x h bytes)) (refused (first_status f x h bytes) x)

-- Two phases are the same.
abbrev pub is_phase : Phase → Phase → Bool
is_phase phases.Execution phases.Execution = true
is_phase phases.Execution phases.Report = false
is_phase phases.Report phases.Execution = false
is_phase phases.Report phases.Report = true

-- The transaction that a ticket fits: the ticket bears this device's number, and its host has an open transaction in the ticket's phase.
abbrev pub fitting : ℕ → ℕ → Phase → Option Transaction → Option Transaction
fitting number device phase None = None
fitting number device phase (Some t) = cond (device == number && is_phase phase t.phase) (Some t) None

-- A segment that is carried out exchanges its ticket for the next; the buffer, the blocks and how its host goes on are those of `m`.
abbrev pub segment_moved : Fixed → Host → Transaction → ℕ → Moved → Served
segment_moved f x t h m = record {
  answer = moved (ticket_for f.number h (advanced t m.progress).phase) m.buffer;
  host = moved_by t m.progress x;
  put = m.put;
  tried = m.progress.tried;
}

-- The transaction that a ticket fits, if the blocks that it has left do not pass its unit's end; otherwise none.
abbrev pub executable : UnitMap → Option Transaction → Option Transaction
executable map None = None
executable map (Some t) = cond (lies_in map t) (Some t) None

-- A segment: the ticket fits, and what is left lies in the unit, else 1/6; then the buffer holds the segment, else 128/5.
abbrev pub segmented : Fixed → Option Transaction → Host → List (Option Block) → ExecutionTicket → List ℕ → Served
segmented f None x os k buffer = says (returned statuses.MessageSequence (tickets.Execution k) buffer) x
segmented f (Some t) x os k buffer =
    cond (holds_segment t (message_of f.map k.host t) buffer)
    (segment_moved f x t k.host (told (message_of f.map k.host t) (moved_by_command t.command t (start_of f.map (Some t)) os buffer)))
    (says (returned statuses.BadBuffer (tickets.Execution k) buffer) x)

-- A report: the ticket fits, else 1/6; then the buffer has 13 bytes, else 128/5. It ends the transaction.
abbrev pub reported_on : Option Transaction → Host → ReportTicket → List ℕ → Served
reported_on None x k buffer = says (returned statuses.MessageSequence (tickets.Report k) buffer) x
reported_on (Some t) x k buffer =
    cond (nat_le 13 (length buffer))
    (says (reported (report_bytes t.outcome ++ drop 13 buffer)) (ended x))
    (says (returned statuses.BadBuffer (tickets.Report k) buffer) x)

-- The device's number that a ticket bears.
abbrev pub number_on : Ticket → ℕ
number_on (tickets.Execution k) = k.device
number_on (tickets.Report k) = k.device

-- The phase that a ticket is for, by its type.
abbrev pub phase_on : Ticket → Phase
phase_on (tickets.Execution k) = phases.Execution
phase_on (tickets.Report k) = phases.Report

-- A cancel: the ticket fits, else 1/6. It ends the transaction; blocks that were moved stay.
abbrev pub cancelled : Option Transaction → Host → Ticket → Served
cancelled None x k = says (returned statuses.MessageSequence k []) x
cancelled (Some t) x k = says done (ended x)

-- A clear: a host's number, else 128/4; no open transaction, else 1/6.
abbrev pub cleared_by : ℕ → Host → Served
cleared_by h x = cond (nat_lt h 8) (cond (is_some x.transaction) (says (refusal statuses.MessageSequence) x) (says done cleared)) (says (refusal statuses.BadHost) x)

-- A notice call: a host's number, else 128/4; it tells the host's notice, or none. The host's record stays.
abbrev pub notice_told : ℕ → Mail → Host → Served
notice_told h m x = cond (nat_lt h 8) (says (noticed m.notice) x) (says (refusal statuses.BadHost) x)

-- A fault call: a host's number, else 128/4; it tells the host's fault, or none. The host's record stays, and its fault with it.
abbrev pub fault_told : ℕ → Host → Served
fault_told h x = cond (nat_lt h 8) (says (faulted x.fault) x) (says (refusal statuses.BadHost) x)

-- With nothing in the way; `o` is the message that came to the lock check.
abbrev pub does : Fixed → Option Message → Host → Mail → List (Option Block) → Call → Served
does f o x m os (command h bytes) = commanded f o x h bytes
does f o x m os (segment k buffer) = segmented f (executable f.map (fitting f.number k.device phases.Execution x.transaction)) x os k buffer
does f o x m os (report k buffer) = reported_on (fitting f.number k.device phases.Report x.transaction) x k buffer
does f o x m os (cancel k) = cancelled (fitting f.number (number_on k) (phase_on k) x.transaction) x k
does f o x m os (clear h) = cleared_by h x
does f o x m os (notice h) = notice_told h m x
does f o x m os (fault h) = fault_told h x

-- With something in the way the message is refused with 4/3, and its host is left.
abbrev pub serve : Bool → Fixed → Option Message → Host → Mail → List (Option Block) → Call → Served
serve true f o x m os c = says (refusal statuses.ResourceUnavailable) x
serve false f o x m os c = does f o x m os c

-- The block of the store at which the next segment of host h's open transaction begins; 0 where it has none.
abbrev pub start : State → ℕ → ℕ
start s h = start_of s.map (host_of s h).transaction

-- How many blocks that segment has, the next 32 or the rest; 0 where the host has no open transaction.
abbrev pub reach : State → ℕ → ℕ
reach s h = reach_of (host_of s h).transaction

-- What a call comes to in a state, by its host's record and mail, its span, and whether something stands in its way.
abbrev pub served : State → Call → Served
served s c =
    serve (in_way s c) (fixed s) (asked s c) (host_of s (by c)) (mail_of s (by c)) (span s.blocks (start s (by c)) (reach s (by c))) c

-- ---- The mail.

-- A message refused at the lock check is waited for, in place of an earlier one, and the notice stays; without a message the mail stays.
abbrev pub waiting : Option Message → Mail → Mail
waiting None m = m
waiting (Some w) m = record { wait = Some (wanted w); notice = m.notice }

-- A clear drops wait and notice; with an open transaction it is refused, and both stay.
abbrev pub dropped : Host → Mail → Mail
dropped x m = cond (is_some x.transaction) m silent

-- The host's mail after a call: 4/3 makes a wait, a clear empties it unless refused, the notice call removes the notice, all else leaves it.
abbrev pub posted : Bool → Option Message → Host → Call → Mail → Mail
posted true o x c m = waiting o m
posted false o x (command h bytes) m = m
posted false o x (segment k buffer) m = m
posted false o x (report k buffer) m = m
posted false o x (cancel k) m = m
posted false o x (clear h) m = dropped x m
posted false o x (notice h) m = without_notice m
posted false o x (fault h) m = m

-- ---- A call.

-- What is kept of a host.
pub record Known : Type 0 where
  pub host : Host
  pub mail : Mail

-- Every wait is judged.
abbrev pub with_waits : Controller → Controller
with_waits c = record { number = c.number; map = c.map; hosts = c.hosts; mail = settle c.hosts c.mail; activity = c.activity }

-- The same after what is kept of a host was put in its place.
abbrev pub with_host : Controller → ℕ → Known → Controller
with_host c h k = with_waits (record { number = c.number; map = c.map; hosts = slice_set c.hosts h k.host; mail = slice_set c.mail h k.mail; activity = c.activity })

-- The views of a host: its number is 0 to 7, else 128/4. They change nothing.
abbrev pub viewed : {X : Type 0} → ℕ → X → Result X Status
viewed h x = cond (nat_lt h 8) (Ok x) (Err statuses.BadHost)

-- The view of host h's parameters, or 128/4 where h is above 7.
abbrev pub parameters_of : Controller → ℕ → Result Parameters Status
parameters_of c h = viewed h (host_at c.hosts h).parameters

-- The view of host h's locks, or 128/4 where h is above 7.
abbrev pub locks_of : Controller → ℕ → Result Locks Status
locks_of c h = viewed h (host_at c.hosts h).locks

-- What a message comes to at the lock check.
abbrev pub taken : Controller → ℕ → Known → Message → Answer × Controller
taken c h k m =
    cond (another (stands (wanted m)) h c.hosts)
    (refusal statuses.ResourceUnavailable, with_host c h (record { host = k.host; mail = waiting_for (wanted m) k.mail }))
    (accepted (ticket_for c.number h (opened c.map m).phase), with_host c h (record { host = accepted_by c.map m k.host; mail = k.mail }))

-- Activity counts the blocks that were tried, and stays at 2 ^ 64 - 1.
abbrev pub counted : ℕ → ℕ → ℕ
counted n zero = n
counted n (suc more) = min (2 ^ 64 - 1) (n + suc more)

-- The controller after n blocks were tried: its activity counts them, and all else is as it was.
abbrev pub with_activity : Controller → ℕ → Controller
with_activity c n = record { number = c.number; map = c.map; hosts = c.hosts; mail = c.mail; activity = counted c.activity n }

-- A transaction that a segment has moved on, and the ticket for what follows.
abbrev pub gone_on : Controller → ℕ → Known → Transaction → Progress → Ticket × Controller
gone_on c h k t p =
    (ticket_for c.number h (phase_after t), with_host (with_activity c p.tried) h (record { host = moved_by t p k.host; mail = k.mail }))

-- The state after a call that comes to `d`: its host's record and mail in place, every wait judged, tried blocks counted, put blocks in the store.
abbrev pub left_by : State → Call → Served → State
left_by s c d = record {
  number = s.number;
  map = s.map;
  hosts = slice_set s.hosts (by c) d.host;
  mail = settle (slice_set s.hosts (by c) d.host) (slice_set s.mail (by c) (posted (in_way s c) (asked s c) (host_of s (by c)) c (mail_of s (by c))));
  activity = counted s.activity d.tried;
  blocks = laid s.blocks (start s (by c)) d.put;
}

-- What a call answers and leaves. At its end every host's wait is judged.
abbrev pub after : State → Call → Answer × State
after s c = ((served s c).answer, left_by s c (served s c))

-- What a call answers.
unfoldable pub answer : State → Call → Answer
answer s c = (after s c).0

-- The state that a call leaves.
unfoldable pub next : State → Call → State
next s c = (after s c).1

-- The state after the device has taken a list of calls, one after another; with no call it is as before.
abbrev pub run : State → List Call → State
run s [] = s
run s (c ∷ cs) = run (next s c) cs

-- The device at power on: every host is interlocked, holds nothing and has the notice 3/1.
abbrev pub power_on : ℕ → UnitMap → List Block → State
power_on number map blocks = record { number = number; map = map; hosts = replicate 8 at_start; mail = replicate 8 powered; activity = 0; blocks = blocks }
