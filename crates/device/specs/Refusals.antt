-- What a refused call leaves, in every state.
use Rattle.std.specs.Prelude.{◌≡◌, ℕ, cond, ◌&&◌, List, [], Some, None, Option, ◌==◌}
use Rattle.flex.specs.declared.status.Status.{Status}
use Rattle.host.specs.declared.record.Host.{Host}
use Rattle.host.specs.Messages.{is_address_bounds}
use Rattle.device.specs.declared.ticket.Ticket.{Ticket}
use Rattle.device.specs.declared.ticket.Ticket.TheVariants as tickets
use Rattle.device.specs.Calls.{Call, command, segment, report, cancel, clear, notice, fault, by, Answer, refusal, returned}
use Rattle.device.specs.Device.{State, host_of, answer, next, run}

-- The ticket that a call is given, if it is given one.
abbrev pub ticket_given : Call → Option Ticket
ticket_given (command h bytes) = None
ticket_given (segment k buffer) = Some (tickets.Execution k)
ticket_given (report k buffer) = Some (tickets.Report k)
ticket_given (cancel k) = Some k
ticket_given (clear h) = None
ticket_given (notice h) = None
ticket_given (fault h) = None

-- The buffer that a call is given, with its bytes; where it is given none, no bytes.
abbrev pub buffer_given : Call → List ℕ
buffer_given (command h bytes) = []
buffer_given (segment k buffer) = buffer
buffer_given (report k buffer) = buffer
buffer_given (cancel k) = []
buffer_given (clear h) = []
buffer_given (notice h) = []
buffer_given (fault h) = []

-- The target address of host g after host h was refused with a status: 0 for host h after 1/3, else as it was.
abbrev pub address_left : Status → ℕ → ℕ → ℕ → ℕ
address_left status h g address = cond (is_address_bounds status && g == h) 0 address

-- Of a host before and after a call: all that is kept of it is as it was, but its target address.
pub record SameButAddress (x y : Host) : Type 0 where
  pub unit : y.parameters.unit ≡ x.parameters.unit
  pub length : y.parameters.length ≡ x.parameters.length
  pub interlocked : y.interlocked ≡ x.interlocked
  pub locks : y.locks ≡ x.locks
  pub transaction : y.transaction ≡ x.transaction
  pub fault : y.fault ≡ x.fault

-- A refused command, clear, notice or fault call leaves every block, the activity, and every host; but 1/3 zeroes the target address of the host
-- that is refused, h.
pub record Refused (s s' : State) (h : ℕ) (status : Status) : Type 0 where
  pub blocks : s'.blocks ≡ s.blocks
  pub activity : s'.activity ≡ s.activity
  pub hosts : (g : ℕ) → SameButAddress (host_of s g) (host_of s' g)
  pub address : (g : ℕ) → (host_of s' g).parameters.address ≡ address_left status h g (host_of s g).parameters.address

-- A refused segment, report or cancel hands back the ticket that it was given, and leaves the buffer, every block, the activity and every host.
pub record HandedBack (s s' : State) (c : Call) (ticket : Ticket) (buffer : List ℕ) : Type 0 where
  pub same_ticket : Some ticket ≡ ticket_given c
  pub same_buffer : buffer ≡ buffer_given c
  pub blocks : s'.blocks ≡ s.blocks
  pub activity : s'.activity ≡ s.activity
  pub hosts : (g : ℕ) → host_of s' g ≡ host_of s g

-- What a call that answers so leaves: a refused one what is said above of its kind; of any other nothing is said.
abbrev pub Leaves : State → Call → Answer → Type 0
Leaves s c (refusal status) = Refused s (next s c) (by c) status
Leaves s c (returned status ticket buffer) = HandedBack s (next s c) c ticket buffer
Leaves s c other = Unit {0}

-- REFUSALS, from a device in state `start`: after any list of calls, a call that is refused leaves what is said above.
abbrev pub RefusalsFrom : State → Type 0
RefusalsFrom start = (calls : List Call) (c : Call) → Leaves (run start calls) c (answer (run start calls) c)
