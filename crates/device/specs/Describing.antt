-- What an Extended Describe comes to.
use Rattle.std.specs.Prelude.{◌≡◌, ℕ, ◌≤◌, true, List, ◌++◌, length, drop, Some}
use Rattle.describe.specs.Descriptions.{description}
use Rattle.describe.specs.Readers.{ReadBack}
use Rattle.host.specs.declared.transaction.Phase.TheVariants as phases
use Rattle.host.specs.declared.transaction.Transaction.{Transaction}
use Rattle.host.specs.Messages.{describes}
use Rattle.device.specs.declared.ticket.ExecutionTicket.{ExecutionTicket}
use Rattle.device.specs.declared.ticket.Ticket.TheVariants as tickets
use Rattle.device.specs.Calls.{Call, segment, moved}
use Rattle.device.specs.Device.{State, host_of, fitting, answer, next, run}

-- A call of host h has described the units: the description stands in front of the buffer, and a reader learns from it of the units all that there
-- is to learn; the buffer's other bytes stay, and so does every block, the activity, and of every host the parameters, the locks and the fault.
pub record Described (s s' : State) (h : ℕ) (given left : List ℕ) : Type 0 where
  pub written : left ≡ description s.map h ++ drop (length (description s.map h)) given
  pub read_back : ReadBack s.map h left
  pub blocks : s'.blocks ≡ s.blocks
  pub activity : s'.activity ≡ s.activity
  pub parameters : (g : ℕ) → (host_of s' g).parameters ≡ (host_of s g).parameters
  pub locks : (g : ℕ) → (host_of s' g).locks ≡ (host_of s g).locks
  pub faults : (g : ℕ) → (host_of s' g).fault ≡ (host_of s g).fault

-- DESCRIBING, from a device in state `start`: after any list of calls, a segment whose ticket fits an Extended Describe, with a buffer that holds the
-- description, is answered by the ticket for the report, and has described the units.
abbrev pub DescribingFrom : State → Type 0
DescribingFrom start =
    (calls : List Call) (k : ExecutionTicket) (given : List ℕ) (t : Transaction) →
    let s = run start calls in
    fitting s.number k.device phases.Execution (host_of s k.host).transaction ≡ Some t →
    describes t.command ≡ true →
    length (description s.map k.host) ≤ length given →
    (left : List ℕ) × (answer s (segment k given) ≡ moved (tickets.Report (record { device = s.number; host = k.host })) left) × Described s (next s (segment k given)) k.host given left
