-- Whole transfers: all segments of a transaction, however they are cut, joined.
use Rattle.std.specs.Prelude.{◌≡◌, ℕ, ◌-◌, ◌*◌, true, ◌≢◌, List, [], ◌∷◌, ◌++◌, take, is_some, Some, None, Option}
use Rattle.host.specs.declared.transaction.Failure.{Failure}
use Rattle.host.specs.declared.transaction.Phase.TheVariants as phases
use Rattle.host.specs.declared.transaction.Transaction.{Transaction}
use Rattle.host.specs.Progress.{first_fault, address_tried}
use Rattle.transfer.specs.Segments.{start_of, span, laid, Moved, moved_by_command, message_of, holds_segment}
use Rattle.transfer.specs.Transfers.{Moves}
use Rattle.device.specs.declared.ticket.ExecutionTicket.{ExecutionTicket}
use Rattle.device.specs.Calls.{Call, segment, by, Answer, accepted, moved, reported, done, noticed, faulted, refusal, returned}
use Rattle.device.specs.Device.{State, host_of, fitting, counted, answer, next, run}

-- A segment is moved if it answers by the next ticket.
abbrev pub IsMoved : Answer → Type 0
IsMoved (accepted k) = ⊥
IsMoved (moved k buffer) = Unit {0}
IsMoved (reported buffer) = ⊥
IsMoved done = ⊥
IsMoved (noticed n) = ⊥
IsMoved (faulted f) = ⊥
IsMoved (refusal s) = ⊥
IsMoved (returned s k buffer) = ⊥

-- The buffer as a call leaves it.
abbrev pub buffer_in : Answer → List ℕ
buffer_in (accepted k) = []
buffer_in (moved k buffer) = buffer
buffer_in (reported buffer) = buffer
buffer_in done = []
buffer_in (noticed n) = []
buffer_in (faulted f) = []
buffer_in (refusal s) = []
buffer_in (returned s k buffer) = buffer

-- ---- No segment is refused but for its ticket or its buffer.

-- MOVING, from a device in state `start`: after any list of calls, a segment whose ticket fits an open transaction, with a buffer that holds it, is moved.
abbrev pub MovingFrom : State → Type 0
MovingFrom start =
    (calls : List Call) (k : ExecutionTicket) (buffer : List ℕ) (t : Transaction) →
    let s = run start calls in
    fitting s.number k.device phases.Execution (host_of s k.host).transaction ≡ Some t →
    holds_segment t (message_of s.map k.host t) buffer ≡ true →
    IsMoved (answer s (segment k buffer))

-- ---- All segments of a transaction.

-- The segments on a ticket, one buffer each.
abbrev pub segments : ExecutionTicket → List (List ℕ) → List Call
segments k [] = []
segments k (buffer ∷ more) = segment k buffer ∷ segments k more

-- None of them is refused.
abbrev pub AllMoved : State → ExecutionTicket → List (List ℕ) → Type 0
AllMoved s k [] = Unit {0}
AllMoved s k (buffer ∷ more) = IsMoved (answer s (segment k buffer)) × AllMoved (next s (segment k buffer)) k more

-- How many blocks a transaction has left to move.
abbrev pub left_in : Option Transaction → ℕ
left_in None = 0
left_in (Some t) = t.left

-- How many blocks the open transaction of host h has left to move; 0 where it has none.
abbrev pub left_of : State → ℕ → ℕ
left_of s h = left_in (host_of s h).transaction

-- How many blocks a call moves: as many as its host has fewer left after it.
abbrev pub moved_count : State → Call → ℕ
moved_count s c = left_of s (by c) - left_of (next s c) (by c)

-- The bytes of the blocks of all segments, in order, as the buffers are given: of each buffer 256 bytes for each block, from its front.
abbrev pub all_given : State → ExecutionTicket → List (List ℕ) → List ℕ
all_given s k [] = []
all_given s k (buffer ∷ more) = take (256 * moved_count s (segment k buffer)) buffer ++ all_given (next s (segment k buffer)) k more

-- The bytes at the same places, as the buffers are left.
abbrev pub all_left : State → ExecutionTicket → List (List ℕ) → List ℕ
all_left s k [] = []
all_left s k (buffer ∷ more) =
    take (256 * moved_count s (segment k buffer)) (buffer_in (answer s (segment k buffer))) ++ all_left (next s (segment k buffer)) k more

-- What there is to report so far.
abbrev pub outcome_in : Option Transaction → Option Failure
outcome_in None = None
outcome_in (Some t) = t.outcome

-- What there is to report so far of the open transaction of host h; nothing where it has none.
abbrev pub outcome_of : State → ℕ → Option Failure
outcome_of s h = outcome_in (host_of s h).transaction

-- What one segment of all the blocks that a transaction has left would come to.
abbrev pub at_once : State → Transaction → List ℕ → Moved
at_once s t bytes =
    moved_by_command t.command t (start_of s.map (Some t)) (span s.blocks (start_of s.map (Some t)) t.left) bytes

-- The device has come from s to s' by moving m for host h: the buffers, the blocks, what there is to report, the host's fault and target
-- address, and the activity are those of m; the transaction is still open, and no other host's record is changed.
pub record ComesTo (s s' : State) (h : ℕ) (t : Transaction) (left : List ℕ) (m : Moved) : Type 0 where
  pub buffers : left ≡ m.buffer
  pub blocks : s'.blocks ≡ laid s.blocks (start_of s.map (Some t)) m.put
  pub outcome : outcome_of s' h ≡ m.progress.outcome
  pub still_open : is_some (host_of s' h).transaction ≡ true
  pub fault : (host_of s' h).fault ≡ first_fault (host_of s h).fault m.progress.fault
  pub address : (host_of s' h).parameters.address ≡ address_tried (host_of s h).parameters.address t.at m.progress.tried
  pub activity : s'.activity ≡ counted s.activity m.progress.tried
  pub others : (g : ℕ) → g ≢ h → host_of s' g ≡ host_of s g

-- A whole transfer comes to what one segment of all its blocks would, however it was cut; and that is what is asked for, block by block.
pub record Transferred (s s' : State) (h : ℕ) (t : Transaction) (given left : List ℕ) : Type 0 where
  pub however_cut : ComesTo s s' h t left (at_once s t given)
  pub block_by_block : Moves t (start_of s.map (Some t)) t.left s.blocks s'.blocks given left (outcome_of s' h)

-- TRANSFERS, from a device in state `start`: after any list of calls, take any segments of a host's open transaction of which none is refused and
-- after which no block is left to move. Then they are a whole transfer.
abbrev pub TransfersFrom : State → Type 0
TransfersFrom start =
    (calls : List Call) (k : ExecutionTicket) (t : Transaction) (buffers : List (List ℕ)) →
    let s = run start calls in
    let s' = run s (segments k buffers) in
    (host_of s k.host).transaction ≡ Some t →
    AllMoved s k buffers →
    left_of s' k.host ≡ 0 →
    Transferred s s' k.host t (all_given s k buffers) (all_left s k buffers)
