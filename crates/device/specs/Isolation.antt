-- A host that holds the device's lock or some units' locks, and keeps to them, is alone there.
use Rattle.std.specs.Prelude.{◌≡◌, ℕ, Bool, true, false, cond, not, ◌&&◌, ◌⊎◌, List, [], ◌∷◌, Some, None, filter, Option, ◌==◌}
use Rattle.std.specs.List.{slice_get}
use Rattle.store.specs.Blocks.{Block}
use Rattle.message.specs.declared.command.Command.{Command}
use Rattle.message.specs.declared.command.Command.TheVariants as commands
use Rattle.message.specs.declared.message.Message.{Message}
use Rattle.flex.specs.declared.unit_map.UnitMap.{UnitMap}
use Rattle.flex.specs.Maps.{block_at}
use Rattle.host.specs.declared.record.Host.{Host}
use Rattle.host.specs.declared.want.Want.{Want}
use Rattle.host.specs.declared.want.Want.TheVariants as wants
use Rattle.host.specs.Hosts.{locked, on}
use Rattle.host.specs.Messages.{wanted}
use Rattle.device.specs.declared.ticket.Ticket.{Ticket}
use Rattle.device.specs.Calls.{Call, command, segment, report, cancel, clear, notice, fault, by, Answer, accepted, done}
use Rattle.device.specs.Device.{State, host_of, asked, answer, next, run, power_on}

-- Block b of the store is one of unit u: some address of the unit names it.
abbrev pub In : UnitMap → ℕ → ℕ → Type 0
In map u b = (address : ℕ) × (block_at map u address ≡ Some b)

-- Unit u is locked for a host: it holds the device's lock, which locks every unit, or that unit's.
abbrev pub HasLocked : Host → ℕ → Type 0
HasLocked x u = (x.locks.device ≡ true) ⊎ (locked x u ≡ true)

-- Block b is of a unit that is locked for the host. A block of no unit is not.
abbrev pub Guards : UnitMap → Host → ℕ → Type 0
Guards map x b = (u : ℕ) × In map u b × HasLocked x u

-- It holds some lock.
abbrev pub Holds : Host → Type 0
Holds x = (x.locks.device ≡ true) ⊎ ((u : ℕ) × (locked x u ≡ true))

-- A command, with unit u in effect, deletes a lock that its host holds: Delete Device Lock the device's, Delete Unit Lock unit u's.
abbrev pub DeletesBy : Option Command → ℕ → Host → Type 0
DeletesBy None u x = ⊥
DeletesBy (Some commands.Read) u x = ⊥
DeletesBy (Some commands.Write) u x = ⊥
DeletesBy (Some commands.Verify) u x = ⊥
DeletesBy (Some commands.ExtendedDescribe) u x = ⊥
DeletesBy (Some commands.SetDeviceLock) u x = ⊥
DeletesBy (Some commands.DeleteDeviceLock) u x = x.locks.device ≡ true
DeletesBy (Some commands.SetUnitLock) u x = ⊥
DeletesBy (Some commands.DeleteUnitLock) u x = locked x u ≡ true

-- A message deletes a lock that its host holds; with no message none is deleted.
abbrev pub Deletes : Option Message → Host → Type 0
Deletes None x = ⊥
Deletes (Some m) x = DeletesBy m.command m.parameters.unit x

-- A host gives up a lock when its clear is accepted and it holds one, or when its delete of a lock that it holds is accepted.
abbrev pub GivesUp : State → Call → Type 0
GivesUp s (command h bytes) = ((k : Ticket) × (answer s (command h bytes) ≡ accepted k)) × Deletes (asked s (command h bytes)) (host_of s h)
GivesUp s (segment k buffer) = ⊥
GivesUp s (report k buffer) = ⊥
GivesUp s (cancel k) = ⊥
GivesUp s (clear h) = (answer s (clear h) ≡ done) × Holds (host_of s h)
GivesUp s (notice h) = ⊥
GivesUp s (fault h) = ⊥

-- What a message asks for at the lock check is on a unit whose own lock its host holds, or on none; and it is not the device's lock.
abbrev pub OwnWant : Host → Want → Type 0
OwnWant x wants.Pass = Unit {0}
OwnWant x wants.Device = ⊥
OwnWant x (wants.Lock u) = locked x u ≡ true
OwnWant x (wants.Unit u) = locked x u ≡ true

-- So it is with the message that a call brings to the lock check, or the call brings none.
abbrev pub Own : Host → Option Message → Type 0
Own x None = Unit {0}
Own x (Some m) = OwnWant x (wanted m)

-- Its open transaction, if on a unit, is on one whose own lock it holds.
abbrev pub AtHome : Host → Type 0
AtHome x = (u : ℕ) → on x u ≡ true → locked x u ≡ true

-- In one call it keeps to its units, unless it holds the device's lock, and gives up no lock.
pub record KeepsAt (s : State) (h : ℕ) (c : Call) : Type 0 where
  pub own : ((host_of s h).locks.device ≡ true) ⊎ Own (host_of s h) (asked s c)
  pub held : GivesUp s c → ⊥

-- The call is host h's: it names that host, or its ticket bears it.
abbrev pub by_host : ℕ → Call → Bool
by_host h c = by c == h

-- The call is the others': it is not host h's.
abbrev pub by_others : ℕ → Call → Bool
by_others h c = not (by c == h)

-- So it does in each of its calls of a continuation.
abbrev pub KeepsIn : ℕ → State → List Call → Type 0
KeepsIn h s [] = Unit {0}
KeepsIn h s (c ∷ cs) = (by_host h c ≡ true → KeepsAt s h c) × KeepsIn h (next s c) cs

-- From s on, in a continuation f, it gives up no lock and, unless it holds the device's lock, keeps to its units. Its open transaction is on one
-- of them where f begins; while its calls keep to them, one that it opens later is too.
pub record Keeps (h : ℕ) (s : State) (f : List Call) : Type 0 where
  pub at_home : ((host_of s h).locks.device ≡ true) ⊎ AtHome (host_of s h)
  pub in_calls : KeepsIn h s f

-- What is answered, with the buffer as it is left, to the calls that pass a test.
abbrev pub answers : (Call → Bool) → State → List Call → List Answer
answers p s [] = []
answers p s (c ∷ cs) = cond (p c) (answer s c ∷ answers p (next s c) cs) (answers p (next s c) cs)

-- The call is a notice call.
abbrev pub is_notice : Call → Bool
is_notice (command h bytes) = false
is_notice (segment k buffer) = false
is_notice (report k buffer) = false
is_notice (cancel k) = false
is_notice (clear h) = false
is_notice (notice h) = true
is_notice (fault h) = false

-- The call is host h's, and is no notice call.
abbrev pub by_host_but_notices : ℕ → Call → Bool
by_host_but_notices h c = by_host h c && not (is_notice c)

-- The call is the others', and is no notice call.
abbrev pub by_others_but_notices : ℕ → Call → Bool
by_others_but_notices h c = by_others h c && not (is_notice c)

-- What two continuations f and g from s have in common for host h.
pub record Isolated (h : ℕ) (s : State) (f g : List Call) : Type 0 where
  -- each of its calls has the same answer and leaves the same buffer, the notice call only under the device's lock
  pub answered : answers (by_host_but_notices h) s f ≡ answers (by_host_but_notices h) s g
  pub noticed : (host_of s h).locks.device ≡ true → answers (by_host h) s f ≡ answers (by_host h) s g
  -- the blocks of its locked units end equal, and so does all that is kept of it: its parameters, its locks, its open transaction and its fault
  pub its_blocks : (b : ℕ) → Guards s.map (host_of s h) b → slice_get (run s f).blocks b ≡ slice_get (run s g).blocks b
  pub its_record : host_of (run s f) h ≡ host_of (run s g) h
  -- every other block ends as the others' calls alone would leave it
  pub outside : (b : ℕ) → (Guards s.map (host_of s h) b → ⊥) → slice_get (run s f).blocks b ≡ slice_get (run s (filter (by_others h) f)).blocks b
  pub outside_too : (b : ℕ) → (Guards s.map (host_of s h) b → ⊥) → slice_get (run s g).blocks b ≡ slice_get (run s (filter (by_others h) g)).blocks b

-- ISOLATION, from a device in state `start`: after any list of calls, if a host then holds the device's lock or some unit's lock, take any two
-- continuations in which its own calls are the same in the same order, and in both of which it gives up no lock and, lacking the device's lock,
-- keeps to its units. Then it is isolated in them.
abbrev pub IsolationFrom : State → Type 0
IsolationFrom start =
    (before f g : List Call) (h : ℕ) →
    let s = run start before in
    Holds (host_of s h) →
    filter (by_host h) f ≡ filter (by_host h) g →
    Keeps h s f →
    Keeps h s g →
    Isolated h s f g

-- It holds for any device number, any unit map and any blocks, from power on.
abbrev pub Isolation : Type 0
Isolation = (number : ℕ) (map : UnitMap) (blocks : List Block) → IsolationFrom (power_on number map blocks)
