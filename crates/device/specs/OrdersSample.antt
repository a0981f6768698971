-- Runs for either order: two guests whose lines of calls are put together in two ways, and for each thing that the law asks for two continuations that
-- lack only it and come to different ends. Device 5 has the two units of the other sample.
use Rattle.std.specs.Prelude.{◌≡◌, ℕ, true, false, List, [], ◌∷◌, ◌++◌, Some, filter}
use Rattle.std.specs.List.{slice_get}
use Rattle.device.specs.Calls.{Call, clear}
use Rattle.device.specs.Device.{State, host_of, asked, next, run}
use Rattle.device.specs.Isolation.{Holds, GivesUp, Own, Keeps, KeepsIn, by_host, by_others}
use Rattle.device.specs.Sample.{cleared_state, locked_state, filled_with, lock_unit, lock_device, write_one, send, ask_report}
use Rattle.device.specs.Needed.{no_op, unlock_unit}

-- The calls by which host h writes a block of unit u, its bytes all the same, and takes the report.
abbrev pub line : ℕ → ℕ → ℕ → List Call
line h u byte = write_one h u ∷ send h byte ∷ ask_report h ∷ []

-- The two continuations f and g put the same line of host 0 and the same line of the others together.
pub record SameLines (f g : List Call) : Type 0 where
  pub its_line : filter (by_host 0) f ≡ filter (by_host 0) g
  pub their_line : filter (by_others 0) f ≡ filter (by_others 0) g

-- ---- Two guests.

-- Host 0 has locked unit 0 and host 1 unit 1, over eight blocks of zeros; their reports are taken.
unfoldable pub both_locked : State
both_locked = run locked_state (lock_unit 1 1 ∷ ask_report 1 ∷ [])

-- Each writes to its unit: first host 0, and then host 1.
unfoldable pub one_by_one : List Call
one_by_one = line 0 0 7 ++ line 1 1 9

-- They make the same calls in turns.
unfoldable pub in_turns : List Call
in_turns = write_one 1 1 ∷ write_one 0 0 ∷ send 1 9 ∷ send 0 7 ∷ ask_report 0 ∷ ask_report 1 ∷ []

-- All that the law asks for holds, of either guest; there are no other calls, and both ways both blocks are written.
pub record EitherSampled : Type 0 where
  pub holds : Holds (host_of both_locked 0)
  pub holds_too : Holds (host_of both_locked 1)
  pub lines : SameLines one_by_one in_turns
  pub only_two : filter (by_others 0) one_by_one ≡ filter (by_host 1) one_by_one
  pub keeps : Keeps 0 both_locked one_by_one
  pub keeps_too : Keeps 1 both_locked one_by_one
  pub one_block : slice_get (run both_locked one_by_one).blocks 1 ≡ Some (filled_with 7)
  pub other_block : slice_get (run both_locked one_by_one).blocks 5 ≡ Some (filled_with 9)
  pub one_block_too : slice_get (run both_locked in_turns).blocks 1 ≡ Some (filled_with 7)
  pub other_block_too : slice_get (run both_locked in_turns).blocks 5 ≡ Some (filled_with 9)

-- ---- No lock is held.

-- Host 0's transaction is open when host 1 sets the device's lock.
unfoldable pub no_op_first : List Call
no_op_first = no_op 0 ∷ lock_device 1 ∷ ask_report 0 ∷ ask_report 1 ∷ []

-- Host 1 sets the device's lock before it.
unfoldable pub lock_first : List Call
lock_first = lock_device 1 ∷ no_op 0 ∷ ask_report 0 ∷ ask_report 1 ∷ []

-- Host 0 sends nothing on a unit and gives up nothing, but holds no lock: whether host 1 has the device's lock in the end goes by the order.
pub record WithoutLock : Type 0 where
  pub lines : SameLines no_op_first lock_first
  pub keeps : Keeps 0 cleared_state no_op_first
  pub refused : (host_of (run cleared_state no_op_first) 1).locks.device ≡ false
  pub accepted : (host_of (run cleared_state lock_first) 1).locks.device ≡ true

-- ---- A lock is given up.

-- Host 0 deletes its lock and takes its report, and then host 1 writes to that unit.
unfoldable pub unlock_first : List Call
unlock_first = unlock_unit 0 0 ∷ ask_report 0 ∷ line 1 0 9

-- Host 1 would write to it while the lock is held.
unfoldable pub unlock_last : List Call
unlock_last = line 1 0 9 ++ unlock_unit 0 0 ∷ ask_report 0 ∷ []

-- Host 0 keeps to its unit in every call, and gives up its lock in the first: whether host 1 writes goes by the order.
pub record LockGivenUp : Type 0 where
  pub holds : Holds (host_of locked_state 0)
  pub lines : SameLines unlock_first unlock_last
  pub own : Own (host_of locked_state 0) (asked locked_state (unlock_unit 0 0))
  pub gives_up : GivesUp locked_state (unlock_unit 0 0)
  pub then_keeps : KeepsIn 0 (next locked_state (unlock_unit 0 0)) (ask_report 0 ∷ line 1 0 9)
  pub written : slice_get (run locked_state unlock_first).blocks 1 ≡ Some (filled_with 9)
  pub left : slice_get (run locked_state unlock_last).blocks 1 ≡ Some (filled_with 0)

-- ---- A unit that is not locked.

-- Hosts 0 and 1 both write to unit 1, which neither has locked, host 0 first.
unfoldable pub strays_first : List Call
strays_first = line 0 1 7 ++ line 1 1 9

-- Host 0 last.
unfoldable pub strays_last : List Call
strays_last = line 1 1 9 ++ line 0 1 7

-- Host 0 gives up no lock, and its first call is on a unit that it has not locked: the later of the two stands in the block.
pub record UnitNotLocked : Type 0 where
  pub holds : Holds (host_of locked_state 0)
  pub lines : SameLines strays_first strays_last
  pub strays : Own (host_of locked_state 0) (asked locked_state (write_one 0 1)) → ⊥
  pub held : GivesUp locked_state (write_one 0 1) → ⊥
  pub then_keeps : KeepsIn 0 (next locked_state (write_one 0 1)) (send 0 7 ∷ ask_report 0 ∷ line 1 1 9)
  pub one_last : slice_get (run locked_state strays_first).blocks 5 ≡ Some (filled_with 9)
  pub other_last : slice_get (run locked_state strays_last).blocks 5 ≡ Some (filled_with 7)

-- ---- A third guest.

-- Host 0 writes to its unit, and hosts 1 and 2 to unit 1, host 2 last.
unfoldable pub third_last : List Call
third_last = line 0 0 7 ++ line 1 1 9 ++ clear 2 ∷ line 2 1 8

-- Host 1 last.
unfoldable pub third_first : List Call
third_first = line 0 0 7 ++ clear 2 ∷ line 2 1 8 ++ line 1 1 9

-- Host 0 keeps to its unit and gives up nothing, and each host's own line is the same; but the others' calls are not in the same order among themselves.
pub record ThirdGuest : Type 0 where
  pub holds : Holds (host_of locked_state 0)
  pub keeps : Keeps 0 locked_state third_last
  pub its_line : filter (by_host 0) third_last ≡ filter (by_host 0) third_first
  pub second_line : filter (by_host 1) third_last ≡ filter (by_host 1) third_first
  pub third_line : filter (by_host 2) third_last ≡ filter (by_host 2) third_first
  pub third_wrote : slice_get (run locked_state third_last).blocks 5 ≡ Some (filled_with 8)
  pub second_wrote : slice_get (run locked_state third_first).blocks 5 ≡ Some (filled_with 9)

-- Without any one of them the law does not hold.
pub record EitherNeeded : Type 0 where
  pub without_lock : WithoutLock
  pub lock_given_up : LockGivenUp
  pub unit_not_locked : UnitNotLocked
  pub third_guest : ThirdGuest
