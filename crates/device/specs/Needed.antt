-- What the isolation theorem asks for is needed, each part of it: a run in which all else holds, and its conclusion is false.
use Rattle.std.specs.Prelude.{◌≡◌, ℕ, ◌+◌, true, List, [], ◌∷◌, filter}
use Rattle.device.specs.Calls.{Call, command}
use Rattle.device.specs.Device.{State, host_of, asked, next, run}
use Rattle.device.specs.Isolation.{Own, AtHome, GivesUp, Holds, Keeps, Isolated, by_host}
use Rattle.device.specs.Sample.{cleared_state, locked_state, lock_unit, lock_device, on_one, write_one, send, ask_report}

-- Each call of host h in a continuation from s has a property, in the state that it comes to.
abbrev pub InEach : (State → Call → Type 0) → ℕ → State → List Call → Type 0
InEach P h s [] = Unit {0}
InEach P h s (c ∷ cs) = (by_host h c ≡ true → P s c) × InEach P h (next s c) cs

-- In its calls host h gives up no lock.
abbrev pub GivesUpNone : ℕ → State → List Call → Type 0
GivesUpNone = InEach (λ s c. GivesUp s c → ⊥)

-- In its calls host h keeps to the units whose locks it holds.
abbrev pub KeepsToUnits : ℕ → State → List Call → Type 0
KeepsToUnits h = InEach (λ s c. Own (host_of s h) (asked s c)) h

-- ---- It holds a lock.

-- A message of host h with No Op alone.
abbrev pub no_op : ℕ → Call
no_op h = command h (0x34 ∷ [])

-- Host 1 locks the device before it.
unfoldable pub kept_out : List Call
kept_out = lock_device 1 ∷ no_op 0 ∷ []

-- Nobody does.
unfoldable pub let_in : List Call
let_in = no_op 0 ∷ []

-- Host 0, with no lock, is refused in the first and accepted in the second.
pub record WithoutLock : Type 0 where
  pub same : filter (by_host 0) kept_out ≡ filter (by_host 0) let_in
  pub keeps : Keeps 0 cleared_state kept_out
  pub keeps_too : Keeps 0 cleared_state let_in
  pub differs : Isolated 0 cleared_state kept_out let_in → ⊥

-- ---- Its calls are the same.

-- Host 0 writes to unit 0.
unfoldable pub writes : List Call
writes = write_one 0 0 ∷ send 0 7 ∷ []

-- Host 0, with unit 0 locked, writes there, or makes no call: so its answers differ.
pub record WithOtherCalls : Type 0 where
  pub holds : Holds (host_of locked_state 0)
  pub keeps : Keeps 0 locked_state writes
  pub keeps_too : Keeps 0 locked_state []
  pub differs : Isolated 0 locked_state writes [] → ⊥

-- ---- It gives up no lock.

-- A command of host h: unit u in effect, and its lock deleted.
abbrev pub unlock_unit : ℕ → ℕ → Call
unlock_unit h u = command h ((0x20 + u) ∷ 0x7b ∷ [])

-- Host 0 gives up its lock of unit 0, and host 1 writes there.
unfoldable pub gives_up : List Call
gives_up = unlock_unit 0 0 ∷ ask_report 0 ∷ write_one 1 0 ∷ send 1 9 ∷ []

-- It gives it up, and nobody writes there.
unfoldable pub gives_up_alone : List Call
gives_up_alone = unlock_unit 0 0 ∷ ask_report 0 ∷ []

-- A block of unit 0, which host 0 had locked, ends with other bytes.
pub record GivenUp : Type 0 where
  pub holds : Holds (host_of locked_state 0)
  pub same : filter (by_host 0) gives_up ≡ filter (by_host 0) gives_up_alone
  pub at_home : AtHome (host_of locked_state 0)
  pub to_units : KeepsToUnits 0 locked_state gives_up
  pub to_units_too : KeepsToUnits 0 locked_state gives_up_alone
  pub differs : Isolated 0 locked_state gives_up gives_up_alone → ⊥

-- ---- Its calls keep to its units.

-- Host 0 would write to unit 1, which host 1 locks before.
unfoldable pub off_its_units : List Call
off_its_units = lock_unit 1 1 ∷ write_one 0 1 ∷ []

-- Nobody locks it.
unfoldable pub off_alone : List Call
off_alone = write_one 0 1 ∷ []

-- Host 0, with unit 0 locked, is refused in the first and accepted in the second.
pub record OffItsUnits : Type 0 where
  pub holds : Holds (host_of locked_state 0)
  pub same : filter (by_host 0) off_its_units ≡ filter (by_host 0) off_alone
  pub at_home : AtHome (host_of locked_state 0)
  pub given_up : GivesUpNone 0 locked_state off_its_units
  pub given_up_too : GivesUpNone 0 locked_state off_alone
  pub differs : Isolated 0 locked_state off_its_units off_alone → ⊥

-- ---- Its open transaction is on one of its units.

-- Host 0, with unit 0 locked, has a Read of unit 1 open.
unfoldable pub reading_off : State
reading_off = run locked_state (on_one 0x00 0 1 ∷ [])

-- Host 1 writes there before host 0's segment.
unfoldable pub reads_another : List Call
reads_another = write_one 1 1 ∷ send 1 9 ∷ send 0 7 ∷ []

-- Nobody writes there.
unfoldable pub reads_alone : List Call
reads_alone = send 0 7 ∷ []

-- Host 0's segment hands over other bytes.
pub record OpenOffItsUnits : Type 0 where
  pub holds : Holds (host_of reading_off 0)
  pub same : filter (by_host 0) reads_another ≡ filter (by_host 0) reads_alone
  pub to_units : KeepsToUnits 0 reading_off reads_another
  pub to_units_too : KeepsToUnits 0 reading_off reads_alone
  pub given_up : GivesUpNone 0 reading_off reads_another
  pub given_up_too : GivesUpNone 0 reading_off reads_alone
  pub differs : Isolated 0 reading_off reads_another reads_alone → ⊥

-- Without any one of them the conclusion is false.
pub record Needed : Type 0 where
  pub lock : WithoutLock
  pub same_calls : WithOtherCalls
  pub no_lock_given_up : GivenUp
  pub calls_on_its_units : OffItsUnits
  pub open_on_its_units : OpenOffItsUnits
