-- Two lines of calls, put together in any order.
use Rattle.std.specs.Prelude.{◌≡◌, ℕ, List, filter}
use Rattle.store.specs.Blocks.{Block}
use Rattle.flex.specs.declared.unit_map.UnitMap.{UnitMap}
use Rattle.device.specs.Calls.{Call}
use Rattle.device.specs.Device.{State, host_of, run, power_on}
use Rattle.device.specs.Isolation.{Holds, Keeps, answers, by_host, by_others, by_host_but_notices, by_others_but_notices}

-- What two continuations f and g from s have in common, where f and g put a host's line of calls and the others' line together, each in its way.
pub record OneHistory (h : ℕ) (s : State) (f g : List Call) : Type 0 where
  -- each call of the host, and each of the others, has the same answer and leaves the same buffer, notice calls apart
  pub its_answers : answers (by_host_but_notices h) s f ≡ answers (by_host_but_notices h) s g
  pub their_answers : answers (by_others_but_notices h) s f ≡ answers (by_others_but_notices h) s g
  -- every block ends equal, and so does all that is kept of each host: its parameters, its locks, its open transaction and its fault
  pub blocks : (run s f).blocks ≡ (run s g).blocks
  pub records : (k : ℕ) → host_of (run s f) k ≡ host_of (run s g) k

-- EITHER ORDER, from a device in state `start`: after any list of calls, if a host then holds the device's lock or some unit's lock, take any two
-- continuations in which its own calls are the same in the same order, and the others' calls are the same in the same order. If in one of the two the
-- host gives up no lock and, lacking the device's lock, keeps to its units, they are one history, however its calls fall between the others'.
abbrev pub EitherOrderFrom : State → Type 0
EitherOrderFrom start =
    (before f g : List Call) (h : ℕ) →
    let s = run start before in
    Holds (host_of s h) →
    filter (by_host h) f ≡ filter (by_host h) g →
    filter (by_others h) f ≡ filter (by_others h) g →
    Keeps h s f →
    OneHistory h s f g

-- Either order holds for any device number, any unit map and any blocks, from power on.
abbrev pub EitherOrder : Type 0
EitherOrder = (number : ℕ) (map : UnitMap) (blocks : List Block) → EitherOrderFrom (power_on number map blocks)
