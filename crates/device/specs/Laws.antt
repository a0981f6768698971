-- Laws of every state that a device reaches, and isolation in its stronger form.
use Rattle.std.specs.Prelude.{◌≡◌, ℕ, true, false, ◌≢◌, List, Some, None, filter}
use Rattle.std.specs.List.{slice_get}
use Rattle.store.specs.Blocks.{Block}
use Rattle.flex.specs.declared.unit_map.UnitMap.{UnitMap}
use Rattle.host.specs.declared.record.Host.{Host}
use Rattle.host.specs.declared.want.Want.{Want}
use Rattle.host.specs.Hosts.{locked, on, stands, another}
use Rattle.device.specs.Calls.{Call}
use Rattle.device.specs.Device.{State, host_of, mail_of, run, power_on}
use Rattle.device.specs.Isolation.{Guards, Holds, Keeps, answers, by_host, by_others, by_host_but_notices, by_others_but_notices}

-- ---- Exclusion.

-- The host holds no lock and has no open transaction.
pub record EmptyHanded (x : Host) : Type 0 where
  pub device : x.locks.device ≡ false
  pub units : (u : ℕ) → locked x u ≡ false
  pub transaction : x.transaction ≡ None

-- At most one host holds the device's lock, and then every other is empty-handed; no unit is locked by two hosts; and no host has an open
-- transaction on a unit that another has locked.
pub record Exclusive (s : State) : Type 0 where
  pub one_device : (g k : ℕ) → (host_of s g).locks.device ≡ true → (host_of s k).locks.device ≡ true → g ≡ k
  pub device_alone : (g k : ℕ) → (host_of s g).locks.device ≡ true → k ≢ g → EmptyHanded (host_of s k)
  pub one_locker : (g k u : ℕ) → locked (host_of s g) u ≡ true → locked (host_of s k) u ≡ true → g ≡ k
  pub unit_alone : (g k u : ℕ) → locked (host_of s g) u ≡ true → k ≢ g → on (host_of s k) u ≡ false

-- EXCLUSION, from a device in state `start`: it holds after any list of calls.
abbrev pub ExclusionFrom : State → Type 0
ExclusionFrom start = (calls : List Call) → Exclusive (run start calls)

-- Exclusion holds for any device number, any unit map and any blocks, from power on.
abbrev pub Exclusion : Type 0
Exclusion = (number : ℕ) (map : UnitMap) (blocks : List Block) → ExclusionFrom (power_on number map blocks)

-- ---- Waits.

-- WAITS, from a device in state `start`: after any list of calls, a host that still waits has something in its way. So no wait outlives its cause.
abbrev pub WaitsFrom : State → Type 0
WaitsFrom start =
    (calls : List Call) (h : ℕ) (w : Want) →
    (mail_of (run start calls) h).wait ≡ Some w →
    another (stands w) h (run start calls).hosts ≡ true

-- The law of waits holds for any device number, any unit map and any blocks, from power on.
abbrev pub Waits : Type 0
Waits = (number : ℕ) (map : UnitMap) (blocks : List Block) → WaitsFrom (power_on number map blocks)

-- ---- One run is two, side by side.

-- What a continuation f from s has in common with host h's calls of it alone, `mine`, and with the others' alone, `theirs`.
pub record SideBySide (h : ℕ) (s : State) (f mine theirs : List Call) : Type 0 where
  -- for the host: its answers, the notice call's only under the device's lock, its record, and the blocks of its locked units
  pub answered : answers (by_host_but_notices h) s f ≡ answers (by_host_but_notices h) s mine
  pub noticed : (host_of s h).locks.device ≡ true → answers (by_host h) s f ≡ answers (by_host h) s mine
  pub its_record : host_of (run s f) h ≡ host_of (run s mine) h
  pub its_blocks : (b : ℕ) → Guards s.map (host_of s h) b → slice_get (run s f).blocks b ≡ slice_get (run s mine).blocks b
  -- for the others: their answers but the notice call's, their records, and every other block
  pub their_answers : answers (by_others_but_notices h) s f ≡ answers (by_others_but_notices h) s theirs
  pub their_records : (g : ℕ) → g ≢ h → host_of (run s f) g ≡ host_of (run s theirs) g
  pub their_blocks : (b : ℕ) → (Guards s.map (host_of s h) b → ⊥) → slice_get (run s f).blocks b ≡ slice_get (run s theirs).blocks b

-- APARTNESS, from a device in state `start`: after any list of calls, if a host then holds the device's lock or some unit's lock, take any continuation
-- of which its own calls, made alone, give up no lock and, lacking the device's lock, keep to its units. Then the continuation is its own calls
-- and the others' calls, side by side.
abbrev pub ApartnessFrom : State → Type 0
ApartnessFrom start =
    (before f : List Call) (h : ℕ) →
    let s = run start before in
    let mine = filter (by_host h) f in
    let theirs = filter (by_others h) f in
    Holds (host_of s h) →
    Keeps h s mine →
    SideBySide h s f mine theirs

-- Apartness holds for any device number, any unit map and any blocks, from power on.
abbrev pub Apartness : Type 0
Apartness = (number : ℕ) (map : UnitMap) (blocks : List Block) → ApartnessFrom (power_on number map blocks)
