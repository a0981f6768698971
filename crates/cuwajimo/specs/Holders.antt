-- Who holds the locks of a device, and the line that tells it.
use Rattle.std.specs.Prelude.{ℕ, Bool, false, cond, List, [], ◌++◌, map, Some, None, Ok, Err, codes, decimal, find, flat_map, is_none, Option, Result}
use Rattle.std.specs.List.{range_with_len, list_all, enumerate_from}
use Rattle.flex.specs.declared.status.Status.{Status}
use Rattle.host.specs.declared.locks.Locks.{Locks}
use Rattle.host.specs.declared.record.Host.{Host}
use Rattle.host.specs.Hosts.{host_at, unit_lock}
use Rattle.device.specs.Device.{viewed}
use Rattle.cuwajimo.specs.declared.holders.Holders.{Holders}
use Rattle.cuwajimo.specs.declared.holders.Lock.{Lock}
use Rattle.cuwajimo.specs.declared.holders.Lock.TheVariants as locks

-- A lock is among those of a host; where these are refused, since there is no such host, it is not.
abbrev pub lock_among : Lock → Result Locks Status → Bool
lock_among locks.Device (Ok held) = held.device
lock_among locks.Device (Err status) = false
lock_among (locks.Unit unit) (Ok held) = unit_lock held unit
lock_among (locks.Unit unit) (Err status) = false

-- The host holds the lock; a host above 7 has none.
abbrev pub holds : List Host → Lock → ℕ → Bool
holds hosts lock host = lock_among lock (viewed host (host_at hosts host).locks)

-- The first of the eight hosts that holds a lock.
abbrev pub first_holder : List Host → Lock → Option ℕ
first_holder hosts lock = find (holds hosts lock) (range_with_len 0 8)

-- Of the device, and of each of its 15 units.
abbrev pub holders_of : List Host → Holders
holders_of hosts = record {
  device = first_holder hosts locks.Device;
  units = map (λ unit. first_holder hosts (locks.Unit unit)) (range_with_len 0 15);
}

-- A locked unit and its holder.
abbrev pub held_words : ℕ × Option ℕ → List ℕ
held_words (unit, None) = []
held_words (unit, Some host) = codes " " ++ (decimal unit ++ (codes "=" ++ decimal host))

-- Each locked unit, or that there is none.
abbrev pub units_words : List (Option ℕ) → List ℕ
units_words units = cond (list_all is_none units) (codes " none") (flat_map held_words (enumerate_from 0 units))

-- The holder of the device's lock, or that there is none.
abbrev pub device_words : Option ℕ → List ℕ
device_words None = codes "none"
device_words (Some host) = decimal host

-- The line of `locks`: who holds the device, and then each locked unit with its holder.
abbrev pub holders_words : Holders → List ℕ
holders_words holders = codes "locks: device " ++ (device_words holders.device ++ (codes " units" ++ units_words holders.units))
