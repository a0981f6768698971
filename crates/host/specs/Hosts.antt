-- The hosts, what each holds, and what stands in another's way.
use Rattle.std.specs.Prelude.{ℕ, zero, suc, Bool, true, false, cond, not, ◌&&◌, ◌||◌, List, [], ◌∷◌, length, replicate, is_some, Some, None, Option, ◌==◌, slice_index_or}
use Rattle.message.specs.declared.command.Command.{Command}
use Rattle.message.specs.Commands.{is_on_unit}
use Rattle.message.specs.Messages.{at_power_on}
use Rattle.host.specs.declared.locks.Locks.{Locks}
use Rattle.host.specs.declared.record.Host.{Host}
use Rattle.host.specs.declared.transaction.Transaction.{Transaction}
use Rattle.host.specs.declared.want.Want.{Want}
use Rattle.host.specs.declared.want.Want.TheVariants as wants

-- What stands where there is no host: nothing is held.
abbrev pub blank : Host
blank = record { parameters = record { unit = 0; address = 0; length = 0 }; interlocked = false; locks = record { device = false; units = [] }; transaction = None; fault = None }

-- The locks of a host that holds none: not the device's, and none of the fifteen units'.
abbrev pub no_locks : Locks
no_locks = record { device = false; units = replicate 15 false }

-- A host at power on: unit 0, address 0, length FFFFFFFFH, no lock, no transaction, no fault, and interlocked.
abbrev pub at_start : Host
at_start = record { parameters = at_power_on; interlocked = true; locks = no_locks; transaction = None; fault = None }

-- A host after its clear: the same, but not interlocked.
abbrev pub cleared : Host
cleared = record { parameters = at_power_on; interlocked = false; locks = no_locks; transaction = None; fault = None }

-- What is kept of the host of a number; of a number past the last host, a blank, which holds nothing.
abbrev pub host_at : List Host → ℕ → Host
host_at hosts h = slice_index_or hosts h blank

-- The lock of unit u is held; a number past the units, as the controller's, has no lock, and so none is held.
abbrev pub unit_lock : Locks → ℕ → Bool
unit_lock l u = slice_index_or l.units u false

-- The host holds the lock of unit u.
abbrev pub locked : Host → ℕ → Bool
locked x u = unit_lock x.locks u

-- At least one of the list is true; of an empty list none is.
abbrev pub any : List Bool → Bool
any [] = false
any (b ∷ bs) = b || any bs

-- The unit of a command, if it is on one.
abbrev pub unit_of : Option Command → ℕ → Option ℕ
unit_of None u = None
unit_of (Some k) u = cond (is_on_unit k) (Some u) None

-- There is a unit, and it is unit u.
abbrev pub is_unit : Option ℕ → ℕ → Bool
is_unit None u = false
is_unit (Some v) u = v == u

-- The transaction is on unit u: its command is on a unit, and its unit is u.
abbrev pub is_on : Transaction → ℕ → Bool
is_on t u = is_unit (unit_of t.command t.unit) u

-- There is an open transaction, and it is on unit u, in either phase.
abbrev pub works_on : Option Transaction → ℕ → Bool
works_on None u = false
works_on (Some t) u = is_on t u

-- The host has an open transaction on unit u, in either phase.
abbrev pub on : Host → ℕ → Bool
on x u = works_on x.transaction u

-- The host has unit u locked: it holds the device's lock, or the unit's.
abbrev pub has_locked : Host → ℕ → Bool
has_locked x u = x.locks.device || locked x u

-- It has unit u locked, or works on it.
abbrev pub has_taken : Host → ℕ → Bool
has_taken x u = x.locks.device || (locked x u || on x u)

-- It has any lock or any open transaction.
abbrev pub has_anything : Host → Bool
has_anything x = x.locks.device || (any x.locks.units || is_some x.transaction)

-- What in one host y stands in the way of what another asks for: of everything its device lock; of a command on a unit its lock of
-- that unit; of Set Unit Lock also its open transaction on that unit; of Set Device Lock any lock and any open transaction.
unfoldable pub stands : Want → Host → Bool
stands wants.Pass y = y.locks.device
stands wants.Device y = has_anything y
stands (wants.Lock u) y = has_taken y u
stands (wants.Unit u) y = has_locked y u

-- Some number below a bound passes a test; below 0 there is none.
unfoldable pub some_below : (ℕ → Bool) → ℕ → Bool
some_below p zero = false
some_below p (suc n) = p n || some_below p n

-- The host at g is another than the one at h, and passes a test.
abbrev pub is_another : (Host → Bool) → ℕ → List Host → ℕ → Bool
is_another p h hosts g = not (g == h) && p (host_at hosts g)

-- Some host other than the one at h passes a test.
abbrev pub another : (Host → Bool) → ℕ → List Host → Bool
another p h hosts = some_below (is_another p h hosts) (length hosts)
