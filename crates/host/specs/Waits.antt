-- What a host waits for, and what it is told.
use Rattle.std.specs.Prelude.{ℕ, Bool, true, false, List, map, length, Some, None, Option, slice_index_or}
use Rattle.std.specs.List.{range_with_len}
use Rattle.flex.specs.declared.status.Status.{Status}
use Rattle.flex.specs.declared.status.Status.TheVariants as statuses
use Rattle.host.specs.declared.mail.Mail.{Mail}
use Rattle.host.specs.declared.record.Host.{Host}
use Rattle.host.specs.declared.want.Want.{Want}
use Rattle.host.specs.declared.want.Want.TheVariants as wants
use Rattle.host.specs.Hosts.{stands, another}

-- No wait and no notice.
abbrev pub silent : Mail
silent = record { wait = None; notice = None }

-- At power on every host has the notice 3/1.
abbrev pub powered : Mail
powered = record { wait = None; notice = Some statuses.PowerOn }

-- The mail of the host of a number; of a number past the last host, no wait and no notice.
abbrev pub mail_at : List Mail → ℕ → Mail
mail_at ms h = slice_index_or ms h silent

-- A host waits for one thing at a time, the latest; a notice stays.
abbrev pub waiting_for : Want → Mail → Mail
waiting_for w m = record { wait = Some w; notice = m.notice }

-- A notice is told once; the wait stays.
abbrev pub without_notice : Mail → Mail
without_notice m = record { wait = m.wait; notice = None }

-- What a host is told once nothing stands in the way of what it waits for: 4/8 for a command on a unit, otherwise 4/1.
abbrev pub notice_of : Want → Status
notice_of wants.Pass = statuses.DeviceAvailable
notice_of wants.Device = statuses.DeviceAvailable
notice_of (wants.Lock u) = statuses.UnitAvailable
notice_of (wants.Unit u) = statuses.UnitAvailable

-- A wait with something in its way stays; else it ends and becomes its notice, in place of an earlier one.
abbrev pub judged_wait : Bool → Want → Mail → Mail
judged_wait true w m = m
judged_wait false w m = record { wait = None; notice = Some (notice_of w) }

-- Without a wait the mail stays; a wait of the host at g is judged by whether another host stands in its way.
abbrev pub settled_by : List Host → ℕ → Option Want → Mail → Mail
settled_by hosts g None m = m
settled_by hosts g (Some w) m = judged_wait (another (stands w) g hosts) w m

-- The mail of the host at g once its wait is judged: with nothing in its way it becomes a notice, in place of an earlier one.
abbrev pub settled : List Host → ℕ → Mail → Mail
settled hosts g m = settled_by hosts g m.wait m

-- The mail of all hosts once their waits are judged, all of them together.
unfoldable pub settle : List Host → List Mail → List Mail
settle hosts ms = map (λ g. settled hosts g (mail_at ms g)) (range_with_len 0 (length ms))
