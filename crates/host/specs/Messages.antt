-- What a command message comes to for its host: what comes before the lock check, what it asks for there, and what its acceptance does.
use Rattle.std.specs.Prelude.{ℕ, ◌+◌, ◌/◌, Bool, true, false, cond, ◌&&◌, List, is_some, Some, None, Ok, Err, Option, Result, ◌==◌, nat_le, nat_lt, slice_set}
use Rattle.message.specs.declared.command.Command.{Command}
use Rattle.message.specs.declared.command.Command.TheVariants as commands
use Rattle.message.specs.declared.message.Message.{Message}
use Rattle.message.specs.declared.parameters.Parameters.{Parameters}
use Rattle.flex.specs.declared.status.Status.{Status}
use Rattle.flex.specs.declared.status.Status.TheVariants as statuses
use Rattle.flex.specs.declared.unit.Unit.{Unit as DiscUnit}
use Rattle.flex.specs.declared.unit_map.UnitMap.{UnitMap}
use Rattle.message.specs.Decoding.{decoded}
use Rattle.flex.specs.Geometries.{size_of}
use Rattle.flex.specs.Maps.{unit_at}
use Rattle.flex.specs.Statuses.{numbers_of}
use Rattle.host.specs.declared.locks.Locks.{Locks}
use Rattle.host.specs.declared.record.Host.{Host}
use Rattle.host.specs.declared.transaction.Failure.{Failure}
use Rattle.host.specs.declared.transaction.Failure.TheVariants as failures
use Rattle.host.specs.declared.transaction.Phase.TheVariants as phases
use Rattle.host.specs.declared.transaction.Transaction.{Transaction}
use Rattle.host.specs.declared.want.Want.{Want}
use Rattle.host.specs.declared.want.Want.TheVariants as wants
use Rattle.host.specs.Hosts.{unit_of}

-- The size of a unit in blocks; where there is no unit, 0.
abbrev pub blocks_of : Option DiscUnit → ℕ
blocks_of None = 0
blocks_of (Some u) = size_of u.geometry

-- The size in blocks of the unit of a number; of the controller, and of a number that is no unit's, 0.
abbrev pub unit_size : UnitMap → ℕ → ℕ
unit_size map u = blocks_of (unit_at map u)

-- The message has a command on a unit, and the controller, unit 15, is in effect.
abbrev pub at_controller : Message → Bool
at_controller m = is_some (unit_of m.command m.parameters.unit) && m.parameters.unit == 15

-- A command on a unit with the controller in effect is refused with 1/2, after the whole message has been read; an earlier refusal stays.
abbrev pub on_its_unit : Result Message Status → Result Message Status
on_its_unit (Ok m) = cond (at_controller m) (Err statuses.ModuleAddressing) (Ok m)
on_its_unit (Err s) = Err s

-- Whether a message is read at all: the store's count reaches the map's end (else 128/2), the host has no open transaction (1/6), and its
-- interlock has ended (3/1), in this order.
abbrev pub ready : Bool → Host → Result (Unit {0}) Status
ready reaches x =
    cond reaches
    (cond (is_some x.transaction)
    (Err statuses.MessageSequence)
    (cond x.interlocked
    (Err statuses.PowerOn)
    (Ok tt)))
    (Err statuses.StoreTooSmall)

-- The first refusal is the answer.
abbrev pub once : Result (Unit {0}) Status → Result Message Status → Result Message Status
once (Ok u) r = r
once (Err s) r = Err s

-- What comes to the lock check, or the first status before it: the message is read at all, it can be decoded, and its command, if on a unit,
-- is not on unit 15 (1/2), in this order.
unfoldable pub judged : UnitMap → Bool → Host → List ℕ → Result Message Status
judged map reaches x bytes = once (ready reaches x) (on_its_unit (decoded map x.parameters bytes))

-- The host with these parameters, and all else as it was.
abbrev pub with_parameters : Host → Parameters → Host
with_parameters x p = record { parameters = p; interlocked = x.interlocked; locks = x.locks; transaction = x.transaction; fault = x.fault }

-- The parameters with this target address, and the unit and the length as they were.
abbrev pub at_address : Parameters → ℕ → Parameters
at_address p address = record { unit = p.unit; address = address; length = p.length }

-- The status is 1/3.
abbrev pub is_address_bounds : Status → Bool
is_address_bounds s = (numbers_of s).0 == 1 && (numbers_of s).1 == 3

-- The target address after a refusal: 0 where the status is 1/3, else as it was.
abbrev pub address_refused : Status → ℕ → ℕ
address_refused s address = cond (is_address_bounds s) 0 address

-- A refused message leaves its host, but 1/3 zeroes the target address.
unfoldable pub refused : Status → Host → Host
refused s x = with_parameters x (at_address x.parameters (address_refused s x.parameters.address))

-- What a command asks for at the lock check, with unit u in effect: the device's lock, a unit's lock, a unit, or none of them.
abbrev pub want_of : Option Command → ℕ → Want
want_of None u = wants.Pass
want_of (Some commands.Read) u = wants.Unit u
want_of (Some commands.Write) u = wants.Unit u
want_of (Some commands.Verify) u = wants.Unit u
want_of (Some commands.ExtendedDescribe) u = wants.Pass
want_of (Some commands.SetDeviceLock) u = wants.Device
want_of (Some commands.DeleteDeviceLock) u = wants.Pass
want_of (Some commands.SetUnitLock) u = wants.Lock u
want_of (Some commands.DeleteUnitLock) u = wants.Unit u

-- What a message asks for at the lock check, by its command and the unit that it leaves in effect.
abbrev pub wanted : Message → Want
wanted m = want_of m.command m.parameters.unit

-- The lock of unit u is held or not held; there are locks of units 0 to 14, and of no other.
abbrev pub with_unit_lock : Locks → ℕ → Bool → Locks
with_unit_lock l u held = record { device = l.device; units = slice_set l.units u held }

-- Locks change when the command is accepted. Setting a held lock, or deleting one not held, changes nothing.
abbrev pub locks_after : Option Command → ℕ → Locks → Locks
locks_after None u l = l
locks_after (Some commands.Read) u l = l
locks_after (Some commands.Write) u l = l
locks_after (Some commands.Verify) u l = l
locks_after (Some commands.ExtendedDescribe) u l = l
locks_after (Some commands.SetDeviceLock) u l = record { device = true; units = l.units }
locks_after (Some commands.DeleteDeviceLock) u l = record { device = false; units = l.units }
locks_after (Some commands.SetUnitLock) u l = with_unit_lock l u true
locks_after (Some commands.DeleteUnitLock) u l = with_unit_lock l u false

-- A length in blocks: FFFFFFFFH is the whole unit.
abbrev pub blocks_asked : ℕ → ℕ → ℕ
blocks_asked size amount = cond (amount == 0xffff_ffff) size (amount / 256)

-- A transaction that goes straight to its report.
abbrev pub reporting : Option Command → ℕ → Option Failure → Transaction
reporting k u o = record { command = k; unit = u; phase = phases.Report; at = 0; left = 0; outcome = o }

-- So many blocks from an address on begin in a unit of that size, and do not pass its end.
abbrev pub fits : ℕ → ℕ → ℕ → Bool
fits size address count = nat_lt address size && nat_le (address + count) size

-- A transaction with blocks to move: they must begin in the unit and not pass its end, else the report is 8/5; none at all go straight to the report.
abbrev pub moving : Option Command → ℕ → ℕ → ℕ → ℕ → Transaction
moving k u size address count =
    cond (fits size address count)
    (cond (count == 0)
    (reporting k u None)
    (record { command = k; unit = u; phase = phases.Execution; at = address; left = count; outcome = None }))
    (reporting k u (Some failures.EndOfVolume))

-- Whether a command moves blocks: Read, Write and Verify do, no other does, and a message with no real command moves none.
abbrev pub moves : Option Command → Bool
moves None = false
moves (Some commands.Read) = true
moves (Some commands.Write) = true
moves (Some commands.Verify) = true
moves (Some commands.ExtendedDescribe) = false
moves (Some commands.SetDeviceLock) = false
moves (Some commands.DeleteDeviceLock) = false
moves (Some commands.SetUnitLock) = false
moves (Some commands.DeleteUnitLock) = false

-- Whether a command describes the units: Extended Describe does, and nothing else.
abbrev pub describes : Option Command → Bool
describes None = false
describes (Some commands.Read) = false
describes (Some commands.Write) = false
describes (Some commands.Verify) = false
describes (Some commands.ExtendedDescribe) = true
describes (Some commands.SetDeviceLock) = false
describes (Some commands.DeleteDeviceLock) = false
describes (Some commands.SetUnitLock) = false
describes (Some commands.DeleteUnitLock) = false

-- What moves no block: an Extended Describe has one segment, all else goes straight to the report.
abbrev pub unmoving : Option Command → ℕ → Transaction
unmoving k u =
    cond (describes k)
    (record { command = k; unit = u; phase = phases.Execution; at = 0; left = 0; outcome = None })
    (reporting k u None)

-- The transaction that a message opens: Read, Write and Verify move blocks.
abbrev pub opened : UnitMap → Message → Transaction
opened map m =
    cond (moves m.command)
    (moving m.command m.parameters.unit (unit_size map m.parameters.unit) m.parameters.address (blocks_asked (unit_size map m.parameters.unit) m.parameters.length))
    (unmoving m.command m.parameters.unit)

-- The target address after a message is accepted: the one that it asks for, but 0 where there is 8/5 to report.
abbrev pub address_after : Option Failure → ℕ → ℕ
address_after None address = address
address_after (Some failures.EndOfVolume) address = 0
address_after (Some failures.UnitFault) address = address
address_after (Some (failures.Unrecoverable a)) address = address

-- The host after its message is accepted: its parameters are those that are asked for, but 8/5 zeroes the target address. Its fault is forgotten.
unfoldable pub accepted : UnitMap → Message → Host → Host
accepted map m x = record {
  parameters = at_address m.parameters (address_after (opened map m).outcome m.parameters.address);
  interlocked = x.interlocked;
  locks = locks_after m.command m.parameters.unit x.locks;
  transaction = Some (opened map m);
  fault = None;
}
