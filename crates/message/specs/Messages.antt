-- What a message sets, code by code.
use Rattle.std.specs.Prelude.{ℕ, ◌%◌, Bool, cond, not, ◌&&◌, ◌||◌, is_some, Some, None, Ok, Err, Option, Result, ◌==◌, nat_lt}
use Rattle.std.specs.Option.{unwrap_or}
use Rattle.message.specs.declared.command.Command.{Command}
use Rattle.message.specs.declared.draft.Draft.{Draft}
use Rattle.flex.specs.declared.geometry.Geometry.{Geometry}
use Rattle.message.specs.declared.message.Message.{Message}
use Rattle.message.specs.declared.parameters.Parameters.{Parameters}
use Rattle.flex.specs.declared.status.Status.{Status}
use Rattle.flex.specs.declared.status.Status.TheVariants.{ModuleAddressing, AddressBounds, ParameterBounds}
use Rattle.flex.specs.declared.unit_map.UnitMap.{UnitMap}
use Rattle.flex.specs.declared.vector.Vector.{Vector}
use Rattle.flex.specs.Geometries.{size_of, address_at}
use Rattle.flex.specs.Maps.{geometry_at}

-- A host's parameters at power on: unit 0, target address 0, and the length that stands for the whole unit.
abbrev pub at_power_on : Parameters
at_power_on = record { unit = 0; address = 0; length = 0xffff_ffff }

-- Before its first code a message has set nothing.
abbrev pub starting : Parameters → Draft
starting own = record { own = own; unit = None; address = None; length = None; command = None }

-- A real command may still come unless there was one.
abbrev pub takes_command : Draft → Bool
takes_command d = not (is_some d.command)

-- Set Length may still come unless there was one, or a real command.
abbrev pub takes_length : Draft → Bool
takes_length d = not (is_some d.length) && takes_command d

-- Set Address may still come unless there was one, or a real command.
abbrev pub takes_address : Draft → Bool
takes_address d = not (is_some d.address) && takes_command d

-- Set Unit may still come as long as there was nothing but No Op.
abbrev pub takes_unit : Draft → Bool
takes_unit d = not (is_some d.unit) && (takes_address d && takes_length d)

-- The unit in effect: the one that the message sets, else the host's own.
abbrev pub effective : Draft → ℕ
effective d = unwrap_or d.unit d.own.unit

-- The unit of that number is set where a message sees a geometry of it; where it sees none, 1/2.
abbrev pub unit_seen : Draft → ℕ → Option Geometry → Result Draft Status
unit_seen d number (Some g) = Ok (record d { unit = Some number })
unit_seen d number None = Err ModuleAddressing

-- Set Unit takes a unit of the map, or the controller; any other gives 1/2.
abbrev pub with_unit : UnitMap → Draft → ℕ → Result Draft Status
with_unit m d number = unit_seen d number (geometry_at m number)

-- The target address is set if there is one to set; where there is none, 1/3.
abbrev pub addressed : Draft → Option ℕ → Result Draft Status
addressed d (Some address) = Ok (record d { address = Some address })
addressed d None = Err AddressBounds

-- The address, if it is below the size of the unit; none where it is not, or where there is no such unit.
abbrev pub address_in : Option Geometry → ℕ → Option ℕ
address_in (Some g) address = cond (nat_lt address (size_of g)) (Some address) None
address_in None address = None

-- Set Address takes an address below the size of the unit in effect; any other gives 1/3.
abbrev pub with_address : UnitMap → Draft → ℕ → Result Draft Status
with_address m d address = addressed d (address_in (geometry_at m (effective d)) address)

-- The address of a vector within the unit; none where the vector is not within, or where there is no such unit.
abbrev pub vector_in : Option Geometry → Vector → Option ℕ
vector_in (Some g) v = address_at g v
vector_in None v = None

-- Set Address takes a vector within the unit in effect, and sets its address; any other gives 1/3.
abbrev pub with_vector : UnitMap → Draft → Vector → Result Draft Status
with_vector m d v = addressed d (vector_in (geometry_at m (effective d)) v)

-- Set Length takes a multiple of 256, or the length that stands for the whole unit; any other gives 1/4.
abbrev pub with_length : Draft → ℕ → Result Draft Status
with_length d n =
    cond (n % 256 == 0 || n == 0xffff_ffff)
    (Ok (record d { length = Some n }))
    (Err ParameterBounds)

-- A real command is set, and all else of the draft stays.
abbrev pub with_command : Draft → Command → Draft
with_command d k = record d { command = Some k }

-- The message of a draft: what it set, and for the rest the host's own parameters. The target address that it did not set is the host's
-- own where the unit in effect is the host's own, and 0 where the message changed the unit.
abbrev pub finished : Draft → Message
finished d =
    record {
      parameters =
          record {
            unit = effective d;
            address = unwrap_or d.address (cond (effective d == d.own.unit) d.own.address 0);
            length = unwrap_or d.length d.own.length;
          };
      command = d.command;
    }
