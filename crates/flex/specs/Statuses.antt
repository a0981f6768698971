-- The statuses of the device: each has a group and a code within the group, and is written group/code.
-- Group 1: the message is at fault (illegal opcode, module addressing, address bounds, parameter bounds, message sequence).
-- Group 2: the message's length. Groups 3 and 4: the device's and its units' state. Group 5: a unit's fault. Group 8: the data.
-- Group 128: the statuses that this device adds (unit map, store too small, host, buffer). Of its codes 3 is the images' own: the refusal of
-- lent memory (`Refusals` of image).
use Rattle.std.specs.Prelude.{ℕ}
use Rattle.flex.specs.declared.status.Status.{Status}
use Rattle.flex.specs.declared.status.Status.TheVariants.{IllegalOpcode, ModuleAddressing, AddressBounds, ParameterBounds, MessageSequence, MessageLength, PowerOn, DeviceAvailable, ResourceUnavailable, UnitAvailable, UnitFault, UnrecoverableData, EndOfVolume, BadUnitMap, StoreTooSmall, BadHost, BadBuffer}

-- A status's group and code.
abbrev pub numbers_of : Status → ℕ × ℕ
numbers_of IllegalOpcode = (1, 1)
numbers_of ModuleAddressing = (1, 2)
numbers_of AddressBounds = (1, 3)
numbers_of ParameterBounds = (1, 4)
numbers_of MessageSequence = (1, 6)
numbers_of MessageLength = (2, 0)
numbers_of PowerOn = (3, 1)
numbers_of DeviceAvailable = (4, 1)
numbers_of ResourceUnavailable = (4, 3)
numbers_of UnitAvailable = (4, 8)
numbers_of UnitFault = (5, 4)
numbers_of UnrecoverableData = (8, 4)
numbers_of EndOfVolume = (8, 5)
numbers_of BadUnitMap = (128, 1)
numbers_of StoreTooSmall = (128, 2)
numbers_of BadHost = (128, 4)
numbers_of BadBuffer = (128, 5)
