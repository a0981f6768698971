-- The real commands, which ask the device for something.
use Rattle.std.specs.Prelude.{ℕ, Bool, true, false, List, [], ◌∷◌, find, Option, ◌==◌}
use Rattle.message.specs.declared.command.Command.{Command}
use Rattle.message.specs.declared.command.Command.TheVariants.{Read, Write, Verify, ExtendedDescribe, SetDeviceLock, DeleteDeviceLock, SetUnitLock, DeleteUnitLock}

-- The code of each command.
abbrev pub code_of : Command → ℕ
code_of Read = 0x00
code_of Write = 0x02
code_of Verify = 0x04
code_of ExtendedDescribe = 0x0c
code_of SetDeviceLock = 0x63
code_of DeleteDeviceLock = 0x6b
code_of SetUnitLock = 0x73
code_of DeleteUnitLock = 0x7b

-- The real commands, each once.
abbrev pub commands : List Command
commands = Read ∷ Write ∷ Verify ∷ ExtendedDescribe ∷ SetDeviceLock ∷ DeleteDeviceLock ∷ SetUnitLock ∷ DeleteUnitLock ∷ []

-- The command of a code; none where no command has it.
abbrev pub command_at : ℕ → Option Command
command_at code = find (λ k. code == code_of k) commands

-- A command is on a unit if it moves or checks a unit's blocks, or sets or deletes a unit's lock.
abbrev pub is_on_unit : Command → Bool
is_on_unit Read = true
is_on_unit Write = true
is_on_unit Verify = true
is_on_unit ExtendedDescribe = false
is_on_unit SetDeviceLock = false
is_on_unit DeleteDeviceLock = false
is_on_unit SetUnitLock = true
is_on_unit DeleteUnitLock = true
