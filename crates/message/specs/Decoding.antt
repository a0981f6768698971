-- The decoder: codes from left to right. At each code the first check that fails gives the status, in this order: the code is known (else
-- 1/1), it is allowed here (1/6), all its bytes are there (2/0), and what it sets is within its bounds (1/2, 1/3 or 1/4).
use Rattle.std.specs.Prelude.{ℕ, zero, suc, ◌-◌, cond, ◌&&◌, List, [], ◌∷◌, length, Some, None, Ok, Err, Option, Result, ◌==◌, nat_le}
use Rattle.message.specs.declared.command.Command.{Command}
use Rattle.message.specs.declared.draft.Draft.{Draft}
use Rattle.message.specs.declared.message.Message.{Message}
use Rattle.message.specs.declared.parameters.Parameters.{Parameters}
use Rattle.flex.specs.declared.status.Status.{Status}
use Rattle.flex.specs.declared.status.Status.TheVariants.{IllegalOpcode, MessageSequence, MessageLength}
use Rattle.flex.specs.declared.unit_map.UnitMap.{UnitMap}
use Rattle.flex.specs.declared.vector.Vector.{Vector}
use Rattle.message.specs.Commands.{command_at}
use Rattle.message.specs.Messages.{starting, takes_unit, takes_address, takes_length, takes_command, with_unit, with_address, with_vector, with_length, with_command, finished}
use Rattle.message.specs.Operands.{number_in, vector_within}

-- A draft, and how many of the bytes after the code were taken.
abbrev pub taking : ℕ → Result Draft Status → Result (Draft × ℕ) Status
taking n (Ok d) = Ok (d, n)
taking n (Err s) = Err s

-- Set Address with the single address that was read takes six bytes; where there were too few to read one, 2/0.
abbrev pub place_read : UnitMap → Draft → Option ℕ → Result (Draft × ℕ) Status
place_read m d (Some address) = taking 6 (with_address m d address)
place_read m d None = Err MessageLength

-- Set Address with a single address: the number that the first six bytes after the code spell.
abbrev pub place_set : UnitMap → Draft → List ℕ → Result (Draft × ℕ) Status
place_set m d rest = place_read m d (number_in 6 rest)

-- Set Address with the vector that was read takes six bytes, too; where there were too few to read one, 2/0.
abbrev pub vector_read : UnitMap → Draft → Option Vector → Result (Draft × ℕ) Status
vector_read m d (Some v) = taking 6 (with_vector m d v)
vector_read m d None = Err MessageLength

-- Set Address with a vector: the one that the first six bytes after the code spell.
abbrev pub vector_set : UnitMap → Draft → List ℕ → Result (Draft × ℕ) Status
vector_set m d rest = vector_read m d (vector_within rest)

-- Set Length with the length that was read takes four bytes; where there were too few to read one, 2/0.
abbrev pub amount_read : Draft → Option ℕ → Result (Draft × ℕ) Status
amount_read d (Some n) = taking 4 (with_length d n)
amount_read d None = Err MessageLength

-- Set Length: the number that the first four bytes after the code spell.
abbrev pub amount_set : Draft → List ℕ → Result (Draft × ℕ) Status
amount_set d rest = amount_read d (number_in 4 rest)

-- A real command comes at most once, else 1/6, and takes no bytes after its code; a code that is no command's is not known, 1/1.
abbrev pub command_read : Draft → Option Command → Result (Draft × ℕ) Status
command_read d (Some k) = cond (takes_command d) (Ok (with_command d k, 0)) (Err MessageSequence)
command_read d None = Err IllegalOpcode

-- What a code makes of a draft, read as that of a real command.
abbrev pub command_set : Draft → ℕ → Result (Draft × ℕ) Status
command_set d code = command_read d (command_at code)

-- What a code makes of a draft, given the bytes after it. No Op is 34H and may stand anywhere. Set Unit is 20H to 2FH, and nothing but No Op
-- comes before it. Set Address is 10H or 11H, and Set Length 18H: each comes at most once, and not after a real command.
abbrev pub step : UnitMap → Draft → ℕ → List ℕ → Result (Draft × ℕ) Status
step m d code rest =
    cond (code == 0x34)
    (Ok (d, 0))
    (cond (nat_le 0x20 code && nat_le code 0x2f)
    (cond (takes_unit d) (taking 0 (with_unit m d (code - 0x20))) (Err MessageSequence))
    (cond (nat_le 0x10 code && nat_le code 0x11)
    (cond (takes_address d) (cond (code == 0x10) (place_set m d rest) (vector_set m d rest)) (Err MessageSequence))
    (cond (code == 0x18)
    (cond (takes_length d) (amount_set d rest) (Err MessageSequence))
    (command_set d code))))

-- A message from left to right, where the first `skip` bytes belong to the code before.
abbrev pub scan : UnitMap → List ℕ → ℕ → Draft → Result Draft Status
scan m [] skip d = Ok d
scan m (b ∷ bs) (suc skip) d = scan m bs skip d
scan m (b ∷ bs) zero d = elim (step m d b bs) [ Ok p ↦ scan m bs p.1 p.0 | Err s ↦ Err s ]

-- A draft of the whole message is finished to what the message asks for; a refusal stays.
abbrev pub completed : Result Draft Status → Result Message Status
completed (Ok d) = Ok (finished d)
completed (Err s) = Err s

-- What a message asks for, from a host with these parameters: a message has 1 to 1,024 bytes, and any other length gives 2/0, first of all.
unfoldable pub decoded : UnitMap → Parameters → List ℕ → Result Message Status
decoded m own bytes =
    cond (nat_le 1 (length bytes) && nat_le (length bytes) 1024)
    (completed (scan m bytes 0 (starting own)))
    (Err MessageLength)
