use Rattle.std.proofs.Common.{◌≡◌, ◌^◌, ◌<◌, take}
use Rattle.message.specs.Operands.{number}
use Rattle.message.proofs.operand.number.Given as goal

abbrev pub invariant-loop-byte : goal.invariant-loop-byte
invariant-loop-byte g l = (l.number ≡ number (take l.byte-index l.bytes)) × (l.number < 256 ^ l.byte-index)
