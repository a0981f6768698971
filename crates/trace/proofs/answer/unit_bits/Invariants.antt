use Rattle.std.proofs.Common.{◌≡◌, ◌^◌, ◌<◌, take}
use Rattle.trace.specs.Answers.{unit_bits}
use Rattle.trace.proofs.answer.unit_bits.Given as goal

abbrev pub invariant-loop-unit : goal.invariant-loop-unit
invariant-loop-unit l = (l.bits ≡ unit_bits (take l.unit l.locks.units)) × (l.bits < 2 ^ l.unit)
