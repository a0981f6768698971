use Rattle.std.proofs.Common.{rules}
use Rattle.trace.proofs.Bits.{one_more}
use Rattle.trace.proofs.answer.unit_bits.Goals as goal

pub loop-unit-preserved : goal.loop-unit-preserved
loop-unit-preserved c =
    let before = c.loop-unit.invariant in
    one_more c.args.locks.now.units c.loop-unit.unit c.loop-unit.bits c.from.result c.loop-unit-test.true (search rules) before.0 before.1
