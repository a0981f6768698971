use Rattle.std.proofs.Common.{get_or, refl, arith}
use Rattle.std.proofs.Output.{has_written_append, has_written_of_eq}
use Rattle.cuwajimo.specs.Sums.{hex_digits}
use Rattle.cuwajimo.proofs.Padding.{mapped_more, written_hex}
use Rattle.cuwajimo.proofs.say.HexDisplay.fmt.Goals as goal

pub loop-byte-preserved : goal.loop-byte-preserved
loop-byte-preserved g c =
    let bytes = c.args.self.now.0.now in
    let i = c.loop-byte.byte-index in
    let writes = written_hex 2 (get_or bytes i 0) c.in_radix.result c.laid_out.result c.in_radix.ensures c.laid_out.ensures in
    λ plain.
    let before = c.loop-byte.invariant plain in
    has_written_of_eq _ _ _ _ _ (mapped_more (hex_digits 2) bytes i 0 (omega (arith, c.loop-byte-test.true)))
    (has_written_append _ _ _ _ _ _ before ((rw writes at c.in_ok-write.ensures.writes) before.plain refl))
