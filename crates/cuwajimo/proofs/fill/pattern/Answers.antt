use Rattle.std.proofs.Common.{arith}
use Rattle.std.proofs.lemmas.List.FromFn.{fill_by_all}
use Rattle.cuwajimo.specs.Bytes.{pattern_byte}
use Rattle.cuwajimo.proofs.fill.pattern.Goals as goal

pub returns : goal.returns
returns c =
    fill_by_all (pattern_byte c.args.p c.args.block) c.loop-place.byte-items 256 0 c.loop-place.invariant.0 (λ k h. c.loop-place.invariant.1 k (omega arith))
