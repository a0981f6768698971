use Rattle.std.proofs.Common.{length, arith}
use Rattle.std.proofs.lemmas.List.FromFn.{fill_by_all}
use Rattle.cuwajimo.specs.Bytes.{repeated_at}
use Rattle.cuwajimo.proofs.buffer.fill.Goals as goal

pub returns : goal.returns
returns c =
    fill_by_all (repeated_at c.args.bytes.now) c.loop-place.buffer (length c.args.buffer.now) 0 (omega arith) (λ k h. c.loop-place.invariant k (omega arith))
