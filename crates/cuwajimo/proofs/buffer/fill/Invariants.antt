use Rattle.std.proofs.Common.{◌≡◌, ℕ, ◌<◌, get_or}
use Rattle.cuwajimo.specs.Bytes.{repeated_at}
use Rattle.cuwajimo.proofs.buffer.fill.Given as goal

abbrev pub invariant-loop-place : goal.invariant-loop-place
invariant-loop-place l = (k : ℕ) → k < l.place → get_or l.buffer k 0 ≡ repeated_at l.bytes k
