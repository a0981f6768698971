use Rattle.std.proofs.Common.{◌≡◌, ℕ, ◌<◌, length, get_or}
use Rattle.cuwajimo.specs.Bytes.{pattern_byte}
use Rattle.cuwajimo.proofs.fill.pattern.Given as goal

abbrev pub invariant-loop-place : goal.invariant-loop-place
invariant-loop-place l = (length l.byte-items ≡ 256) × ((k : ℕ) → k < l.place → get_or l.byte-items k 0 ≡ pattern_byte l.p l.block k)
