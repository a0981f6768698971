use Rattle.std.proofs.Common.{◌≡◌, drop}
use Rattle.cuwajimo.specs.Sums.{fnv, fnv_from}
use Rattle.cuwajimo.proofs.fnv.fnv1a.Given as goal

abbrev pub invariant-loop-b : goal.invariant-loop-b
invariant-loop-b l = fnv_from l.h (drop l.b-index l.bytes) ≡ fnv l.bytes
