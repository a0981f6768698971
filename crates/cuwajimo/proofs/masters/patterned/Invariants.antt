use Rattle.std.proofs.Common.{◌≡◌, vec_items}
use Rattle.cuwajimo.specs.Masters.{pattern_bytes}
use Rattle.cuwajimo.proofs.masters.patterned.Given as goal

-- The blocks so far are there.
abbrev pub invariant-loop-block : goal.invariant-loop-block
invariant-loop-block l = vec_items l.bytes ≡ pattern_bytes l.p l.block
