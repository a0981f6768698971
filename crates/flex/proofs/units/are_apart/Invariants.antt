use Rattle.std.proofs.Common.{◌≡◌, length}
use Rattle.flex.specs.Units.{all_apart}
use Rattle.flex.proofs.units.are_apart.Given as goal

abbrev pub invariant-loop-left : goal.invariant-loop-left
invariant-loop-left l = all_apart l.left ≡ all_apart l.initial.left

abbrev pub decreases-loop-left : goal.decreases-loop-left
decreases-loop-left l = length l.left
