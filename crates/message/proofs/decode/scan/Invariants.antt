use Rattle.std.proofs.Common.{◌≡◌, length}
use Rattle.message.specs.Decoding.{scan}
use Rattle.message.proofs.decode.scan.Given as goal

abbrev pub invariant-loop-left : goal.invariant-loop-left
invariant-loop-left l = scan l.map l.left 0 l.draft ≡ scan l.map l.initial.left 0 l.initial.draft

abbrev pub decreases-loop-left : goal.decreases-loop-left
decreases-loop-left l = length l.left
