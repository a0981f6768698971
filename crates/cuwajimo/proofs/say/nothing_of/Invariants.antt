use Rattle.std.proofs.Common.{◌≡◌, ℕ, List, ◌++◌, drop}
use Rattle.std.specs.Io.KnownBytes.{Appends}
use Rattle.cuwajimo.specs.Printed.{nothing_lines}
use Rattle.cuwajimo.proofs.say.nothing_of.Given as goal

-- What is printed so far, and then the lines of the calls that are left, are the lines of all.
abbrev pub invariant-loop-call : goal.invariant-loop-call
invariant-loop-call g l =
    (so_far : List ℕ)
    × Appends (g.W.Write.contents l.initial.out) (g.W.Write.contents l.out) so_far
    × (so_far ++ nothing_lines (drop l.call-index l.calls) ≡ nothing_lines l.calls)
