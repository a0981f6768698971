use Rattle.std.proofs.Common.{ℕ, List, ◌++◌, drop}
use Rattle.std.specs.Io.KnownBytes.{Appends}
use Rattle.cuwajimo.specs.Printed.{AreRun}
use Rattle.cuwajimo.proofs.run.run.Given as goal

-- What is printed so far, and then what the cases that are left print, is what all print.
abbrev pub invariant-loop-case : goal.invariant-loop-case
invariant-loop-case g l =
    (so_far : List ℕ)
    × Appends (g.W.Write.contents l.initial.out) (g.W.Write.contents l.out) so_far
    × ((rest : List ℕ) → AreRun (drop l.case-index l.cases) rest → AreRun l.cases (so_far ++ rest))
