use Rattle.std.proofs.Common.{length, vec_items}
use Rattle.std.specs.Str.Lines.{lines}
use Rattle.cuwajimo.proofs.Folding.{Carries}
use Rattle.cuwajimo.proofs.script.cases.Given as goal

abbrev pub invariant-loop-whole : goal.invariant-loop-whole
invariant-loop-whole l = Carries l.initial.case (lines l.text) l.line (length l.yielded) (vec_items l.cases) l.case
