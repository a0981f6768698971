use Rattle.std.proofs.Common.{ℕ, List, ◌++◌, drop}
use Rattle.std.specs.Io.KnownBytes.{Appends}
use Rattle.cuwajimo.specs.Masters.{meant_by}
use Rattle.cuwajimo.specs.Printed.{AfterOff}
use Rattle.cuwajimo.proofs.case.CaseRun.answer_all_off.Given as goal

-- What is printed so far, and then what the calls that are left print over what is now in the memory, is what all print over what was at first.
abbrev pub invariant-loop-call : goal.invariant-loop-call
invariant-loop-call g l =
    let plan = l.self.case.now.plan in
    let of = meant_by l.self.master in
    (so_far : List ℕ)
    × Appends (g.W.Write.contents l.initial.out) (g.W.Write.contents l.out) so_far
    × ((rest : List ℕ) → AfterOff plan l.source l.medium of (drop l.call-index l.calls) rest → AfterOff plan l.source l.initial.medium of l.calls (so_far ++ rest))
