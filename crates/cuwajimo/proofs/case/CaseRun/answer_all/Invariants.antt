use Rattle.std.proofs.Common.{◌≡◌, ℕ, List, ◌++◌, drop, vec_items}
use Rattle.std.specs.Io.KnownBytes.{Appends}
use Rattle.desk.specs.Worlds.{world}
use Rattle.cuwajimo.specs.Printed.{all_lines}
use Rattle.cuwajimo.specs.Sessions.{all_left}
use Rattle.cuwajimo.proofs.case.CaseRun.answer_all.Given as goal

-- What the calls that are left make of the session is what all make of the first; and what is printed of them so far, and then what those print, is
-- what all print.
abbrev pub invariant-loop-call : goal.invariant-loop-call
invariant-loop-call g l =
    let means = g.S.ReadStore.blocks in
    let calls = vec_items l.self.case.now.on in
    (all_left (world means l.session) (drop l.call-index calls) ≡ all_left (world means l.initial.session) calls)
    × ((so_far : List ℕ)
    × Appends (g.W.Write.contents l.initial.out) (g.W.Write.contents l.out) so_far
    × (so_far ++ all_lines (world means l.session) (drop l.call-index calls) ≡ all_lines (world means l.initial.session) calls))
    × (g.S.ReadStore.base_of l.session.device.store ≡ g.S.ReadStore.base_of l.initial.session.device.store)
