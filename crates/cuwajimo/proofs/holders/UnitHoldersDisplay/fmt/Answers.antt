use Rattle.std.proofs.Common.{Some, None, refl, sym, ◌∙◌, append-nil}
use Rattle.std.proofs.Output.{has_written_append, has_written_of_eq}
use Rattle.cuwajimo.proofs.Held.{so_far, one_more, all_told}
use Rattle.cuwajimo.proofs.holders.UnitHoldersDisplay.fmt.Goals as goal
use Rattle.cuwajimo.proofs.holders.UnitHoldersDisplay.fmt.Goals.{in-Some+in_ok-write, in_default}

pub loop-unit-preserved : goal.loop-unit-preserved
loop-unit-preserved g c =
    let units = c.args.self.now.0.now in
    let i = c.loop-unit.unit-counter in
    λ plain.
    let before = c.loop-unit.invariant plain in
    elim c.match-holder.branch [
      | in-Some+in_ok-write w ↦
          let told = has_written_append _ _ _ _ _ _ before (w.in_ok-write.ensures.writes before.plain refl) in
          rw w.f-is (has_written_of_eq _ _ _ _ _ (one_more units i (Some w.in-Some.host) c.loop-unit-test.true w.in-Some.is) told)
      | in_default w ↦
          let same = sym (append-nil (so_far units i)) ∙ one_more units i None c.loop-unit-test.true w.in_default.is in
          rw w.f-is (has_written_of_eq _ _ _ _ _ same before)
    ]

pub returns-clause-writes : goal.returns-clause-writes
returns-clause-writes g c =
    λ plain _. has_written_of_eq _ _ _ _ _ (all_told c.args.self.now.0.now c.loop-unit.unit-counter c.loop-unit-test.false c.if-none_held.ensures) (c.loop-unit.invariant plain)
