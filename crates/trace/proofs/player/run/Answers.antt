use Rattle.std.proofs.Common.{drop, sym, ◌∙◌}
use Rattle.trace.specs.declared.ending.How.TheVariants as hows
use Rattle.trace.specs.Entries.{entry}
use Rattle.desk.specs.Worlds.{world}
use Rattle.trace.specs.Courses.{course}
use Rattle.trace.proofs.Coursing.{course_nothing, course_none, stopped, ended_as, full, one_on}
use Rattle.trace.proofs.player.run.Goals as goal

pub returns-in_default-clause-is : goal.returns-in_default-clause-is
returns-in_default-clause-is g c =
    let means = g.S.ReadStore.blocks in
    let w = world means c.loop-left.session in
    let tail = drop c.loop-left.written c.loop-left.output in
    let is = course_none w c.loop-left.left.now tail c.loop-left-test.ensures (sym c.in_default.ensures.is) in
    ended_as _ _ _ _ _ _ c.after.ensures.how c.after.ensures.written
    ∙ stopped w c.loop-left.output c.loop-left.written hows.NoCall (course w c.loop-left.left.now tail) (course (world means c.args.session.now) c.args.calls.now c.args.output.now) c.loop-left.invariant.inside is c.loop-left.invariant.so_far

pub returns-in_default-step-clause-is : goal.returns-in_default-step-clause-is
returns-in_default-step-clause-is g c =
    let means = g.S.ReadStore.blocks in
    let before = c.loop-left in
    let stepped = c.in_default-step.ensures in
    ended_as _ _ _ _ _ _ c.after-in_default-step.ensures.how c.after-in_default-step.ensures.written
    ∙ full (world means before.session) (world means c.step.new.session) before.left.now c.in-Some.rest.now before.output c.step.new.room before.written (entry c.in-Some.call)
    (course (world means c.args.session.now) c.args.calls.now c.args.output.now) before.invariant.inside c.in-Some.ensures.is before.invariant.so_far stepped.size stepped.room stepped.after

pub loop-left-preserved : goal.loop-left-preserved
loop-left-preserved g c =
    let means = g.S.ReadStore.blocks in
    let before = c.loop-left in
    let stepped = c.in-Some-step.ensures in
    let on = one_on (world means before.session) (world means c.step.new.session) before.left.now c.in-Some.rest.now before.output c.step.new.room before.written (entry c.in-Some.call)
    (course (world means c.args.session.now) c.args.calls.now c.args.output.now) c.in-Some-step.size before.invariant.inside c.in-Some.ensures.is before.invariant.so_far c.step.auto.room stepped.size stepped.room stepped.after in
    record { base = stepped.base ∙ before.invariant.base; inside = on.0; so_far = on.1 }

pub returns-clause-is : goal.returns-clause-is
returns-clause-is g c =
    let means = g.S.ReadStore.blocks in
    let w = world means c.loop-left.session in
    let tail = drop c.loop-left.written c.loop-left.output in
    let is = course_nothing w c.loop-left.left.now tail c.loop-left-test.ensures in
    ended_as _ _ _ _ _ _ c.after-2.ensures.how c.after-2.ensures.written
    ∙ stopped w c.loop-left.output c.loop-left.written hows.Whole (course w c.loop-left.left.now tail) (course (world means c.args.session.now) c.args.calls.now c.args.output.now) c.loop-left.invariant.inside is c.loop-left.invariant.so_far
