use Rattle.std.proofs.Common.{◌∙◌, ap, arith}
use Rattle.desk.specs.declared.answer.Answer.{Answer}
use Rattle.desk.specs.Desks.{held}
use Rattle.desk.specs.Worlds.{World, world}
use Rattle.desk.proofs.Closing.{gave_back, one_more, at_last}
use Rattle.desk.proofs.session.Session.power_off.Goals as goal

pub loop-host-preserved : goal.loop-host-preserved
loop-host-preserved g c =
    let means = g.S.ReadStore.blocks in
    let before = c.loop-host in
    let w = world means before.self in
    let v = world means c.cancel.new.self in
    let is = ap (λ (p : Answer × World). p.1) c.cancel.ensures.is in
    record {
      so_far = one_more w v (world means c.args.self) before.host c.loop-host-test.true is before.invariant.so_far;
      none = λ h below. ap (λ (u : World). held u.desk h) is ∙ gave_back w before.host h (before.invariant.none h) below;
      base = c.cancel.ensures.base ∙ before.invariant.base;
    }

pub end-requires : goal.end-requires
end-requires g c = λ h below. c.loop-host.invariant.none h (omega arith)

pub returns-clause-same : goal.returns-clause-same
returns-clause-same g c = c.power_off.ensures.same ∙ at_last (world g.S.ReadStore.blocks c.loop-host.self) (world g.S.ReadStore.blocks c.args.self) c.loop-host.host (omega arith) c.loop-host.invariant.so_far

pub returns-clause-holds : goal.returns-clause-holds
returns-clause-holds g c = c.power_off.ensures.holds ∙ at_last (world g.S.ReadStore.blocks c.loop-host.self) (world g.S.ReadStore.blocks c.args.self) c.loop-host.host (omega arith) c.loop-host.invariant.so_far
