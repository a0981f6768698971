use Rattle.std.proofs.Common.{◌++◌, OnOk, length, subst, vec_items}
use Rattle.std.specs.Io.KnownBytes.{Appends}
use Rattle.device.specs.Device.{state}
use Rattle.desk.specs.Worlds.{World, world, at_start}
use Rattle.cuwajimo.specs.Printed.{all_lines, device_line}
use Rattle.cuwajimo.proofs.Sessions.{started, left_over}
use Rattle.cuwajimo.proofs.case.CaseRun.serve_on.Goals as goal

pub returns-clause-left : goal.returns-clause-left
returns-clause-left g c =
    let means = g.S.ReadStore.blocks in
    let plan = c.args.self.case.now.plan in
    let first = world means c.new-session.result in
    left_over c.answer_all-outcome.result first (world means c.answer_all-outcome.new.session) (at_start plan.device c.args.map (means c.args.store)) (means c.power_off.result)
    (vec_items c.args.self.case.now.on) c.answer_all-outcome.ensures.left
    (started first (state means c.power_on.result) plan.device c.args.map (means c.args.store) c.new-session.ensures.is c.power_on.ensures.made)
    c.power_off.ensures.same

pub returns-clause-printed : goal.returns-clause-printed
returns-clause-printed g c =
    let means = g.S.ReadStore.blocks in
    let plan = c.args.self.case.now.plan in
    subst
    (λ (w : World). OnOk c.answer_all-outcome.result (Appends (g.W.Write.contents c.args.out.now) (g.W.Write.contents c.answer_all-outcome.new.out) (device_line plan.device (length (vec_items plan.units)) (length w.state.blocks) ++ all_lines w (vec_items c.args.self.case.now.on))))
    (started (world means c.new-session.result) (state means c.power_on.result) plan.device c.args.map (means c.args.store) c.new-session.ensures.is c.power_on.ensures.made)
    c.answer_all-outcome.ensures.printed
