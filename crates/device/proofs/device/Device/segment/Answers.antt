use Rattle.std.proofs.Common.{ap, ◌∙◌}
use Rattle.device.specs.declared.controller.Controller.{Controller}
use Rattle.device.specs.declared.ticket.Ticket.{Ticket}
use Rattle.device.specs.declared.ticket.Ticket.TheVariants as tickets
use Rattle.device.specs.Calls.{moved, returned}
use Rattle.device.specs.Device.{state_of}
use Rattle.device.proofs.Moving.{segment_moved_on, segment_refused}
use Rattle.device.proofs.device.Device.segment.Goals as goal

pub returns-in-Err-clause-is : goal.returns-in-Err-clause-is
returns-in-Err-clause-is g c =
    let d = c.args.self.now in
    let found = c.in-Some.ensures in
    let m = c.execute_segment in
    let by = c.in-Err.ensures in
    ap (λ (z : Controller). (returned c.in-Err.status (tickets.Execution c.args.ticket) m.new.buffer, state_of z (g.S.ReadStore.blocks m.new.store))) c.judge_waits.ensures
    ∙ segment_refused d.controller c.fitting.new.self found.left (g.S.ReadStore.blocks d.store) c.args.ticket c.pass.result c.pass.ensures c.args.buffer.now c.in-Some.transaction c.in-Some.caller.number found.found
    c.in-Err.status m.new.buffer (g.S.ReadStore.blocks m.new.store) by.progress by.buffer by.after

pub returns-in-Ok-clause-is : goal.returns-in-Ok-clause-is
returns-in-Ok-clause-is g c =
    let d = c.args.self.now in
    let found = c.in-Some.ensures in
    let m = c.execute_segment in
    let by = c.in-Ok.ensures in
    ap (λ (z : Ticket × Controller). (moved z.0 m.new.buffer, state_of z.1 (g.S.ReadStore.blocks m.new.store))) c.go_on.ensures
    ∙ segment_moved_on d.controller c.fitting.new.self found.left (g.S.ReadStore.blocks d.store) c.args.ticket c.pass.result c.pass.ensures c.args.buffer.now c.in-Some.transaction c.in-Some.caller.number found.found
    c.in-Ok.progress m.new.buffer (g.S.ReadStore.blocks m.new.store) by.progress by.buffer by.after
