use Rattle.std.proofs.Common.{refl}
use Rattle.device.specs.declared.ticket.Ticket.TheVariants as tickets
use Rattle.device.specs.Calls as calls
use Rattle.device.specs.Device.{state}
use Rattle.desk.specs.declared.answer.Answer.TheVariants as answers
use Rattle.desk.specs.Worlds.{world}
use Rattle.desk.proofs.Keeping.{report_so, world_so}
use Rattle.desk.proofs.Fitting.{back_own, none_own, spent_own, returned_own}
use Rattle.desk.proofs.session.Session.report.Goals as goal

pub invariant_of-self : goal.invariant_of-self
invariant_of-self g c =
    let blocks = g.S.ReadStore.blocks in
    let was = c.args.self.now in
    let k = c.in-Some-Report.ticket in
    record {
      fits = spent_own (state blocks was.device) (state blocks c.report.new.self) (calls.report k c.args.buffer.now) _ c.args.host (tickets.Report k) was.desk c.take.new.self was.fits
          (rw c.in-Some-Report.field-0-is at c.in-Some-Report.ensures.value) refl c.in-Ok.ensures.is c.take.ensures.after;
    }

pub invariant_of-self-in-Err : goal.invariant_of-self-in-Err
invariant_of-self-in-Err g c =
    let blocks = g.S.ReadStore.blocks in
    let was = c.args.self.now in
    let k = c.in-Some-Report.ticket in
    let r = c.in-Err.field-0 in
    record {
      fits = returned_own (state blocks was.device) (state blocks c.report.new.self) (calls.report k c.args.buffer.now) r.status c.report.new.buffer c.args.host (tickets.Report k) (tickets.Report r.ticket) was.desk c.take.new.self c.put.new.self was.fits
          (rw c.in-Some-Report.field-0-is at c.in-Some-Report.ensures.value) refl c.take.ensures.after c.in-Err.ensures.is c.put.ensures;
    }

pub invariant_of-self-in-Some-Execution : goal.invariant_of-self-in-Some-Execution
invariant_of-self-in-Some-Execution g c =
    let was = c.args.self.now in
    record {
      fits = back_own (state g.S.ReadStore.blocks was.device) c.args.host (tickets.Execution c.in-Some-Execution.ticket) was.desk c.take.new.self c.put-in-Some-Execution.new.self was.fits
          (rw c.in-Some-Execution.field-0-is at c.in-Some-Execution.ensures.value) c.take.ensures.after c.put-in-Some-Execution.ensures;
    }

pub invariant_of-self-in-None : goal.invariant_of-self-in-None
invariant_of-self-in-None g c =
    let was = c.args.self.now in
    record { fits = none_own (state g.S.ReadStore.blocks was.device) c.args.host was.desk c.take.new.self was.fits c.in-None.ensures.value c.take.ensures.after }

pub returns-in-Ok-clause-is : goal.returns-in-Ok-clause-is
returns-in-Ok-clause-is g c =
    let means = g.S.ReadStore.blocks in
    let s = c.report in
    report_so (world means c.args.self.now) c.args.host c.args.buffer.now (calls.reported s.new.buffer) (state means s.new.self) c.take.new.self
    answers.Done (record { state = state means s.new.self; desk = c.take.new.self }) c.in-Some-Report.ticket (rw c.in-Some-Report.field-0-is at c.in-Some-Report.ensures.value)
    c.take.ensures.after c.in-Ok.ensures.is refl refl

pub returns-in-Err-clause-is : goal.returns-in-Err-clause-is
returns-in-Err-clause-is g c =
    let means = g.S.ReadStore.blocks in
    let s = c.report in
    let r = c.in-Err.field-0 in
    report_so (world means c.args.self.now) c.args.host c.args.buffer.now (calls.returned r.status (tickets.Report r.ticket) s.new.buffer) (state means s.new.self) c.take.new.self
    (answers.Refused r.status) (record { state = state means s.new.self; desk = c.put.new.self }) c.in-Some-Report.ticket
    (rw c.in-Some-Report.field-0-is at c.in-Some-Report.ensures.value)
    c.take.ensures.after c.in-Err.ensures.is refl (world_so _ _ _ _ refl c.put.ensures)
