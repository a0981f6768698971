use Rattle.std.proofs.Common.{refl}
use Rattle.device.specs.declared.ticket.Ticket.TheVariants as tickets
use Rattle.device.specs.Calls as calls
use Rattle.device.specs.Device.{state}
use Rattle.desk.specs.declared.answer.Answer.TheVariants as answers
use Rattle.desk.specs.Worlds.{world}
use Rattle.desk.proofs.Keeping.{segment_so, world_so}
use Rattle.desk.proofs.Fitting.{back_own, none_own, exchanged_own, returned_own}
use Rattle.desk.proofs.session.Session.segment.Goals as goal

pub invariant_of-self : goal.invariant_of-self
invariant_of-self g c =
    let blocks = g.S.ReadStore.blocks in
    let was = c.args.self.now in
    record {
      fits = exchanged_own (state blocks was.device) (state blocks c.segment.new.self) c.args.host c.in-Some-Execution.ticket c.args.buffer.now c.segment.new.buffer c.in-Ok.ticket was.desk c.take.new.self c.put.new.self was.fits
          (rw c.in-Some-Execution.field-0-is at c.in-Some-Execution.ensures.value) c.take.ensures.after c.in-Ok.ensures.is c.put.ensures;
    }

pub invariant_of-self-in-Err : goal.invariant_of-self-in-Err
invariant_of-self-in-Err g c =
    let blocks = g.S.ReadStore.blocks in
    let was = c.args.self.now in
    let k = c.in-Some-Execution.ticket in
    let r = c.in-Err.field-0 in
    record {
      fits = returned_own (state blocks was.device) (state blocks c.segment.new.self) (calls.segment k c.args.buffer.now) r.status c.segment.new.buffer c.args.host (tickets.Execution k) (tickets.Execution r.ticket) was.desk c.take.new.self c.put-in-Err.new.self was.fits
          (rw c.in-Some-Execution.field-0-is at c.in-Some-Execution.ensures.value) refl c.take.ensures.after c.in-Err.ensures.is c.put-in-Err.ensures;
    }

pub invariant_of-self-in-Some-Report : goal.invariant_of-self-in-Some-Report
invariant_of-self-in-Some-Report g c =
    let was = c.args.self.now in
    record {
      fits = back_own (state g.S.ReadStore.blocks was.device) c.args.host (tickets.Report c.in-Some-Report.ticket) was.desk c.take.new.self c.put-in-Some-Report.new.self was.fits
          (rw c.in-Some-Report.field-0-is at c.in-Some-Report.ensures.value) c.take.ensures.after c.put-in-Some-Report.ensures;
    }

pub invariant_of-self-in-None : goal.invariant_of-self-in-None
invariant_of-self-in-None g c =
    let was = c.args.self.now in
    record { fits = none_own (state g.S.ReadStore.blocks was.device) c.args.host was.desk c.take.new.self was.fits c.in-None.ensures.value c.take.ensures.after }

pub returns-in-Ok-clause-is : goal.returns-in-Ok-clause-is
returns-in-Ok-clause-is g c =
    let means = g.S.ReadStore.blocks in
    let s = c.segment in
    segment_so (world means c.args.self.now) c.args.host c.args.buffer.now (calls.moved c.in-Ok.ticket s.new.buffer) (state means s.new.self) c.take.new.self
    c.handed-answer.result (record { state = state means s.new.self; desk = c.put.new.self }) c.in-Some-Execution.ticket (rw c.in-Some-Execution.field-0-is at c.in-Some-Execution.ensures.value)
    c.take.ensures.after c.in-Ok.ensures.is c.handed-answer.ensures (world_so _ _ _ _ refl c.put.ensures)

pub returns-in-Err-clause-is : goal.returns-in-Err-clause-is
returns-in-Err-clause-is g c =
    let means = g.S.ReadStore.blocks in
    let s = c.segment in
    let r = c.in-Err.field-0 in
    segment_so (world means c.args.self.now) c.args.host c.args.buffer.now (calls.returned r.status (tickets.Execution r.ticket) s.new.buffer) (state means s.new.self) c.take.new.self
    (answers.Refused r.status) (record { state = state means s.new.self; desk = c.put-in-Err.new.self }) c.in-Some-Execution.ticket
    (rw c.in-Some-Execution.field-0-is at c.in-Some-Execution.ensures.value)
    c.take.ensures.after c.in-Err.ensures.is refl (world_so _ _ _ _ refl c.put-in-Err.ensures)
