use Rattle.std.proofs.Common.{refl, Some, None}
use Rattle.device.specs.Calls as calls
use Rattle.device.specs.Device.{state}
use Rattle.desk.specs.Worlds.{world}
use Rattle.desk.proofs.Keeping.{called_so}
use Rattle.desk.proofs.Fitting.{quiet_own, none_by_fault}
use Rattle.desk.proofs.session.Session.fault.Goals as goal

pub invariant_of-self : goal.invariant_of-self
invariant_of-self g c =
    let blocks = g.S.ReadStore.blocks in
    let was = c.args.self.now in
    record { fits = quiet_own (state blocks was.device) (state blocks c.fault.new.self) (calls.fault c.args.host) _ was.desk was.fits refl (none_by_fault c.fault.result) c.fault.ensures.is }

pub returns-in-Ok-Some-clause-is : goal.returns-in-Ok-Some-clause-is
returns-in-Ok-Some-clause-is g c =
    let blocks = g.S.ReadStore.blocks in
    called_so (world blocks c.args.self.now) c.args.host (calls.fault c.args.host) (calls.faulted (Some c.in-Ok-Some.fault)) (state blocks c.fault.new.self)
    (rw c.in-Ok-Some.field-0-is at c.in-Ok-Some.ensures.is)

pub returns-in-Ok-None-clause-is : goal.returns-in-Ok-None-clause-is
returns-in-Ok-None-clause-is g c =
    let blocks = g.S.ReadStore.blocks in
    called_so (world blocks c.args.self.now) c.args.host (calls.fault c.args.host) (calls.faulted None) (state blocks c.fault.new.self)
    (rw c.in-Ok-None.field-0-is at c.in-Ok-None.ensures.is)

pub returns-in-Err-clause-is : goal.returns-in-Err-clause-is
returns-in-Err-clause-is g c =
    let blocks = g.S.ReadStore.blocks in
    called_so (world blocks c.args.self.now) c.args.host (calls.fault c.args.host) (calls.refusal c.in-Err.status) (state blocks c.fault.new.self) c.in-Err.ensures.is
