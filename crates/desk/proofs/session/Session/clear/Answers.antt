use Rattle.std.proofs.Common.{refl}
use Rattle.device.specs.Calls as calls
use Rattle.device.specs.Device.{state}
use Rattle.desk.specs.Worlds.{world}
use Rattle.desk.proofs.Keeping.{called_so}
use Rattle.desk.proofs.Fitting.{quiet_own, none_by_clear}
use Rattle.desk.proofs.session.Session.clear.Goals as goal

pub invariant_of-self : goal.invariant_of-self
invariant_of-self g c =
    let blocks = g.S.ReadStore.blocks in
    let was = c.args.self.now in
    record { fits = quiet_own (state blocks was.device) (state blocks c.clear.new.self) (calls.clear c.args.host) _ was.desk was.fits refl (none_by_clear c.clear.result) c.clear.ensures.is }

pub returns-in-Ok-clause-is : goal.returns-in-Ok-clause-is
returns-in-Ok-clause-is g c =
    let blocks = g.S.ReadStore.blocks in
    called_so (world blocks c.args.self.now) c.args.host (calls.clear c.args.host) calls.done (state blocks c.clear.new.self) c.in-Ok.ensures.is

pub returns-in-Err-clause-is : goal.returns-in-Err-clause-is
returns-in-Err-clause-is g c =
    let blocks = g.S.ReadStore.blocks in
    called_so (world blocks c.args.self.now) c.args.host (calls.clear c.args.host) (calls.refusal c.in-Err.status) (state blocks c.clear.new.self) c.in-Err.ensures.is
