use Rattle.std.proofs.Common.{refl}
use Rattle.device.specs.Calls as calls
use Rattle.device.specs.Device.{state}
use Rattle.desk.specs.Worlds.{world}
use Rattle.desk.proofs.Keeping.{cancel_so}
use Rattle.desk.proofs.Fitting.{none_own, spent_own, never_returned}
use Rattle.desk.proofs.session.Session.cancel.Goals as goal

pub invariant_of-self : goal.invariant_of-self
invariant_of-self g c =
    let was = c.args.self.now in
    record { fits = none_own (state g.S.ReadStore.blocks was.device) c.args.host was.desk c.take.new.self was.fits c.in_default.ensures.value c.take.ensures.after }

pub invariant_of-self-2 : goal.invariant_of-self-2
invariant_of-self-2 g c =
    let blocks = g.S.ReadStore.blocks in
    let was = c.args.self.now in
    let k = c.in-Some.ticket in
    record { fits = spent_own (state blocks was.device) (state blocks c.cancel.new.self) (calls.cancel k) _ c.args.host k was.desk c.take.new.self was.fits c.in-Some.ensures.value refl c.cancel.ensures.is c.take.ensures.after }

pub unreachable-requires : goal.unreachable-requires
unreachable-requires g c =
    let blocks = g.S.ReadStore.blocks in
    let was = c.args.self.now in
    let r = c.in-Err._returned in
    never_returned (state blocks was.device) (state blocks c.cancel.new.self) c.args.host r.ticket c.in-Some.ticket r.status _ was.desk was.fits c.in-Some.ensures.value c.in-Err.ensures.is

pub returns-clause-is : goal.returns-clause-is
returns-clause-is g c =
    let blocks = g.S.ReadStore.blocks in
    cancel_so (world blocks c.args.self.now) c.args.host (state blocks c.cancel.new.self) c.take.new.self c.in-Some.ticket c.in-Some.ensures.value
    c.take.ensures.after c.in-Ok.ensures.is
