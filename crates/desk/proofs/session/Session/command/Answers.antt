use Rattle.std.proofs.Common.{refl, ◌∙◌}
use Rattle.device.specs.Calls as calls
use Rattle.device.specs.Device.{state}
use Rattle.desk.specs.Worlds.{world}
use Rattle.desk.proofs.Keeping.{called_so, pair_so, world_so}
use Rattle.desk.proofs.Fitting.{none_held, handed_own, quiet_own}
use Rattle.desk.proofs.session.Session.command.Goals as goal

pub put-requires-clause-free : goal.put-requires-clause-free
put-requires-clause-free g c =
    let blocks = g.S.ReadStore.blocks in
    let was = c.args.self.now in
    none_held (state blocks was.device) (state blocks c.command.new.self) c.args.host c.args.message.now c.in-Ok.ticket was.desk was.fits c.in-Ok.ensures.is

pub invariant_of-self : goal.invariant_of-self
invariant_of-self g c =
    let blocks = g.S.ReadStore.blocks in
    let was = c.args.self.now in
    record { fits = handed_own (state blocks was.device) (state blocks c.command.new.self) c.args.host c.args.message.now c.in-Ok.ticket was.desk c.put.new.self was.fits c.in-Ok.ensures.is c.put.ensures }

pub invariant_of-self-in-Err-1 : goal.invariant_of-self-in-Err-1
invariant_of-self-in-Err-1 g c =
    let blocks = g.S.ReadStore.blocks in
    let was = c.args.self.now in
    record { fits = quiet_own (state blocks was.device) (state blocks c.command.new.self) (calls.command c.args.host c.args.message.now) _ was.desk was.fits refl refl c.in-Err.ensures.is }

pub returns-in-Ok-clause-is : goal.returns-in-Ok-clause-is
returns-in-Ok-clause-is g c =
    let blocks = g.S.ReadStore.blocks in
    pair_so _ _ _ _ c.handed-answer.ensures (world_so _ _ _ _ refl c.put.ensures)
    ∙ called_so (world blocks c.args.self.now) c.args.host (calls.command c.args.host c.args.message.now) (calls.accepted c.in-Ok.ticket) (state blocks c.command.new.self)
    c.in-Ok.ensures.is

pub returns-in-Err-clause-is : goal.returns-in-Err-clause-is
returns-in-Err-clause-is g c =
    let blocks = g.S.ReadStore.blocks in
    called_so (world blocks c.args.self.now) c.args.host (calls.command c.args.host c.args.message.now) (calls.refusal c.in-Err.status) (state blocks c.command.new.self)
    c.in-Err.ensures.is
