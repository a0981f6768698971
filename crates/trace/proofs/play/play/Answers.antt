use Rattle.device.specs.Device.{state}
use Rattle.desk.specs.Worlds.{world}
use Rattle.trace.proofs.Playing.{started, played_over}
use Rattle.trace.proofs.play.play.Goals as goal

pub returns-clause-plays : goal.returns-clause-plays
returns-clause-plays g c =
    let means = g.S.ReadStore.blocks in
    let trace = c.args.trace in
    let session = world means c.new-session.result in
    let starts = started session (state means c.power_on.result) trace.device trace.map (means c.args.store) c.new-session.ensures.is c.power_on.ensures.made in
    played_over trace.map trace.device (means c.args.store) (means c.power_off.result) trace.calls.now c.args.output.now
    c.run-ending.new.output c.min-room.result session (world means c.run-ending.new.session) c.run-ending.result
    c.min-room.ensures starts c.run-ending.ensures.is c.power_off.ensures.same
