use Rattle.std.proofs.Common.{◌∙◌}
use Rattle.trace.specs.Entries.{entry}
use Rattle.desk.specs.Worlds.{world}
use Rattle.trace.proofs.Rooms.{stepped}
use Rattle.trace.proofs.player.step.Goals as goal

pub returns-clause-room : goal.returns-clause-room
returns-clause-room g c =
    let means = g.S.ReadStore.blocks in
    stepped (world means c.args.session.now) (world means c.make-answer.new.session) (entry c.args.call) c.args.room.now c.copy_from_slice.new.self c.make-answer.new.buffer
    c.buffer_size-end.result c.make-answer.result c.buffer_size-end.ensures c.if-room-end.false c.make-answer.ensures.is
    (c.copy_from_slice.ensures.after ∙ c.answer_bytes.ensures)
