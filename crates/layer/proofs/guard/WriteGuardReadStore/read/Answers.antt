use Rattle.std.proofs.Common.{◌∙◌}
use Rattle.layer.proofs.GuardFacts.{guard_read, guard_buffer}
use Rattle.layer.proofs.guard.WriteGuardReadStore.read.Goals as goal

pub returns-clause-answer : goal.returns-clause-answer
returns-clause-answer g c = let s = c.args.self.now in c.read.ensures.answer ∙ guard_read (g.S.ReadStore.blocks s.below) s.run c.args.block c.args.buffer.now

pub returns-clause-buffer : goal.returns-clause-buffer
returns-clause-buffer g c = let s = c.args.self.now in c.read.ensures.buffer ∙ guard_buffer (g.S.ReadStore.blocks s.below) s.run c.args.block c.args.buffer.now
