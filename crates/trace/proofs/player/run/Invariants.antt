use Rattle.std.proofs.Common.{◌≡◌, ◌≤◌, length, take, drop}
use Rattle.desk.specs.Worlds.{world}
use Rattle.trace.specs.Courses.{course}
use Rattle.trace.proofs.Coursing.{led_by}
use Rattle.trace.proofs.player.run.Given as goal

-- The output as it stands, with the course of what is left, is the course of the whole.
abbrev pub invariant-loop-left : goal.invariant-loop-left
invariant-loop-left g l = record {
  base : g.S.ReadStore.base_of l.session.device.store ≡ g.S.ReadStore.base_of l.initial.session.device.store;
  inside : l.written ≤ length l.output;
  so_far : led_by (take l.written l.output) (course (world g.S.ReadStore.blocks l.session) l.left (drop l.written l.output))
      ≡ course (world g.S.ReadStore.blocks l.initial.session) l.initial.left l.initial.output;
}

abbrev pub decreases-loop-left : goal.decreases-loop-left
decreases-loop-left g l = length l.left
