use Rattle.std.proofs.Common.{◌≡◌, ◌-◌, length}
use Rattle.cuwajimo.specs.Fills.{patterned_from, patterned}
use Rattle.cuwajimo.proofs.fill.lay_pattern.Given as goal

abbrev pub invariant-loop-block : goal.invariant-loop-block
invariant-loop-block g l = record {
  so_far : patterned_from l.p (length (g.S.ReadStore.blocks l.initial.image) - l.block) l.block (g.S.ReadStore.blocks l.image) ≡ patterned l.p (g.S.ReadStore.blocks l.initial.image);
  base : g.S.ReadStore.base_of l.image ≡ g.S.ReadStore.base_of l.initial.image;
}
