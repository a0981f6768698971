use Rattle.std.proofs.Common.{◌≡◌, drop}
use Rattle.cuwajimo.specs.Fills.{harmed_all}
use Rattle.cuwajimo.proofs.fill.mark_all.Given as goal

abbrev pub invariant-loop-block : goal.invariant-loop-block
invariant-loop-block g l = record {
  so_far : harmed_all (g.S.ReadStore.blocks l.image) (drop l.block-index l.blocks) ≡ harmed_all (g.S.ReadStore.blocks l.initial.image) l.blocks;
  base : g.S.ReadStore.base_of l.image ≡ g.S.ReadStore.base_of l.initial.image;
}
