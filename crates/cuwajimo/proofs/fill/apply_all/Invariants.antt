use Rattle.std.proofs.Common.{◌≡◌, drop}
use Rattle.cuwajimo.specs.Fills.{filled_all}
use Rattle.cuwajimo.proofs.fill.apply_all.Given as goal

abbrev pub invariant-loop-fill : goal.invariant-loop-fill
invariant-loop-fill g l = record {
  so_far : filled_all (drop l.fill-index l.fills) (g.S.ReadStore.blocks l.image) ≡ filled_all l.fills (g.S.ReadStore.blocks l.initial.image);
  base : g.S.ReadStore.base_of l.image ≡ g.S.ReadStore.base_of l.initial.image;
}
