use Rattle.std.proofs.Common.{◌≡◌, ℕ, ◌<◌}
use Rattle.store.specs.Laws.{ReadsAlike}
use Rattle.master.proofs.compare.compare.Given as goal

-- All blocks so far read alike, and both readers mean what they meant.
abbrev pub invariant-loop-block : goal.invariant-loop-block
invariant-loop-block g l = record {
  alike : (i : ℕ) → i < l.block → ReadsAlike (g.A.ReadStore.blocks l.initial.a) (g.B.ReadStore.blocks l.initial.b) i;
  one : g.A.ReadStore.blocks l.a ≡ g.A.ReadStore.blocks l.initial.a;
  one_base : g.A.ReadStore.base_of l.a ≡ g.A.ReadStore.base_of l.initial.a;
  other : g.B.ReadStore.blocks l.b ≡ g.B.ReadStore.blocks l.initial.b;
  other_base : g.B.ReadStore.base_of l.b ≡ g.B.ReadStore.base_of l.initial.b;
}
