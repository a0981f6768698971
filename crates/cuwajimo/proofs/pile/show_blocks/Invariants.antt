use Rattle.std.proofs.Common.{◌≡◌, ℕ, ◌+◌}
use Rattle.std.specs.Io.KnownBytes.{Appends}
use Rattle.cuwajimo.specs.Printed.{block_lines}
use Rattle.cuwajimo.proofs.pile.show_blocks.Given as goal

-- Of the blocks before this one the lines are printed.
abbrev pub invariant-loop-block : goal.invariant-loop-block
invariant-loop-block g l =
    (g.S.ReadStore.blocks l.store ≡ g.S.ReadStore.blocks l.initial.store)
    × ((k : ℕ) × (l.block ≡ l.first + k) × Appends (g.W.Write.contents l.initial.out) (g.W.Write.contents l.out) (block_lines (g.S.ReadStore.blocks l.initial.store) l.first k))
    × (g.S.ReadStore.base_of l.store ≡ g.S.ReadStore.base_of l.initial.store)
