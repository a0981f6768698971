use Rattle.std.proofs.Common.{◌≡◌}
use Rattle.host.specs.Progress.{segment_of}
use Rattle.transfer.proofs.WriteTurns.{WrittenSoFar}
use Rattle.transfer.proofs.blocks.Span.write.Given as goal

abbrev pub invariant-loop-k : goal.invariant-loop-k
invariant-loop-k g l =
    let t = l.self.transaction in
    (g.S.ReadStore.base_of l.store ≡ g.S.ReadStore.base_of l.initial.store)
    × WrittenSoFar (g.S.ReadStore.blocks l.initial.store) (g.S.ReadStore.blocks l.store) l.self.first t.at t.unit l.k (segment_of t) l.buffer
