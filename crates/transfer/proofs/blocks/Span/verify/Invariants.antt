use Rattle.std.proofs.Common.{◌≡◌, length}
use Rattle.transfer.specs.Segments.{span, read_fault}
use Rattle.transfer.proofs.blocks.Span.verify.Given as goal

abbrev pub invariant-loop-k : goal.invariant-loop-k
invariant-loop-k g l =
    let bs = g.S.ReadStore.blocks l.initial.store in
    (g.S.ReadStore.blocks l.store ≡ bs)
    × (l.fault ≡ read_fault l.self.transaction.unit l.self.first l.self.transaction.at (span bs l.self.first l.k))
    × (length l.scratch ≡ 256)
    × (g.S.ReadStore.base_of l.store ≡ g.S.ReadStore.base_of l.initial.store)
