use Rattle.std.proofs.Common.{◌≡◌, ◌*◌, ◌++◌, length, drop}
use Rattle.transfer.specs.Segments.{span, read_bytes, read_fault}
use Rattle.transfer.proofs.blocks.Span.read.Given as goal

abbrev pub invariant-loop-k : goal.invariant-loop-k
invariant-loop-k g l =
    let bs = g.S.ReadStore.blocks l.initial.store in
    (g.S.ReadStore.blocks l.store ≡ bs)
    × (length (read_bytes (span bs l.self.first l.k)) ≡ 256 * l.k)
    × (l.buffer ≡ read_bytes (span bs l.self.first l.k) ++ drop (256 * l.k) l.initial.buffer)
    × (l.fault ≡ read_fault l.self.transaction.unit l.self.first l.self.transaction.at (span bs l.self.first l.k))
    × (g.S.ReadStore.base_of l.store ≡ g.S.ReadStore.base_of l.initial.store)
