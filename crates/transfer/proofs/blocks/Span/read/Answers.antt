use Rattle.std.proofs.Common.{◌≡◌, ◌+◌, length, ap, ◌∙◌, arith}
use Rattle.std.specs.List.{slice_get}
use Rattle.store.specs.Blocks.{buffer_at}
use Rattle.transfer.specs.Segments.{zeros}
use Rattle.transfer.proofs.ReadTurns.{long_more, read_more, fault_more}
use Rattle.transfer.proofs.blocks.Span.read.Goals as goal

pub loop-k-preserved : goal.loop-k-preserved
loop-k-preserved g c =
    let x = c.args.self.now in
    let bs = g.S.ReadStore.blocks c.args.store.now in
    let k = c.loop-k.k in
    let ys = c.read_one.new.part in
    let same = c.loop-k.invariant.0 in
    let long = c.loop-k.invariant.1 in
    let here = c.read_one.ensures.part ∙ ap (λ l. buffer_at zeros (slice_get l (x.first + k))) same in
    let whole : length c.read_one.new.part ≡ 256 = omega arith in
    let more = fault_more x.transaction.unit bs x.first x.transaction.at k in (
      c.read_one.ensures.same ∙ same,
      long_more bs x.first k ys here whole long,
      read_more bs x.first k ys here whole long c.loop-k.buffer c.args.buffer.now c.loop-k.invariant.2,
      cc,
      c.read_one.ensures.base ∙ c.loop-k.invariant.4,
    )
