use Rattle.std.proofs.Common.{Some, Ok, sym, ap, ◌∙◌}
use Rattle.host.specs.declared.progress.Progress.{Progress}
use Rattle.host.specs.Progress.{segment_of}
use Rattle.transfer.specs.Segments.{start_of}
use Rattle.transfer.proofs.MovesLaw.{moves_are}
use Rattle.transfer.proofs.Describing.{progress_is, buffer_is, blocks_are}
use Rattle.transfer.proofs.segment.execute_segment.Goals as goal

pub returns-then-describes-clause-progress : goal.returns-then-describes-clause-progress
returns-then-describes-clause-progress g c =
    ap Ok c.not_tried.ensures ∙ progress_is c.args.map.now (g.S.ReadStore.blocks c.args.store.now) c.args.host c.args.transaction c.args.buffer.now (sym c.describes.ensures ∙ c.if-describes.true) c.in_ok-admit.field-0 c.in_ok-describe.field-0 c.admit.result c.admit.ensures c.in_ok-admit.was (sym c.describe.ensures.is ∙ c.in_ok-describe.was)

pub returns-then-describes-clause-buffer : goal.returns-then-describes-clause-buffer
returns-then-describes-clause-buffer g c =
    c.describe.ensures.buffer ∙ buffer_is c.args.map.now (g.S.ReadStore.blocks c.args.store.now) c.args.host c.args.transaction c.args.buffer.now (sym c.describes.ensures ∙ c.if-describes.true) c.in_ok-admit.field-0 c.in_ok-describe.field-0 c.admit.result c.admit.ensures c.in_ok-admit.was (sym c.describe.ensures.is ∙ c.in_ok-describe.was)

pub returns-then-describes-clause-after : goal.returns-then-describes-clause-after
returns-then-describes-clause-after g c =
    blocks_are c.args.map.now (g.S.ReadStore.blocks c.args.store.now) c.args.host c.args.transaction c.args.buffer.now (sym c.describes.ensures ∙ c.if-describes.true) c.in_ok-admit.field-0 c.in_ok-describe.field-0 c.admit.result c.admit.ensures c.in_ok-admit.was (sym c.describe.ensures.is ∙ c.in_ok-describe.was)

pub returns-clause-law : goal.returns-clause-law
returns-clause-law g c =
    let t = c.args.transaction in
    let m = c.move_in_unit in
    let store = c.args.store.now in
    moves_are
    t (g.S.ReadStore.blocks store) (start_of c.args.map.now (Some t)) (segment_of t) c.args.buffer.now (g.S.ReadStore.sized store).whole
    (g.S.ReadStore.blocks m.new.store) m.new.buffer m.result.outcome
    m.ensures.after m.ensures.buffer (ap (λ (p : Progress). p.outcome) m.ensures.progress)
