use Rattle.std.proofs.Common.{sym, ap, ◌∙◌, subst}
use Rattle.layer.specs.Windows.{window, OutsideStays}
use Rattle.layer.proofs.WindowFacts.{window_written, outside_written}
use Rattle.layer.proofs.window.WindowStore.write.Goals as goal

pub returns-clause-after : goal.returns-clause-after
returns-clause-after g c =
    let s = c.args.self.now in
    let found = sym c.in_ok-at.was ∙ c.place.ensures in
    ap (λ l. window l s.run) c.write.ensures.after ∙ window_written (g.S.ReadStore.blocks s.below) s.run c.args.block c.in_ok-at.at found c.args.bytes.now c.if-bytes-ne-BLOCK_BYTES.false

pub returns-clause-outside : goal.returns-clause-outside
returns-clause-outside g c =
    let s = c.args.self.now in
    let bs = g.S.ReadStore.blocks s.below in
    let found = sym c.in_ok-at.was ∙ c.place.ensures in
    subst (λ l. OutsideStays bs l s.run) (sym c.write.ensures.after) (outside_written bs s.run c.args.block c.in_ok-at.at found c.args.bytes.now c.if-bytes-ne-BLOCK_BYTES.false)
