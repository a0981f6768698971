use Rattle.std.proofs.Common.{◌≡◌, ◌+◌, List, suc, ap, arith, subst, ◌∙◌}
use Rattle.std.proofs.KnownBytes.{Appends-trans}
use Rattle.std.specs.Io.KnownBytes.{Appends}
use Rattle.store.specs.Blocks.{Block}
use Rattle.cuwajimo.specs.declared.pile.Shown.{Shown}
use Rattle.cuwajimo.specs.Printed.{line, block_line, block_lines}
use Rattle.cuwajimo.specs.Shown.{block_said, shown_at}
use Rattle.cuwajimo.proofs.pile.show_blocks.Goals as goal

pub loop-block-preserved : goal.loop-block-preserved
loop-block-preserved g c =
    let means = g.S.ReadStore.blocks in
    let blocks = means c.args.store.now in
    let block = c.loop-block.block in
    let first = c.from-first.result in
    let before = c.loop-block.invariant.1 in
    let k = before.0 in
    let shown : c.look-shown.result ≡ shown_at blocks (first + k) = c.look-shown.ensures.answer ∙ ap (λ (bs : List Block). shown_at bs block) c.loop-block.invariant.0 ∙ ap (shown_at blocks) before.1 in
    let one : Appends (g.W.Write.contents c.loop-block.out) (g.W.Write.contents c.writeln.new.self) (block_line blocks (first + k)) =
    subst (λ (x : Shown). Appends (g.W.Write.contents c.loop-block.out) (g.W.Write.contents c.writeln.new.self) (line (block_said (record { block = first + k; shown = x })))) shown
    (subst (λ n. Appends (g.W.Write.contents c.loop-block.out) (g.W.Write.contents c.writeln.new.self) (line (block_said (record { block = n; shown = c.look-shown.result })))) before.1
    c.in_ok-writeln.ensures.bytes) in (
      c.look-shown.ensures.same ∙ c.loop-block.invariant.0,
      (
        suc k,
        omega (arith, before.1),
        Appends-trans (g.W.Write.contents c.args.out.now) (g.W.Write.contents c.loop-block.out) (g.W.Write.contents c.writeln.new.self) (block_lines blocks first k) (block_line blocks (first + k)) before.2 one,
      ),
      c.look-shown.ensures.base ∙ c.loop-block.invariant.2,
    )

pub returns-clause-printed : goal.returns-clause-printed
returns-clause-printed g c =
    let blocks = g.S.ReadStore.blocks c.args.store.now in
    let before = c.loop-block.invariant.1 in
    let count : before.0 ≡ c.args.count = omega (arith, before.1, c.loop-block-test.false, c.loop-block.auto.block-end (omega arith), c.from.ensures) in
    subst (λ n. Appends (g.W.Write.contents c.args.out.now) (g.W.Write.contents c.loop-block.out) (block_lines blocks c.args.first n)) count
    (subst (λ f. Appends (g.W.Write.contents c.args.out.now) (g.W.Write.contents c.loop-block.out) (block_lines blocks f before.0)) c.from-first.ensures before.2)
