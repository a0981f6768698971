use Rattle.std.proofs.Common.{◌∙◌}
use Rattle.cuwajimo.specs.Fills.{harmed_all}
use Rattle.cuwajimo.proofs.Fills.{harm_turn, harm_end}
use Rattle.cuwajimo.proofs.fill.mark_all.Goals as goal

pub loop-block-preserved : goal.loop-block-preserved
loop-block-preserved g c =
    let blocks = g.S.ReadStore.blocks in
    let xs = c.args.blocks.now in
    record {
      so_far = harm_turn xs c.loop-block.block-index (blocks c.loop-block.image) (blocks c.mark.new.self) (harmed_all (blocks c.args.image.now) xs)
          c.loop-block-test.true c.loop-block.invariant.so_far c.mark.ensures.after;
      base = c.mark.ensures.base ∙ c.loop-block.invariant.base;
    }

pub returns-clause-after : goal.returns-clause-after
returns-clause-after g c =
    let blocks = g.S.ReadStore.blocks in
    let xs = c.args.blocks.now in
    harm_end xs c.loop-block.block-index (blocks c.loop-block.image) (harmed_all (blocks c.args.image.now) xs) c.loop-block-test.false c.loop-block.invariant.so_far
