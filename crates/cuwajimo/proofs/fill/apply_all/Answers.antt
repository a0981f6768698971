use Rattle.std.proofs.Common.{◌∙◌}
use Rattle.cuwajimo.specs.Fills.{filled_all}
use Rattle.cuwajimo.proofs.Fills.{fill_turn, fill_end}
use Rattle.cuwajimo.proofs.fill.apply_all.Goals as goal

pub loop-fill-preserved : goal.loop-fill-preserved
loop-fill-preserved g c =
    let blocks = g.S.ReadStore.blocks in
    let xs = c.args.fills.now in
    record {
      so_far = fill_turn xs c.loop-fill.fill-index c.fill-item.result (blocks c.loop-fill.image) (blocks c.apply.new.image) (filled_all xs (blocks c.args.image.now))
          c.loop-fill-test.true c.fill-item.is c.loop-fill.invariant.so_far c.apply.ensures.after;
      base = c.apply.ensures.base ∙ c.loop-fill.invariant.base;
    }

pub returns-clause-after : goal.returns-clause-after
returns-clause-after g c =
    let blocks = g.S.ReadStore.blocks in
    let xs = c.args.fills.now in
    fill_end xs c.loop-fill.fill-index (blocks c.loop-fill.image) (filled_all xs (blocks c.args.image.now)) c.loop-fill-test.false c.loop-fill.invariant.so_far
