use Rattle.std.proofs.Common.{◌<◌, ◌≤◌, length, ◌∙◌, arith}
use Rattle.cuwajimo.specs.Fills.{patterned}
use Rattle.cuwajimo.proofs.Fills.{pattern_turn, pattern_end}
use Rattle.cuwajimo.proofs.fill.lay_pattern.Goals as goal

pub loop-block-preserved : goal.loop-block-preserved
loop-block-preserved g c =
    let blocks = g.S.ReadStore.blocks in
    let n = length (blocks c.args.image.now) in
    let within : c.loop-block.block < n = omega (arith, c.size-block-end.ensures, c.loop-block-test.true) in
    record {
      so_far = pattern_turn c.args.p n c.loop-block.block (blocks c.loop-block.image) (blocks c.put_block.new.store) (patterned c.args.p (blocks c.args.image.now))
          c.pattern.result within c.loop-block.invariant.so_far c.pattern.ensures c.put_block.ensures.after;
      base = c.put_block.ensures.base ∙ c.loop-block.invariant.base;
    }

pub returns-clause-after : goal.returns-clause-after
returns-clause-after g c =
    let blocks = g.S.ReadStore.blocks in
    let n = length (blocks c.args.image.now) in
    let past : n ≤ c.loop-block.block = omega (arith, c.size-block-end.ensures, c.loop-block-test.false) in
    pattern_end c.args.p n c.loop-block.block (blocks c.loop-block.image) (patterned c.args.p (blocks c.args.image.now)) past c.loop-block.invariant.so_far
