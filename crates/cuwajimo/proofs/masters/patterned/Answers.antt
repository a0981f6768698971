use Rattle.std.proofs.Common.{◌≡◌, ◌++◌, vec_items, add-one, ap, arith, ◌∙◌}
use Rattle.cuwajimo.specs.Bytes.{pattern_block}
use Rattle.cuwajimo.specs.Masters.{pattern_bytes}
use Rattle.cuwajimo.proofs.masters.patterned.Goals as goal

pub loop-block-preserved : goal.loop-block-preserved
loop-block-preserved c =
    let p = c.args.p in
    let block = c.loop-block.block in
    let more : vec_items c.extend_from_slice.new.self ≡ pattern_bytes p block ++ pattern_block p block = cc (c.in_ok-extend_from_slice.ensures.items, c.loop-block.invariant, c.pattern.ensures) in
    rw add-one more

pub returns-clause-memory : goal.returns-clause-memory
returns-clause-memory c =
    let all : c.loop-block.block ≡ c.allotted-block-end.result = omega arith in
    c.loop-block.invariant ∙ ap (pattern_bytes c.args.p) (all ∙ c.allotted-block-end.ensures)
