use Rattle.std.proofs.Common.{◌+◌, drop, sym, ap, ◌∙◌, arith}
use Rattle.std.proofs.lemmas.List.{at_drop_more, at_drop_all}
use Rattle.cuwajimo.specs.Sums.{fnv_from, fnv_step}
use Rattle.cuwajimo.proofs.fnv.fnv1a.Goals as goal

pub loop-b-preserved : goal.loop-b-preserved
loop-b-preserved c =
    let xs = c.args.bytes.now in
    ap (λ x. fnv_from (fnv_step c.loop-b.h x) (drop (c.loop-b.b-index + 1) xs)) c.from.ensures
    ∙ sym (at_drop_more (λ l. fnv_from c.loop-b.h l) xs c.loop-b.b-index 0 c.loop-b-test.true)
    ∙ c.loop-b.invariant

pub returns : goal.returns
returns c =
    let xs = c.args.bytes.now in
    sym (at_drop_all (λ l. fnv_from c.loop-b.h l) xs c.loop-b.b-index (omega arith)) ∙ c.loop-b.invariant
