use Rattle.std.proofs.Common.{inl, inr}
use Rattle.std.specs.Prelude.{slice_get, codes}
use Rattle.std.proofs.lemmas.Result.{err_from_is_err_and}
use Rattle.cuwajimo.specs.Lines.{line_words}
use Rattle.cuwajimo.proofs.Asked.{not_blocks, not_compare}
use Rattle.cuwajimo.proofs.Named.{reads_name}
use Rattle.cuwajimo.proofs.call.common_act.Goals as goal

pub returns-in_err-blocks-in-Some-blocks : goal.returns-in_err-blocks-in-Some-blocks
returns-in_err-blocks-in-Some-blocks c =
    let words = line_words c.args.line in
    let named = reads_name (slice_get words 0) c.first.result c.in-Some-blocks.field-0 (codes "blocks") c.first.ensures c.in-Some-blocks.is c.in-Some-blocks.is-blocks in
    let p = err_from_is_err_and c.from_residual.result c.from_residual.ensures.1 in
    rw (p.1, p.2)
    (c.in_err-blocks-in-Some-blocks.ensures.0, inr (inr (inr (inr (inl named)))), not_blocks words named c.in_err-blocks-in-Some-blocks.ensures.1)

pub returns-in_err-compare-in-Some-compare : goal.returns-in_err-compare-in-Some-compare
returns-in_err-compare-in-Some-compare c =
    let words = line_words c.args.line in
    let named = reads_name (slice_get words 0) c.first.result c.in-Some-compare.field-0 (codes "compare") c.first.ensures c.in-Some-compare.is c.in-Some-compare.is-compare in
    let p = err_from_is_err_and c.from_residual-in_err-compare-in-Some-compare.result c.from_residual-in_err-compare-in-Some-compare.ensures.1 in
    rw (p.1, p.2)
    (c.in_err-compare-in-Some-compare.ensures.0, inr (inr (inr (inr (inr (inl named))))), not_compare words named c.in_err-compare-in-Some-compare.ensures.1)
