use Rattle.std.proofs.Common.{◌≤◌, [], length, vec_items, ap, ◌∙◌, arith}
use Rattle.std.specs.Str.Iter.{lines_rest}
use Rattle.std.specs.Str.Lines.{lines}
use Rattle.std.proofs.lemmas.Iterator.Consumers.{YieldsList-turn, YieldsList-end}
use Rattle.std.proofs.lemmas.Iterator.Splits.{YieldsList-from_lines}
use Rattle.std.proofs.lemmas.List.{length_push}
use Rattle.std.proofs.lemmas.Result.{err_from_is_err_and}
use Rattle.cuwajimo.specs.declared.case.Case.{Case}
use Rattle.cuwajimo.specs.Scripts.{IsNew, CannotStep, RefusedAt}
use Rattle.cuwajimo.proofs.Folding.{is_new, carries_begin, carries_turn, carries_refused, carries_end}
use Rattle.cuwajimo.proofs.Troubles.{if_line_weaker}
use Rattle.cuwajimo.proofs.script.cases.Goals as goal

pub loop-whole-init : goal.loop-whole-init
loop-whole-init c = carries_begin c.new-case.result (lines c.args.text.now) (vec_items c.new-cases.result) c.new-cases.ensures.items

pub loop-whole-preserved : goal.loop-whole-preserved
loop-whole-preserved c =
    let rest = ap lines_rest c.into_iter-whole-iterator.ensures.into_iter_gives ∙ c.lines-whole-items.ensures.rest in
    let turn = YieldsList-turn (YieldsList-from_lines c.args.text.now rest) c.loop-whole.yielded _ c.loop-whole.yielded_by _ _ c.in-Some.whole c.in-Some.is c.next.ensures.steps in
    carries_turn c.new-case.result (lines c.args.text.now) c.loop-whole.line (length c.loop-whole.yielded) (vec_items c.loop-whole.cases) c.loop-whole.case c.in-Some.whole.now
    c.saturating_add-line.result c.loop-whole.invariant turn.0 turn.1 c.saturating_add-line.ensures (vec_items c.read_line.new.cases) c.read_line.new.case _
    (length_push c.loop-whole.yielded c.in-Some.whole) c.in_ok-read_line.ensures

pub returns-in_err-read_line : goal.returns-in_err-read_line
returns-in_err-read_line c =
    let rest = ap lines_rest c.into_iter-whole-iterator.ensures.into_iter_gives ∙ c.lines-whole-items.ensures.rest in
    let turn = YieldsList-turn (YieldsList-from_lines c.args.text.now rest) c.loop-whole.yielded _ c.loop-whole.yielded_by _ _ c.in-Some.whole c.in-Some.is c.next.ensures.steps in
    let first = c.new-case.result in
    let text = lines c.args.text.now in
    let e = c.in_err-read_line.field-0.0 in
    let refused = c.in_err-read_line.ensures in
    let p = err_from_is_err_and c.from_residual.result c.from_residual.ensures.1 in
    rw (p.1, p.2)
    (if_line_weaker e (CannotStep c.saturating_add-line.result c.in-Some.whole.now c.loop-whole.case) ((case : Case) × IsNew case × RefusedAt 0 text [] case e)
    (λ cannot. (
      first,
      is_new first c.new-case.ensures.plan c.new-case.ensures.calls.0 c.new-case.ensures.calls.1,
      carries_refused first text c.loop-whole.line (length c.loop-whole.yielded) (vec_items c.loop-whole.cases) c.loop-whole.case c.in-Some.whole.now c.saturating_add-line.result
          c.loop-whole.invariant turn.0 turn.1 c.saturating_add-line.ensures e refused.0 cannot,
    ))
    refused.1)

pub returns : goal.returns
returns c =
    let rest = ap lines_rest c.into_iter-whole-iterator.ensures.into_iter_gives ∙ c.lines-whole-items.ensures.rest in
    let last = YieldsList-end (YieldsList-from_lines c.args.text.now rest) c.loop-whole.yielded _ c.loop-whole.yielded_by _ _ c.in-None.is c.next.ensures.steps in
    let first = c.new-case.result in
    let text = lines c.args.text.now in
    let past : length text ≤ length c.loop-whole.yielded = omega (arith, last.1) in (
      first,
      is_new first c.new-case.ensures.plan c.new-case.ensures.calls.0 c.new-case.ensures.calls.1,
      carries_end first text c.loop-whole.line (length c.loop-whole.yielded) (vec_items c.loop-whole.cases) c.loop-whole.case (vec_items c.push.new.self) c.loop-whole.invariant past
          c.in_ok-push.ensures.items,
    )
