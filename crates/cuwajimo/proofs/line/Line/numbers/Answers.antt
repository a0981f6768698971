use Rattle.std.proofs.Common.{◌≡◌, ◌≤◌, [], ◌∷◌, length, drop, map, None, vec_items, sym, ap, ◌∙◌, arith}
use Rattle.std.specs.Option.{option_map}
use Rattle.std.proofs.lemmas.List.{map-append}
use Rattle.std.proofs.lemmas.Result.{err_from_is_err_and}
use Rattle.cuwajimo.specs.Lines.{texts, line_words}
use Rattle.cuwajimo.specs.Words.{one_number, all_numbers}
use Rattle.cuwajimo.proofs.Parts.{parts_on, parts_begin, refs_turn, refs_refused, refs_end}
use Rattle.cuwajimo.proofs.Troubles.{blamed_for}
use Rattle.cuwajimo.proofs.line.Line.numbers.Goals as goal

pub loop-text-init : goal.loop-text-init
loop-text-init g c =
    let words = texts c.after-text-items.result.now in
    let part = one_number g.T.Numeral.limit in
    ap (λ numbers. parts_on part (map g.T.Numeral.number numbers) words) c.new-numbers.ensures.items ∙ parts_begin part words

pub loop-text-preserved : goal.loop-text-preserved
loop-text-preserved g c =
    let refs = c.after-text-items.result.now in
    let i = c.loop-text.text-index in
    let number = g.T.Numeral.number in
    let x = c.in_ok-number.field-0 in
    refs_turn (one_number g.T.Numeral.limit) refs (map number (vec_items c.loop-text.numbers)) i c.loop-text.invariant (number x ∷ []) (map number (vec_items c.push.new.self))
    c.loop-text-test.true
    (ap (option_map (λ n. n ∷ [])) (sym c.in_ok-number.ensures.value))
    (ap (map number) c.in_ok-push.ensures.items ∙ map-append number (vec_items c.loop-text.numbers) (x ∷ []))

pub returns-in_err-number-clause-value : goal.returns-in_err-number-clause-value
returns-in_err-number-clause-value g c =
    let refs = c.after-text-items.result.now in
    let i = c.loop-text.text-index in
    let part = one_number g.T.Numeral.limit in
    let none = ap (option_map (λ n. n ∷ [])) (sym c.in_err-number.ensures.value) in
    let p = err_from_is_err_and c.from_residual.result c.from_residual.ensures.1 in
    rw (p.1, p.2)
    (blamed_for c.in_err-number.field-0.0 c.args.self.spot.line (all_numbers g.T.Numeral.limit (drop c.args.before (line_words c.args.self)) ≡ None)
    c.in_err-number.ensures.line
    (ap (all_numbers g.T.Numeral.limit) (sym c.after-text-items.ensures)
    ∙ refs_refused part refs (map g.T.Numeral.number (vec_items c.loop-text.numbers)) i c.loop-text.invariant c.loop-text-test.true none))

pub returns-clause-value : goal.returns-clause-value
returns-clause-value g c =
    let refs = c.after-text-items.result.now in
    let past : length refs ≤ c.loop-text.text-index = omega arith in
    ap (all_numbers g.T.Numeral.limit) (sym c.after-text-items.ensures)
    ∙ refs_end (one_number g.T.Numeral.limit) refs (map g.T.Numeral.number (vec_items c.loop-text.numbers)) c.loop-text.text-index c.loop-text.invariant past
