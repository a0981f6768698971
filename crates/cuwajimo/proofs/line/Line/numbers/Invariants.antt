use Rattle.std.proofs.Common.{◌≡◌, drop, map, vec_items}
use Rattle.cuwajimo.specs.Lines.{texts}
use Rattle.cuwajimo.specs.Words.{one_number, all_numbers}
use Rattle.cuwajimo.proofs.Parts.{parts_on}
use Rattle.cuwajimo.proofs.line.Line.numbers.Given as goal

abbrev pub invariant-loop-text : goal.invariant-loop-text
invariant-loop-text g l =
    parts_on (one_number g.T.Numeral.limit) (map g.T.Numeral.number (vec_items l.numbers)) (drop l.text-index (texts l.text-items))
    ≡ all_numbers g.T.Numeral.limit (texts l.text-items)
