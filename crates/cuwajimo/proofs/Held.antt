-- The words for the locked units, unit by unit.
use Rattle.std.proofs.Common.{◌≡◌, ℕ, ◌+◌, ◌<◌, ◌≤◌, false, cond, List, ◌++◌, length, get_or, take, flat_map, None, Option, ap, sym, ◌∙◌, arith, codes}
use Rattle.std.specs.List.{enumerate_from, list_all}
use Rattle.std.specs.Option.{is_none}
use Rattle.std.proofs.lemmas.List.{take_all}
use Rattle.std.proofs.lemmas.List.FromFn.{get_or-enumerate_from, length-enumerate_from}
use Rattle.cuwajimo.specs.Holders.{held_words, units_words}
use Rattle.cuwajimo.proofs.Padding.{mapped_more}

module _ (units : List (Option ℕ)) (i : ℕ) where
  abbrev pub so_far : List ℕ
  so_far = flat_map held_words (take i (enumerate_from 0 units))

  pub one_more : (o : Option ℕ) → i < length units → get_or units i None ≡ o → so_far ++ held_words (i, o) ≡ flat_map held_words (take (i + 1) (enumerate_from 0 units))
  one_more o within is =
      let same : i ≡ 0 + i = omega arith in
      ap (λ (x : Option ℕ). so_far ++ held_words (i, x)) (sym is)
      ∙ ap (λ (n : ℕ). so_far ++ held_words (n, get_or units i None)) same
      ∙ ap (λ (p : ℕ × Option ℕ). so_far ++ held_words p) (sym (get_or-enumerate_from 0 units i (0, None) within))
      ∙ mapped_more held_words (enumerate_from 0 units) i (0, None) (omega (arith, length-enumerate_from 0 units, within))

  pub all_told : length units ≤ i → false ≡ list_all is_none units → so_far ≡ units_words units
  all_told past some =
      ap (flat_map held_words) (take_all i (enumerate_from 0 units) (omega (arith, length-enumerate_from 0 units, past)))
      ∙ ap (λ none. cond none (codes " none") (flat_map held_words (enumerate_from 0 units))) some
