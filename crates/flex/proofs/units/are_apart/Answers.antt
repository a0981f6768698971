use Rattle.std.proofs.Common.{◌≡◌, ◌-◌, ◌≤◌, ◌&&◌, List, [], ◌∷◌, length, get_or, take, drop, arith, rules, tests}
use Rattle.std.proofs.lemmas.Bool.Decides.{nat_tests}
use Rattle.std.proofs.lemmas.Iterator.{YieldsList-from_slice}
use Rattle.std.proofs.lemmas.Iterator.Search.{all_from_yields_List}
use Rattle.std.proofs.lemmas.List.{take_rest}
use Rattle.std.specs.List.{list_all}
use Rattle.flex.specs.declared.unit.Unit.{Unit as DiscUnit}
use Rattle.flex.specs.Units.{all_apart, apart, blank}
use Rattle.flex.proofs.units.are_apart.Goals as goal

-- all but the first, as a pattern has them
abbrev others : List DiscUnit → List DiscUnit
others us = take (length us - 1) (drop 1 us)

first_apart : (us : List DiscUnit) → 1 ≤ length us → all_apart us ≡ (list_all (apart (get_or us 0 blank)) (others us) && all_apart (others us))
first_apart [] h = absurd (omega arith)
first_apart (u ∷ us) h = rw take_rest

pub loop-left-preserved : goal.loop-left-preserved
loop-left-preserved c =
    let us = c.loop-left.left.now in
    let first = first_apart us c.in-len1-up.len_at_least in
    let e : c.all.result ≡ list_all (apart (get_or us 0 blank)) (others us) = all_from_yields_List (apart (get_or us 0 blank)) _ _ c.all.result c.all.ensures.ran (YieldsList-from_slice (others us) cc) (λ x b q k. search (rules, tests)) in
    grind (arith, nat_tests)
