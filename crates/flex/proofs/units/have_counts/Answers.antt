use Rattle.std.proofs.Common.{◌≡◌, arith, rules, tests}
use Rattle.std.proofs.lemmas.Bool.Decides.{nat_tests}
use Rattle.std.proofs.lemmas.Iterator.{YieldsList-from_slice}
use Rattle.std.proofs.lemmas.Iterator.Search.{all_from_yields_List}
use Rattle.std.specs.List.{list_all}
use Rattle.flex.specs.Units.{counted}
use Rattle.flex.proofs.units.have_counts.Goals as goal

pub returns-then-end-le-MOST_BLOCKS : goal.returns-then-end-le-MOST_BLOCKS
returns-then-end-le-MOST_BLOCKS c =
    let us = c.args.units.now in
    let e : c.all.result ≡ list_all counted us = all_from_yields_List counted _ _ c.all.result c.all.ensures.ran (YieldsList-from_slice us cc) (λ x b q k. search (rules, tests)) in
    grind (arith, nat_tests)
