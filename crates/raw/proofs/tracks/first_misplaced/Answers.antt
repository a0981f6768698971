use Rattle.std.proofs.Common.{leb, rules, tests}
use Rattle.std.proofs.lemmas.Iterator.{YieldsList-from_slice}
use Rattle.std.proofs.lemmas.Iterator.Search.{position_from_yields_List}
use Rattle.raw.proofs.tracks.first_misplaced.Goals as goal

pub returns-in_err-track : goal.returns-in_err-track
returns-in_err-track c =
    let e = position_from_yields_List (leb c.args.records) _ _ c.position.result c.position.ensures.ran (YieldsList-from_slice c.args.spares.now cc) (λ x b q k. search (rules, tests)) in
    search rules

pub returns : goal.returns
returns c =
    let e = position_from_yields_List (leb c.args.records) _ _ c.position.result c.position.ensures.ran (YieldsList-from_slice c.args.spares.now cc) (λ x b q k. search (rules, tests)) in
    search rules
