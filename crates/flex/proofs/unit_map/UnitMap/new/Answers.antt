use Rattle.std.proofs.Common.{◌≡◌, true, false, length, take, refl, ap, ◌∙◌, rules}
use Rattle.std.proofs.lemmas.Bool.{both_ways, false≢true}
use Rattle.std.specs.List.{list_all}
use Rattle.flex.specs.Units.{all_apart, counted, inside, sound}
use Rattle.flex.proofs.Naming.{length_padded, take_padded}
use Rattle.flex.proofs.Soundness.{parts_from, sound_from, sound_to}
use Rattle.flex.proofs.unit_map.UnitMap.new.Goals as goal

pub returns-then-not-are_sound-clause-law : goal.returns-then-not-are_sound-clause-law
returns-then-not-are_sound-clause-law c =
    let e : sound c.args.units.now c.args.end ≡ false = search rules in
    (λ t. absurd (false≢true t), λ s. absurd (both_ways _ e (sound_to _ _ s)))

pub invariant_of-result : goal.invariant_of-result
invariant_of-result c =
    let us = c.args.units.now in
    let e : sound us c.args.end ≡ true = search rules in
    let p = parts_from us c.args.end e in
    let front : take (length us) c.table.result ≡ us = ap (take (length us)) c.table.ensures ∙ take_padded us p.few in
    let full : length c.table.result ≡ 15 = ap length c.table.ensures ∙ length_padded us p.few in
    record {
      full = full;
      some = p.some;
      few = p.few;
      reachable = p.reachable;
      counts = ap (list_all counted) front ∙ p.counts;
      once = ap all_apart front ∙ p.once;
      within = ap (list_all (inside c.args.end)) front ∙ p.within;
    }

pub returns-clause-law : goal.returns-clause-law
returns-clause-law c =
    let e : sound c.args.units.now c.args.end ≡ true = search rules in
    (λ _. sound_from _ _ e, λ _. refl)
