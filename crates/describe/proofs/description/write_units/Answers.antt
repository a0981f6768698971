use Rattle.std.proofs.Common.{◌≡◌, ◌<◌, List, length, get_or, ap, ◌∙◌, arith}
use Rattle.flex.specs.declared.unit.Unit.{Unit as DiscUnit}
use Rattle.flex.specs.Maps.{listed}
use Rattle.describe.specs.Descriptions.{unit_table}
use Rattle.describe.proofs.Units.{tables_more}
use Rattle.describe.proofs.description.write_units.Goals as goal

pub loop-place-preserved : goal.loop-place-preserved
loop-place-preserved c =
    let k = c.loop-place.place in
    let long : length c.units-unit-items.result.now ≡ length (listed c.args.map.now) = ap (λ (l : List DiscUnit). length l) c.units-unit-items.ensures in
    let within : k < length (listed c.args.map.now) = omega (arith, long, c.loop-place-test.true) in
    tables_more (listed c.args.map.now) k within c.loop-place.part c.args.part.now c.copy_from_slice.new.self _
    (c.copy_from_slice.ensures.after ∙ c.unit_table.ensures ∙ ap (λ (l : List DiscUnit). unit_table k (get_or l k _).geometry) c.units-unit-items.ensures)
    c.loop-place.invariant
