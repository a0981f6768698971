use Rattle.std.proofs.Common.{◌≡◌, ◌*◌, ◌++◌, take, drop}
use Rattle.flex.specs.Maps.{listed}
use Rattle.describe.specs.Descriptions.{unit_tables}
use Rattle.describe.proofs.description.write_units.Given as goal

abbrev pub invariant-loop-place : goal.invariant-loop-place
invariant-loop-place l =
    l.part ≡ unit_tables 0 (take l.place (listed l.map)) ++ drop (38 * l.place) l.initial.part
