use Rattle.std.proofs.Common.{length, arith}
use Rattle.std.proofs.lemmas.Grind.{common_steps}
use Rattle.std.proofs.lemmas.List.{drop-replicate}
use Rattle.flex.specs.Units.{blank}
use Rattle.flex.proofs.unit_map.methods.table.Goals as goal

pub returns : goal.returns
returns c = let rest = drop-replicate (length c.args.units.now) 15 blank in grind (arith, common_steps)
