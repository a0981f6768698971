use Rattle.std.proofs.Common.{◌^◌, ◌<◌, IfSome, sym, ◌∙◌, subst, arith}
use Rattle.std.proofs.iter.Serving.{serving}
use Rattle.flex.specs.Units.{past}
use Rattle.flex.proofs.Naming.{named, fits_32}
use Rattle.flex.proofs.unit_map.UnitMap.block.Goals as goal

pub returns-in_err-unit-clause-law : goal.returns-in_err-unit-clause-law
returns-in_err-unit-clause-law c = named c.args.self.now

pub then-requires : goal.then-requires
then-requires c =
    let fits : past c.in_ok-unit.unit < 2 ^ 32 = subst (λ o. IfSome o (λ u. past u < 2 ^ 32)) (sym c.unit.ensures ∙ c.in_ok-unit.was) (fits_32 c.args.self.now c.args.number) in
    grind (serving, arith)

pub returns-clause-law : goal.returns-clause-law
returns-clause-law c = named c.args.self.now
