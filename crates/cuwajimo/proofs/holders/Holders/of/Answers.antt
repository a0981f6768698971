use Rattle.std.proofs.Common.{ℕ, List, Option, None, ap, ◌∙◌, arith}
use Rattle.std.proofs.lemmas.List.FromFn.{fill_by_all}
use Rattle.cuwajimo.specs.declared.holders.Holders.{Holders}
use Rattle.cuwajimo.specs.declared.holders.Lock.TheVariants as locks
use Rattle.cuwajimo.specs.Holders.{first_holder}
use Rattle.cuwajimo.proofs.Filling.{next_filled}
use Rattle.cuwajimo.proofs.holders.Holders.of.Goals as goal

pub loop-unit-preserved : goal.loop-unit-preserved
loop-unit-preserved g c =
    next_filled (λ unit. first_holder c.args.session.now.device.controller.hosts (locks.Unit unit)) c.loop-unit.units c.loop-unit.unit c.holder.result None 15 c.loop-unit.invariant.0
    c.loop-unit.invariant.1 c.loop-unit-test.true c.holder.ensures

pub returns : goal.returns
returns g c =
    let of = first_holder c.args.session.now.device.controller.hosts in
    let units = fill_by_all (λ unit. of (locks.Unit unit)) c.loop-unit.units 15 None c.loop-unit.invariant.0 (λ k h. c.loop-unit.invariant.1 k (omega (arith, c.loop-unit-test.false))) in
    ap (λ (d : Option ℕ). let r : Holders = record { device = d; units = c.loop-unit.units } in r) c.holder-2.ensures
    ∙ ap (λ (u : List (Option ℕ)). let r : Holders = record { device = of locks.Device; units = u } in r) units
