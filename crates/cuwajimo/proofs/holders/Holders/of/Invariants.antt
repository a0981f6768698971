use Rattle.std.proofs.Common.{◌≡◌, ℕ, ◌<◌, length, get_or, None}
use Rattle.cuwajimo.specs.declared.holders.Lock.TheVariants as locks
use Rattle.cuwajimo.specs.Holders.{first_holder}
use Rattle.cuwajimo.proofs.holders.Holders.of.Given as goal

abbrev pub invariant-loop-unit : goal.invariant-loop-unit
invariant-loop-unit g l =
    (length l.units ≡ 15) × ((k : ℕ) → k < l.unit → get_or l.units k None ≡ first_holder l.session.device.controller.hosts (locks.Unit k))
