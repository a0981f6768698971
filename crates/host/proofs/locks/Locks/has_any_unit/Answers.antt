use Rattle.std.proofs.Common.{◌≡◌, Bool, true, false, List, [], ◌∷◌, refl, ◌∙◌}
use Rattle.std.specs.Bool.{beq}
use Rattle.std.specs.List.{list_any}
use Rattle.host.specs.Hosts.{any}
use Rattle.host.proofs.locks.Locks.has_any_unit.Goals as goal

any_is : (locks : List Bool) → list_any (λ lock. beq lock true) locks ≡ any locks
any_is [] = refl
any_is (true ∷ locks) = refl
any_is (false ∷ locks) = any_is locks

pub returns : goal.returns
returns c = c.contains.ensures.value ∙ any_is c.args.self.now.units
