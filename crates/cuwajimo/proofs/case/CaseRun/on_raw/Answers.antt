use Rattle.std.proofs.Common.{ap, rules}
use Rattle.store.specs.declared.fault.Protection.TheVariants.{Open}
use Rattle.raw.specs.Raw.{RawBase}
use Rattle.raw.proofs.Told.{offered_holds}
use Rattle.cuwajimo.proofs.case.CaseRun.on_raw.Goals as goal

pub returns-clause-memory : goal.returns-clause-memory
returns-clause-memory g c =
    let rest = ap (λ (b : RawBase). b.rest) c.over_image.ensures.base in
    record { long = search rules; rest = search rules; holds = offered_holds _ _ _ Open }
