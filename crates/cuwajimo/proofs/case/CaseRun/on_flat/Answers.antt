use Rattle.std.proofs.Common.{ap, rules}
use Rattle.store.specs.declared.fault.Protection.TheVariants.{Open}
use Rattle.flat.specs.Flat.{FlatBase}
use Rattle.flat.proofs.Told.{offered_holds}
use Rattle.cuwajimo.proofs.case.CaseRun.on_flat.Goals as goal

pub returns-clause-memory : goal.returns-clause-memory
returns-clause-memory g c =
    let spare = ap (λ (b : FlatBase). b.spare) c.over_image.ensures.base in
    record { long = (search rules, search rules); spare = search rules; holds = offered_holds _ _ Open }
