use Rattle.std.proofs.Common.{ap, rules}
use Rattle.store.specs.declared.fault.Protection.TheVariants.{Open}
use Rattle.flat.specs.Flat.{FlatBase}
use Rattle.flat.proofs.Told.{offered_holds}
use Rattle.boundary.proofs.cuwajimo_compare.Goals as goal

pub returns-in-Some-clause-memory : goal.returns-in-Some-clause-memory
returns-in-Some-clause-memory c =
    let spare = ap (λ (b : FlatBase). b.spare) c.compare_runs.ensures.one_base in
    record { long = (search rules, search rules); spare = search rules; holds = offered_holds _ _ Open }

pub returns-in-None-clause-memory : goal.returns-in-None-clause-memory
returns-in-None-clause-memory c =
    let spare = ap (λ (b : FlatBase). b.spare) c.compare_runs.ensures.one_base in
    record { long = (search rules, search rules); spare = search rules; holds = offered_holds _ _ Open }
