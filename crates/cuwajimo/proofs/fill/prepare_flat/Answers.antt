use Rattle.std.proofs.Common.{refl, ap, rules}
use Rattle.store.specs.declared.fault.Protection.TheVariants.{Open}
use Rattle.flat.specs.Flat.{flat_blocks, FlatBase}
use Rattle.flat.proofs.Told.{offered_flat, offered_holds}
use Rattle.cuwajimo.proofs.MediaLeft.{unfilled}
use Rattle.cuwajimo.proofs.fill.prepare_flat.Goals as goal

pub returns-then-is_ok-clause-blocks : goal.returns-then-is_ok-clause-blocks
returns-then-is_ok-clause-blocks c =
    let image = c.apply_all.new.image in
    let protection = ap (λ (b : FlatBase). b.protection) c.apply_all.ensures.base in
    let told = offered_flat image.bytes.now image.damage.now Open in
    search rules

pub returns-then-is_ok-clause-memory : goal.returns-then-is_ok-clause-memory
returns-then-is_ok-clause-memory c =
    let spare = ap (λ (b : FlatBase). b.spare) c.apply_all.ensures.base in
    record { long = (search rules, search rules); spare = search rules; holds = offered_holds _ _ Open }

pub returns-else-is_ok-clause-blocks : goal.returns-else-is_ok-clause-blocks
returns-else-is_ok-clause-blocks c = unfilled c.args.fills.now c.check.result _ (flat_blocks c.args.bytes.now c.args.damage.now Open) c.check.ensures (search rules)

pub returns-else-is_ok-clause-memory : goal.returns-else-is_ok-clause-memory
returns-else-is_ok-clause-memory c = record { long = (refl, refl); spare = refl; holds = offered_holds c.args.bytes.now c.args.damage.now Open }
