use Rattle.std.proofs.Common.{refl, ap, rules}
use Rattle.store.specs.declared.fault.Protection.TheVariants.{Open}
use Rattle.raw.specs.Raw.{raw_blocks, RawBase}
use Rattle.raw.proofs.Told.{offered_holds}
use Rattle.cuwajimo.proofs.MediaLeft.{unfilled}
use Rattle.cuwajimo.proofs.fill.prepare_raw.Goals as goal

pub returns-then-is_ok-clause-blocks : goal.returns-then-is_ok-clause-blocks
returns-then-is_ok-clause-blocks c =
    let protection = ap (λ (b : RawBase). b.protection) c.apply_all.ensures.base in
    let spares = ap (λ (b : RawBase). b.spares) c.apply_all.ensures.base in
    let records = ap (λ (b : RawBase). b.records) c.apply_all.ensures.base in
    search rules

pub returns-then-is_ok-clause-memory : goal.returns-then-is_ok-clause-memory
returns-then-is_ok-clause-memory c =
    let rest = ap (λ (b : RawBase). b.rest) c.apply_all.ensures.base in
    record { long = search rules; rest = search rules; holds = offered_holds _ _ _ Open }

pub returns-else-is_ok-clause-blocks : goal.returns-else-is_ok-clause-blocks
returns-else-is_ok-clause-blocks c = unfilled c.args.fills.now c.check.result _ (raw_blocks c.args.bytes.now c.args.spares.now c.args.records Open) c.check.ensures.answer (search rules)

pub returns-else-is_ok-clause-memory : goal.returns-else-is_ok-clause-memory
returns-else-is_ok-clause-memory c = record { long = refl; rest = refl; holds = offered_holds c.args.bytes.now c.args.spares.now c.args.records Open }
