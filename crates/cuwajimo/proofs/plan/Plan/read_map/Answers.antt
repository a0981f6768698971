use Rattle.std.proofs.Common.{refl, inr}
use Rattle.std.specs.Prelude.{slice_get, codes}
use Rattle.std.proofs.lemmas.Result.{err_from_is_err_and}
use Rattle.cuwajimo.specs.BuildLines.{unit, end, device, HasRoom, IsOfDevice}
use Rattle.cuwajimo.specs.Lines.{line_words}
use Rattle.cuwajimo.proofs.BuildNames.{only_unit}
use Rattle.cuwajimo.proofs.Building.{refused}
use Rattle.cuwajimo.proofs.Named.{reads_name}
use Rattle.cuwajimo.proofs.plan.Plan.read_map.Goals as goal

pub returns-in_err-unit-in-Some-unit : goal.returns-in_err-unit-in-Some-unit
returns-in_err-unit-in-Some-unit c =
    let words = line_words c.args.line in
    let line = c.args.line.spot.line in
    let plan = c.args.self.now in
    let named = reads_name (slice_get words 0) c.first.result c.in-Some-unit.field-0 (codes "unit") c.first.ensures c.in-Some-unit.is c.in-Some-unit.is-unit in
    let e = c.in_err-unit-in-Some-unit.field-0.0 in
    let p = err_from_is_err_and c.from_residual.result c.from_residual.ensures.1 in
    rw (p.1, p.2)
    (refused IsOfDevice line words plan plan (codes "unit") named e c.in_err-unit-in-Some-unit.ensures.0
    (only_unit line words (λ b. HasRoom plan b → ⊥) named (λ u said room. c.in_err-unit-in-Some-unit.ensures.1 u said)))

pub returns-in_ok-push-in-Some-unit : goal.returns-in_ok-push-in-Some-unit
returns-in_ok-push-in-Some-unit c =
    let words = line_words c.args.line in
    let named = reads_name (slice_get words 0) c.first.result c.in-Some-unit.field-0 (codes "unit") c.first.ensures c.in-Some-unit.is c.in-Some-unit.is-unit in
    let read = c.in_ok-unit-in-Some-unit in
    inr (unit read.field-0, tt, record { name = named; operands = read.ensures }, tt, (c.in_ok-push-in-Some-unit.ensures.items, refl))

pub returns-in_ok-self-in-Some-end : goal.returns-in_ok-self-in-Some-end
returns-in_ok-self-in-Some-end c =
    let words = line_words c.args.line in
    let named = reads_name (slice_get words 0) c.first.result c.in-Some-end.field-0 (codes "end") c.first.ensures c.in-Some-end.is c.in-Some-end.is-end in
    let read = c.in_ok-self-in-Some-end in
    inr (end read.field-0, tt, record { name = named; operands = read.ensures }, tt, refl)

pub returns-in_ok-self-in-Some-device : goal.returns-in_ok-self-in-Some-device
returns-in_ok-self-in-Some-device c =
    let words = line_words c.args.line in
    let named = reads_name (slice_get words 0) c.first.result c.in-Some-device.field-0 (codes "device") c.first.ensures c.in-Some-device.is c.in-Some-device.is-device in
    let read = c.in_ok-self-in-Some-device in
    inr (device read.field-0, tt, record { name = named; operands = read.ensures }, tt, refl)
