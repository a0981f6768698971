use Rattle.std.proofs.Common.{is_some, Some, sym, ap, ◌∙◌, vec_items}
use Rattle.std.specs.Prelude.{slice_get, codes}
use Rattle.std.proofs.lemmas.Bool.{false≢true}
use Rattle.std.proofs.lemmas.List.{map-id}
use Rattle.std.proofs.lemmas.Option.{none-some}
use Rattle.std.proofs.lemmas.Result.{err_from_is_err_and}
use Rattle.cuwajimo.specs.declared.plan.Fill.TheVariants.{Pattern, Damage}
use Rattle.cuwajimo.specs.declared.plan.MasterSource.{MasterSource}
use Rattle.cuwajimo.specs.declared.plan.Source.{Source}
use Rattle.cuwajimo.specs.BuildLines.{HasRoom, IsAny, IsFlat, IsMaster, IsRaw}
use Rattle.cuwajimo.specs.Lines.{line_words}
use Rattle.cuwajimo.proofs.BuildNames.{only_flat, only_raw, only_master, only_pattern, only_damage}
use Rattle.cuwajimo.proofs.Building.{refused_in_memory, image_built, master_built, fill_built}
use Rattle.cuwajimo.proofs.Images.{flat_line, raw_line}
use Rattle.cuwajimo.proofs.Named.{reads_name}
use Rattle.cuwajimo.proofs.plan.Plan.read.Goals as goal

pub returns-in_err-flat-in-Some-flat : goal.returns-in_err-flat-in-Some-flat
returns-in_err-flat-in-Some-flat c =
    let words = line_words c.args.line in
    let line = c.args.line.spot.line in
    let plan = c.args.self.now in
    let named = reads_name (slice_get words 0) c.first.result c.in-Some-flat.field-0 (codes "flat") c.first.ensures c.in-Some-flat.is c.in-Some-flat.is-flat in
    let e = c.in_err-flat-in-Some-flat.field-0.0 in
    let p = err_from_is_err_and c.from_residual.result c.from_residual.ensures.1 in
    rw (p.1, p.2)
    (refused_in_memory IsAny line words plan plan (codes "flat") named e ((source : Source) → IsFlat line words source → ⊥) c.in_err-flat-in-Some-flat.ensures.0 c.in_err-flat-in-Some-flat.ensures.1
    (λ none. only_flat line words (λ b. HasRoom plan b → ⊥) named (λ source said room. none source said)))

pub returns-in_ok-flat-in-Some-flat : goal.returns-in_ok-flat-in-Some-flat
returns-in_ok-flat-in-Some-flat c =
    let words = line_words c.args.line in
    let line = c.args.line.spot.line in
    let plan = c.args.self.now in
    let named = reads_name (slice_get words 0) c.first.result c.in-Some-flat.field-0 (codes "flat") c.first.ensures c.in-Some-flat.is c.in-Some-flat.is-flat in
    let source = c.in_ok-flat-in-Some-flat.field-0 in
    image_built line words plan c.set_source.new.self (codes "flat") named source c.set_source.result (flat_line line words named source c.in_ok-flat-in-Some-flat.ensures)
    (λ s is. only_flat line words (λ b. HasRoom plan b → ⊥) named (λ other said room. none-some s (sym room ∙ is))) c.set_source.ensures.answer c.set_source.ensures.after c.set_source.ensures.line

pub returns-in_err-raw-in-Some-raw : goal.returns-in_err-raw-in-Some-raw
returns-in_err-raw-in-Some-raw c =
    let words = line_words c.args.line in
    let line = c.args.line.spot.line in
    let plan = c.args.self.now in
    let named = reads_name (slice_get words 0) c.first.result c.in-Some-raw.field-0 (codes "raw") c.first.ensures c.in-Some-raw.is c.in-Some-raw.is-raw in
    let e = c.in_err-raw-in-Some-raw.field-0.0 in
    let p = err_from_is_err_and c.from_residual-in_err-raw-in-Some-raw.result c.from_residual-in_err-raw-in-Some-raw.ensures.1 in
    rw (p.1, p.2)
    (refused_in_memory IsAny line words plan plan (codes "raw") named e ((source : Source) → IsRaw line words source → ⊥) c.in_err-raw-in-Some-raw.ensures.0 c.in_err-raw-in-Some-raw.ensures.1
    (λ none. only_raw line words (λ b. HasRoom plan b → ⊥) named (λ source said room. none source said)))

pub returns-in_ok-raw-in-Some-raw : goal.returns-in_ok-raw-in-Some-raw
returns-in_ok-raw-in-Some-raw c =
    let words = line_words c.args.line in
    let line = c.args.line.spot.line in
    let plan = c.args.self.now in
    let named = reads_name (slice_get words 0) c.first.result c.in-Some-raw.field-0 (codes "raw") c.first.ensures c.in-Some-raw.is c.in-Some-raw.is-raw in
    let source = c.in_ok-raw-in-Some-raw.field-0 in
    image_built line words plan c.set_source-in-Some-raw.new.self (codes "raw") named source c.set_source-in-Some-raw.result (raw_line line words named source c.in_ok-raw-in-Some-raw.ensures)
    (λ s is. only_raw line words (λ b. HasRoom plan b → ⊥) named (λ other said room. none-some s (sym room ∙ is))) c.set_source-in-Some-raw.ensures.answer c.set_source-in-Some-raw.ensures.after c.set_source-in-Some-raw.ensures.line

pub returns-in_ok-single-in-Some-pattern : goal.returns-in_ok-single-in-Some-pattern
returns-in_ok-single-in-Some-pattern c =
    let words = line_words c.args.line in
    let line = c.args.line.spot.line in
    let plan = c.args.self.now in
    let named = reads_name (slice_get words 0) c.first.result c.in-Some-pattern.field-0 (codes "pattern") c.first.ensures c.in-Some-pattern.is c.in-Some-pattern.is-pattern in
    fill_built line words plan c.add_fill.new.plan (codes "pattern") named (Pattern c.in_ok-single-in-Some-pattern.field-0) c.add_fill.result (record { name = named; operands = c.in_ok-single-in-Some-pattern.ensures })
    (λ none. only_pattern line words (λ b. HasRoom plan b → ⊥) named (λ x said room. false≢true (sym (ap is_some none) ∙ room))) c.add_fill.ensures.value c.add_fill.ensures.line

pub returns-in_ok-numbers-in-Some-damage : goal.returns-in_ok-numbers-in-Some-damage
returns-in_ok-numbers-in-Some-damage c =
    let words = line_words c.args.line in
    let line = c.args.line.spot.line in
    let plan = c.args.self.now in
    let named = reads_name (slice_get words 0) c.first.result c.in-Some-damage.field-0 (codes "damage") c.first.ensures c.in-Some-damage.is c.in-Some-damage.is-damage in
    fill_built line words plan c.add_fill-in-Some-damage.new.plan (codes "damage") named (Damage c.in_ok-numbers-in-Some-damage.field-0) c.add_fill-in-Some-damage.result (record { name = named; operands = c.in_ok-numbers-in-Some-damage.ensures.value ∙ ap Some (map-id (vec_items c.in_ok-numbers-in-Some-damage.field-0)) })
    (λ none. only_damage line words (λ b. HasRoom plan b → ⊥) named (λ x said room. false≢true (sym (ap is_some none) ∙ room))) c.add_fill-in-Some-damage.ensures.value c.add_fill-in-Some-damage.ensures.line

pub returns-in_err-master-in-Some-master : goal.returns-in_err-master-in-Some-master
returns-in_err-master-in-Some-master c =
    let words = line_words c.args.line in
    let line = c.args.line.spot.line in
    let plan = c.args.self.now in
    let named = reads_name (slice_get words 0) c.first.result c.in-Some-master.field-0 (codes "master") c.first.ensures c.in-Some-master.is c.in-Some-master.is-master in
    let e = c.in_err-master-in-Some-master.field-0.0 in
    let p = err_from_is_err_and c.from_residual-in_err-master-in-Some-master.result c.from_residual-in_err-master-in-Some-master.ensures.1 in
    rw (p.1, p.2)
    (refused_in_memory IsAny line words plan plan (codes "master") named e ((source : MasterSource) → IsMaster line words source → ⊥) c.in_err-master-in-Some-master.ensures.0 c.in_err-master-in-Some-master.ensures.1
    (λ none. only_master line words (λ b. HasRoom plan b → ⊥) named (λ source said room. none source said)))

pub returns-in_ok-master-in-Some-master : goal.returns-in_ok-master-in-Some-master
returns-in_ok-master-in-Some-master c =
    let words = line_words c.args.line in
    let line = c.args.line.spot.line in
    let plan = c.args.self.now in
    let named = reads_name (slice_get words 0) c.first.result c.in-Some-master.field-0 (codes "master") c.first.ensures c.in-Some-master.is c.in-Some-master.is-master in
    let source = c.in_ok-master-in-Some-master.field-0 in
    master_built line words plan c.set_master.new.self (codes "master") named source c.set_master.result (record { name = named; operands = c.in_ok-master-in-Some-master.ensures })
    (λ s is. only_master line words (λ b. HasRoom plan b → ⊥) named (λ other said room. none-some s (sym room ∙ is))) c.set_master.ensures.answer c.set_master.ensures.after c.set_master.ensures.line
