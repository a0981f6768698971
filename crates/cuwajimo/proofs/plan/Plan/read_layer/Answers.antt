use Rattle.std.proofs.Common.{Some, refl, inr}
use Rattle.std.specs.Prelude.{slice_get, codes}
use Rattle.std.proofs.lemmas.Result.{err_from_is_err_and}
use Rattle.cuwajimo.specs.BuildLines.{protect, cache, HasRoom, IsOverImage}
use Rattle.cuwajimo.specs.Lines.{line_words}
use Rattle.cuwajimo.proofs.BuildNames.{only_window, only_guard}
use Rattle.cuwajimo.proofs.Building.{refused, window_built, guard_built, ended}
use Rattle.cuwajimo.proofs.Named.{reads_name}
use Rattle.cuwajimo.proofs.plan.Plan.read_layer.Goals as goal

pub returns-in_err-self-in-Some-window : goal.returns-in_err-self-in-Some-window
returns-in_err-self-in-Some-window c =
    let words = line_words c.args.line in
    let line = c.args.line.spot.line in
    let plan = c.args.self.now in
    let named = reads_name (slice_get words 0) c.first.result c.in-Some-window.field-0 (codes "window") c.first.ensures c.in-Some-window.is c.in-Some-window.is-window in
    let e = c.in_err-self-in-Some-window.field-0.0 in
    let p = err_from_is_err_and c.from_residual-in_err-self-in-Some-window.result c.from_residual-in_err-self-in-Some-window.ensures.1 in
    rw (p.1, p.2)
    (refused IsOverImage line words plan plan (codes "window") named e c.in_err-self-in-Some-window.ensures.0
    (only_window line words (λ b. HasRoom plan b → ⊥) named (λ run said room. c.in_err-self-in-Some-window.ensures.1 (Some run) (room, said))))

pub returns-in_err-self-in-Some-guard : goal.returns-in_err-self-in-Some-guard
returns-in_err-self-in-Some-guard c =
    let words = line_words c.args.line in
    let line = c.args.line.spot.line in
    let plan = c.args.self.now in
    let named = reads_name (slice_get words 0) c.first.result c.in-Some-guard.field-0 (codes "guard") c.first.ensures c.in-Some-guard.is c.in-Some-guard.is-guard in
    let e = c.in_err-self-in-Some-guard.field-0.0 in
    let p = err_from_is_err_and c.from_residual-in_err-self-in-Some-guard.result c.from_residual-in_err-self-in-Some-guard.ensures.1 in
    rw (p.1, p.2)
    (refused IsOverImage line words plan plan (codes "guard") named e c.in_err-self-in-Some-guard.ensures.0
    (only_guard line words (λ b. HasRoom plan b → ⊥) named (λ run said room. c.in_err-self-in-Some-guard.ensures.1 (Some run) (room, said))))

pub returns-in_ok-end-in-Some-protect : goal.returns-in_ok-end-in-Some-protect
returns-in_ok-end-in-Some-protect c =
    let words = line_words c.args.line in
    let named = reads_name (slice_get words 0) c.first.result c.in-Some-protect.field-0 (codes "protect") c.first.ensures c.in-Some-protect.is c.in-Some-protect.is-protect in
    inr (protect, tt, record { name = named; operands = ended (slice_get words 1) c.in_ok-end-in-Some-protect.ensures.value }, tt, refl)

pub returns-in_ok-end-in-Some-cache : goal.returns-in_ok-end-in-Some-cache
returns-in_ok-end-in-Some-cache c =
    let words = line_words c.args.line in
    let named = reads_name (slice_get words 0) c.first.result c.in-Some-cache.field-0 (codes "cache") c.first.ensures c.in-Some-cache.is c.in-Some-cache.is-cache in
    inr (cache, tt, record { name = named; operands = ended (slice_get words 1) c.in_ok-end-in-Some-cache.ensures.value }, tt, refl)

pub returns-in_ok-self-in-Some-window : goal.returns-in_ok-self-in-Some-window
returns-in_ok-self-in-Some-window c =
    let words = line_words c.args.line in
    let named = reads_name (slice_get words 0) c.first.result c.in-Some-window.field-0 (codes "window") c.first.ensures c.in-Some-window.is c.in-Some-window.is-window in
    let run = c.in_ok-self-in-Some-window in
    window_built c.args.line.spot.line words c.args.self.now run.field-0 named run.ensures.0 run.ensures.1

pub returns-in_ok-self-in-Some-guard : goal.returns-in_ok-self-in-Some-guard
returns-in_ok-self-in-Some-guard c =
    let words = line_words c.args.line in
    let named = reads_name (slice_get words 0) c.first.result c.in-Some-guard.field-0 (codes "guard") c.first.ensures c.in-Some-guard.is c.in-Some-guard.is-guard in
    let run = c.in_ok-self-in-Some-guard in
    guard_built c.args.line.spot.line words c.args.self.now run.field-0 named run.ensures.0 run.ensures.1
