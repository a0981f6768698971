use Rattle.std.proofs.Common.{◌≡◌, length, None, Ok, refl, sym, ap, subst, ◌∙◌, rules}
use Rattle.std.specs.Result.{result_err}
use Rattle.store.specs.declared.fault.Protection.TheVariants.{Open}
use Rattle.raw.specs.Raw.{raw_offered, raw_refusal, RawBase}
use Rattle.raw.proofs.Told.{offered_holds}
use Rattle.trace.specs.Heads.{head_in}
use Rattle.trace.specs.Plays.{outcome, tells, PlaysAll}
use Rattle.trace.proofs.Playing.{whole}
use Rattle.trace.proofs.images.play_raw.Goals as goal

pub returns-in-Err-clause-memory : goal.returns-in-Err-clause-memory
returns-in-Err-clause-memory c = record { long = refl; rest = refl; holds = offered_holds c.args.image.now c.args.spares.now c.args.records Open }

pub returns-clause-plays : goal.returns-clause-plays
returns-clause-plays c =
    let is = c.in-Ok.ensures in
    let accepted : raw_refusal (length c.args.image.now) c.args.spares.now c.args.records ≡ None = sym c.check-refusal.ensures.answer ∙ is.accepted in
    let before = raw_offered c.args.image.now c.args.spares.now c.args.records Open in
    let left = tells (raw_offered c.play_lent.new.store.bytes.now c.args.spares.now c.args.records Open) c.play_lent.new.output c.play_lent.result in
    let comes : left ≡ outcome (Ok c.in-Ok.playable.map) c.in-Ok.playable.device before c.in-Ok.playable.calls.now c.args.output.now = search rules in
    let played = subst (λ r. PlaysAll (head_in c.args.trace.now) r before c.args.output.now left) c.check-refusal.ensures.answer (whole (head_in c.args.trace.now) (result_err c.check-refusal.result) before c.args.output.now c.in-Ok.playable left is comes) in
    search rules

pub returns-clause-memory : goal.returns-clause-memory
returns-clause-memory c =
    let rest = ap (λ (b : RawBase). b.rest) c.play_lent.ensures.base in
    record { long = search rules; rest = search rules; holds = offered_holds _ _ _ Open }
