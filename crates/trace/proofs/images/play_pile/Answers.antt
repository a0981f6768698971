use Rattle.std.proofs.Common.{◌≡◌, length, None, Ok, refl, sym, ap, subst, ◌∙◌, rules}
use Rattle.std.specs.Result.{result_err}
use Rattle.store.specs.declared.fault.Protection.TheVariants.{Open}
use Rattle.flat.specs.Flat.{flat_offered, flat_refusal, FlatBase}
use Rattle.flat.proofs.Told.{offered_holds}
use Rattle.layer.specs.Guards.{guard}
use Rattle.layer.specs.Windows.{window}
use Rattle.trace.specs.Heads.{head_in}
use Rattle.trace.specs.Plays.{outcome, tells, PlaysAll}
use Rattle.trace.proofs.Playing.{whole}
use Rattle.trace.proofs.images.play_pile.Goals as goal

pub returns-in-Err-clause-memory : goal.returns-in-Err-clause-memory
returns-in-Err-clause-memory c = record { long = (refl, refl); spare = refl; holds = offered_holds c.args.image.now c.args.damage.now Open }

pub returns-clause-plays : goal.returns-clause-plays
returns-clause-plays c =
    let is = c.in-Ok.ensures in
    let accepted : flat_refusal (length c.args.image.now) (length c.args.damage.now) ≡ None = sym c.check-refusal.ensures ∙ is.accepted in
    let before = guard (window (flat_offered c.args.image.now c.args.damage.now Open) c.args.shown) c.args.guarded in
    let left = tells (guard (window (flat_offered c.play_piled.new.store.bytes.now c.play_piled.new.store.damage.now Open) c.args.shown) c.args.guarded) c.play_piled.new.output c.play_piled.result in
    let comes : left ≡ outcome (Ok c.in-Ok.playable.map) c.in-Ok.playable.device before c.in-Ok.playable.calls.now c.args.output.now = search rules in
    let played = subst (λ r. PlaysAll (head_in c.args.trace.now) r before c.args.output.now left) c.check-refusal.ensures (whole (head_in c.args.trace.now) (result_err c.check-refusal.result) before c.args.output.now c.in-Ok.playable left is comes) in
    search rules

pub returns-clause-memory : goal.returns-clause-memory
returns-clause-memory c =
    let spare = ap (λ (b : FlatBase). b.spare) c.play_piled.ensures.base in
    record { long = (search rules, search rules); spare = search rules; holds = offered_holds _ _ Open }
