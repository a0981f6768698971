-- From power on to power off.
use Rattle.std.proofs.Common.{◌≡◌, ℕ, List, ◌++◌, take, drop, Some, None, Ok, Option, sym, ap, subst, ◌∙◌}
use Rattle.store.specs.Blocks.{Block}
use Rattle.flex.specs.declared.unit_map.UnitMap.{UnitMap}
use Rattle.device.specs.Device.{State, power_on}
use Rattle.desk.specs.Desks.{empty_desk}
use Rattle.image.specs.declared.refusal.Refusal.{Refusal}
use Rattle.trace.specs.declared.ending.Ending.{Ending}
use Rattle.trace.specs.declared.play.Playable.{Playable}
use Rattle.trace.specs.Heads.{Heading}
use Rattle.trace.specs.Playables.{IsPlayable}
use Rattle.trace.specs.Courses.{Course, course, runs_to}
use Rattle.desk.specs.Worlds.{World, at_start, at_end}
use Rattle.trace.specs.Plays.{Outcome, tells, used, over, outcome, PlaysAll}

-- The session at power on.
pub started :
    (session : World) (s : State) (number : ℕ) (map : UnitMap) (blocks : List Block) → session ≡ record { state = s; desk = empty_desk } → s ≡ power_on number map blocks
    → session ≡ at_start number map blocks
started session s number map blocks is on = is ∙ ap (λ (x : State). let w : World = record { state = x; desk = empty_desk } in w) on

pub played_over :
    (map : UnitMap) (number : ℕ) (blocks left : List Block) (calls output out : List ℕ) (room : ℕ) (w v : World) (ending : Ending)
    → room ≡ used output → w ≡ at_start number map blocks → runs_to v out ending ≡ course w calls (take room output) → left ≡ (at_end v).blocks
    → tells left (out ++ drop room output) ending ≡ outcome (Ok map) number blocks calls output
played_over map number blocks left calls output out room w v ending uses starts runs ends =
    ap (λ (bs : List Block). let o : Outcome = record { blocks = bs; output = out ++ drop room output; written = ending.written; how = ending.how } in o) ends
    ∙ ap (λ (c : Course). over c (drop room output)) runs
    ∙ ap (λ (x : World). over (course x calls (take room output)) (drop room output)) starts
    ∙ ap (λ (n : ℕ). over (course (at_start number map blocks) calls (take n output)) (drop n output)) uses

-- What is played over memory that is not refused is the whole trace.
pub whole :
    (head : Option (Heading × List ℕ)) (refusal : Option Refusal) (blocks : List Block) (output : List ℕ) (p : Playable) (o : Outcome)
    → IsPlayable head refusal p → o ≡ outcome (Ok p.map) p.device blocks p.calls.now output → PlaysAll head refusal blocks output o
whole head refusal blocks output p o is comes =
    let plays : PlaysAll (Some (is.heading, p.calls.now)) None blocks output o =
    record { map = Ok p.map; made = is.made; is = comes ∙ ap (λ n. outcome (Ok p.map) n blocks p.calls.now output) is.device } in
    subst (λ h. PlaysAll h refusal blocks output o) (sym is.is) (subst (λ r. PlaysAll (Some (is.heading, p.calls.now)) r blocks output o) (sym is.accepted) plays)
