-- From power on to power off.
use Rattle.std.proofs.Common.{◌≡◌, ℕ, List, Ok, Err, Result, OnOk, ap, ◌∙◌}
use Rattle.store.specs.Blocks.{Block}
use Rattle.flex.specs.declared.unit_map.UnitMap.{UnitMap}
use Rattle.device.specs.Device.{State, power_on}
use Rattle.desk.specs.Desks.{empty_desk}
use Rattle.desk.specs.Worlds.{World, at_start, at_end}
use Rattle.cuwajimo.specs.declared.call.Call.{Call}
use Rattle.cuwajimo.specs.Sessions.{all_left}

-- The session at first, where its device is at power on.
pub started : (w : World) (s : State) (number : ℕ) (map : UnitMap) (blocks : List Block) → w ≡ record { state = s; desk = empty_desk } → s ≡ power_on number map blocks → w ≡ at_start number map blocks
started w s number map blocks is on = is ∙ ap (λ (x : State). let v : World = record { state = x; desk = empty_desk } in v) on

pub left_over :
    {X E : Type 0} (r : Result X E) (w v start : World) (after : List Block) (calls : List Call) → OnOk r (v ≡ all_left w calls) → w ≡ start → after ≡ (at_end v).blocks
    → OnOk r (after ≡ (at_end (all_left start calls)).blocks)
left_over (Ok x) w v start after calls leaves starts ends =
    ends ∙ ap (λ (u : World). (at_end u).blocks) leaves ∙ ap (λ (u : World). (at_end (all_left u calls)).blocks) starts
left_over (Err e) w v start after calls leaves starts ends = tt
