-- The calls of a script, and how a case keeps them.
use Rattle.std.specs.Prelude.{◌≡◌, ℕ, Bool, true, false, cond, not, ◌||◌, List, [], ◌∷◌, ◌++◌, length, Some, None, vec_items, codes, Option, ◌==◌}
use Rattle.cuwajimo.specs.declared.call.Act.{Act}
use Rattle.cuwajimo.specs.declared.call.Act.TheVariants as acts
use Rattle.cuwajimo.specs.declared.call.HostAct.{HostAct}
use Rattle.cuwajimo.specs.declared.call.HostAct.TheVariants as host_acts
use Rattle.cuwajimo.specs.declared.call.Call.{Call}
use Rattle.cuwajimo.specs.declared.case.Case.{Case}

-- The word that the line of an act for a host begins with.
abbrev pub host_act_name : HostAct → List ℕ
host_act_name (host_acts.Command bytes) = codes "command"
host_act_name (host_acts.Segment filling) = codes "segment"
host_act_name (host_acts.Report filling) = codes "report"
host_act_name host_acts.Cancel = codes "cancel"
host_act_name host_acts.Clear = codes "clear"
host_act_name host_acts.Notice = codes "notice"
host_act_name host_acts.Fault = codes "fault"
host_act_name host_acts.Params = codes "params"

-- The word that any call's line begins with: for a host's call that of its act.
abbrev pub act_name : Act → List ℕ
act_name (acts.Host host act) = host_act_name act
act_name acts.Locks = codes "locks"
act_name acts.Activity = codes "activity"
act_name acts.Off = codes "off"
act_name (acts.Blocks first count) = codes "blocks"
act_name (acts.Compare pile master) = codes "compare"
act_name acts.Save = codes "save"

-- The call that powers the device off.
abbrev pub is_off_act : Act → Bool
is_off_act (acts.Host host act) = false
is_off_act acts.Locks = false
is_off_act acts.Activity = false
is_off_act acts.Off = true
is_off_act (acts.Blocks first count) = false
is_off_act (acts.Compare pile master) = false
is_off_act acts.Save = false

-- The calls of a case before the first `off`.
abbrev pub calls_on : Case → List Call
calls_on case = vec_items case.on

-- The calls of a case from the first `off` on.
abbrev pub calls_off : Case → List Call
calls_off case = vec_items case.off

-- A call belongs to those from `off` on if it is an `off` or comes after one.
abbrev pub goes_off : Case → Call → Bool
goes_off case call = is_off_act call.act || not (length (calls_off case) == 0)

-- What adding a call leaves, where there is memory for it: the call comes last, in its part, and nothing else is changed.
pub record CallAdded (before : Case) (call : Call) (after : Case) : Type 0 where
  pub on : calls_on after ≡ cond (goes_off before call) (calls_on before) (calls_on before ++ call ∷ [])
  pub off : calls_off after ≡ cond (goes_off before call) (calls_off before ++ call ∷ []) (calls_off before)
  pub plan : after.plan ≡ before.plan

-- The first of some things, if any.
abbrev pub first_of : {X : Type 0} → List X → Option X
first_of [] = None
first_of (x ∷ xs) = Some x
