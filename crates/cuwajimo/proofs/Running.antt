-- A case that is carried out over an image's memory: what its pile came to, and then what is printed after it.
use Rattle.std.proofs.Common.{◌≡◌, ℕ, List, ◌++◌, Some, None, Ok, Err, IfOk, MatchResult, OnOk, Option, Result, inr, refl, subst, sym, vec_items, ◌∙◌}
use Rattle.std.proofs.KnownBytes.{Appends-trans}
use Rattle.std.specs.Io.KnownBytes.{Appends}
use Rattle.std.specs.Result.{result_err}
use Rattle.store.specs.Blocks.{Block}
use Rattle.flex.specs.declared.status.Status.{Status}
use Rattle.flex.specs.declared.unit_map.UnitMap.{UnitMap}
use Rattle.flex.specs.Maps.{Makes}
use Rattle.image.specs.declared.refusal.Refusal.{Refusal}
use Rattle.cuwajimo.specs.declared.case.Case.{Case}
use Rattle.cuwajimo.specs.declared.medium.Medium.{Medium}
use Rattle.cuwajimo.specs.declared.plan.Source.{Source}
use Rattle.cuwajimo.specs.declared.session.Outcome.{Outcome}
use Rattle.cuwajimo.specs.declared.session.Outcome.TheVariants.{Served, Refused}
use Rattle.cuwajimo.specs.declared.trouble.Trouble.{Trouble}
use Rattle.cuwajimo.specs.Calls.{calls_off, calls_on}
use Rattle.cuwajimo.specs.Left.{Prepared, PileLeft, SameBytes}
use Rattle.cuwajimo.specs.Masters.{MasterLoaded, shown_by}
use Rattle.cuwajimo.specs.Media.{medium_offered, medium_refusal, Loaded}
use Rattle.cuwajimo.specs.Plans.{pile_blocks}
use Rattle.cuwajimo.specs.Printed.{served_lines, declined_lines, refused_line, FromOff, IsRun, Prints, RunOver, Serves}
use Rattle.cuwajimo.specs.Sessions.{blocks_left, outcome_of}

abbrev IsServed : Outcome → Type 0
IsServed Served = Unit {0}
IsServed Refused = ⊥

module _ (case : Case) (source : Source) (medium : Medium) (of : Option (List Block)) (a b c d : Option (List ℕ)) where
  abbrev shown : List Block
  shown = pile_blocks case.plan (medium_offered medium case.plan.protection)

  abbrev off : Medium → Option (List ℕ) → Type 0
  off then from = Prints (FromOff case.plan source then of (calls_off case)) from c

  abbrev Over : Option Refusal → Type 0
  Over refusal = Prints (RunOver refusal case source medium of) a c

  -- The units made a map: the device's answers, and then the calls from `off` on.
  mapped : (map : Result UnitMap Status) → Served ≡ outcome_of map → Makes (vec_items case.plan.units) case.plan.end map → Appends a b (served_lines map case.plan shown (calls_on case)) → (then : Medium)
      → PileLeft case.plan medium (blocks_left map case.plan.device shown (calls_on case)) then → off then b → Over None
  mapped (Ok map) is made printed then left rest =
      let first = served_lines (Ok map) case.plan shown (calls_on case) in
      (first ++ rest.0, (Ok map, made, rest.0, (then, left, rest.1), refl), Appends-trans a b c first rest.0 printed rest.2)
  mapped (Err status) is made printed then left rest = absurd (subst IsServed is tt)

  -- They made none: that they are refused, and then that there is no device.
  unmapped : (map : Result UnitMap Status) → Refused ≡ outcome_of map → Makes (vec_items case.plan.units) case.plan.end map → Appends a b (served_lines map case.plan shown (calls_on case)) → Appends b c (declined_lines case)
      → Over None
  unmapped (Ok map) is made printed rest = absurd (subst IsServed (sym is) tt)
  unmapped (Err status) is made printed rest =
      let first = served_lines (Err status) case.plan shown (calls_on case) in
      (first ++ declined_lines case, (Err status, made, declined_lines case, refl, refl), Appends-trans a b c first (declined_lines case) printed rest)

  abbrev Done : Result (Result Outcome Trouble) Refusal → Medium → Type 0
  Done served then = MatchResult served (λ outcome. (after : List Block) × IfOk outcome (λ o. Serves case shown o after a b) × PileLeft case.plan medium after then) (λ _. (b ≡ a) × SameBytes medium then)

  abbrev Decided : Result (Result Outcome Trouble) Refusal → Result Outcome Trouble → Type 0
  Decided served decision =
      MatchResult served (λ outcome. (decision ≡ outcome) × (d ≡ b)) (λ refusal. IfOk decision (λ o. o ≡ Refused) × OnOk decision (Appends b d (refused_line refusal)))

  -- The outcome of a pile whose image was accepted.
  accepted : (outcome decision : Result Outcome Trouble) (o : Outcome) (after : List Block) → decision ≡ outcome → decision ≡ Ok o → IfOk outcome (λ x. Serves case shown x after a b) → Serves case shown o after a b
  accepted outcome decision o after same is all = subst (λ (x : Result Outcome Trouble). IfOk x (λ y. Serves case shown y after a b)) (sym same ∙ is) all

  pub was_served :
      {X E : Type 0} (r : Result X E) (served : Result (Result Outcome Trouble) Refusal) (decision : Result Outcome Trouble) (then : Medium)
      → result_err served ≡ medium_refusal medium → Done served then → Decided served decision → decision ≡ Ok Served → OnOk r (off then d) → OnOk r (Over (medium_refusal medium))
  was_served (Err e) served decision then fits done decided is rest = tt
  was_served (Ok x) (Err refusal) decision then fits done decided is rest =
      absurd (subst IsServed (subst (λ (y : Result Outcome Trouble). IfOk y (λ o. o ≡ Refused)) is decided.0) tt)
  was_served (Ok x) (Ok outcome) decision then fits done decided is rest =
      let s = accepted outcome decision Served done.0 decided.0 is done.1 in
      subst Over fits (mapped s.map s.ended s.made s.printed then (subst (λ bs. PileLeft case.plan medium bs then) s.left done.2) (subst (off then) decided.1 rest))

  pub was_refused :
      {X E : Type 0} (r : Result X E) (served : Result (Result Outcome Trouble) Refusal) (decision : Result Outcome Trouble) (then : Medium)
      → result_err served ≡ medium_refusal medium → Done served then → Decided served decision → decision ≡ Ok Refused → OnOk r (Appends d c (declined_lines case)) → OnOk r (Over (medium_refusal medium))
  was_refused (Err e) served decision then fits done decided is rest = tt
  was_refused (Ok x) (Err refusal) decision then fits done decided is rest =
      let first = refused_line refusal in
      let told : Appends b d first = subst (λ (y : Result Outcome Trouble). OnOk y (Appends b d first)) is decided.1 in
      subst Over fits (first ++ declined_lines case, refl, Appends-trans a d c first (declined_lines case) (subst (λ (k : Option (List ℕ)). Appends k d first) done.0 told) rest)
  was_refused (Ok x) (Ok outcome) decision then fits done decided is rest =
      let s = accepted outcome decision Refused done.0 decided.0 is done.1 in
      subst Over fits (unmapped s.map s.ended s.made s.printed (subst (λ (k : Option (List ℕ)). Appends k c (declined_lines case)) decided.1 rest))

-- So a case with calls is run over the memory of its source and its master.
pub run_with :
    {X E : Type 0} (r : Result X E) (case : Case) (source : Source) (loaded medium : Medium) (memory : Option (List ℕ)) (of : Option (List Block)) (a c : Option (List ℕ)) → case.plan.source ≡ Some source
    → Loaded source loaded → Prepared (vec_items case.plan.fills) loaded medium → MasterLoaded case.plan.master memory → of ≡ shown_by memory
    → OnOk r (Prints (RunOver (medium_refusal medium) case source medium of) a c) → OnOk r (Prints (IsRun case) a c)
run_with (Ok x) case source loaded medium memory of a c is brought prepared held shows all =
    (all.0, inr (source, is, loaded, brought, medium, prepared, memory, held, subst (λ (o : Option (List Block)). RunOver (medium_refusal medium) case source medium o all.0) shows all.1), all.2)
run_with (Err e) case source loaded medium memory of a c is brought prepared held shows all = tt
