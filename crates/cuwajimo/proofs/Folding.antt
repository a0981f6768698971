-- Reading a script line by line.
use Rattle.std.proofs.Common.{◌≡◌, ℕ, ◌+◌, ◌<◌, ◌≤◌, false, List, [], ◌∷◌, ◌++◌, length, get_or, drop, is_some, Some, None, Ok, Err, Option, Result, sym, refl, ap, ◌∙◌, subst, inl, inr}
use Rattle.std.specs.Prelude.{OnOk, IsOkUnless}
use Rattle.std.specs.Borrow.{Bor}
use Rattle.std.specs.Option.{option_map}
use Rattle.std.proofs.lemmas.Bool.{false≢true}
use Rattle.std.proofs.lemmas.List.{at_drop_more, at_drop_all}
use Rattle.std.proofs.lemmas.Option.{none-some}
use Rattle.cuwajimo.specs.declared.call.Call.{Call}
use Rattle.cuwajimo.specs.declared.case.Case.{Case}
use Rattle.cuwajimo.specs.declared.plan.Plan.{Plan}
use Rattle.cuwajimo.specs.declared.trouble.Trouble.{Trouble}
use Rattle.cuwajimo.specs.declared.trouble.Trouble.TheVariants.{Memory}
use Rattle.cuwajimo.specs.BuildLines.{IsAny, AddsNothing, Builds}
use Rattle.cuwajimo.specs.CallLines.{IsCallOn, NamesCall}
use Rattle.cuwajimo.specs.Calls.{CallAdded, calls_on, calls_off, first_of}
use Rattle.cuwajimo.specs.Plans.{NothingAsked}
use Rattle.cuwajimo.specs.Scripts.{HasNoCall, IsNew, CannotExtend, ReadsWords, Step, CannotStep, next_number, ReadTo, RefusedAt}
use Rattle.cuwajimo.specs.Troubles.{Blames}
use Rattle.cuwajimo.proofs.Troubles.{if_line_weaker}

-- What has no first has nothing.
pub no_first : (calls : List Call) (r : Option (Bor Call)) → option_map (λ x. x.now) r ≡ first_of calls → is_some r ≡ false → calls ≡ []
no_first [] r first none = refl
no_first (call ∷ calls) None first none = absurd (none-some call first)
no_first (call ∷ calls) (Some r) first none = absurd (false≢true (sym none))

module _ (n : ℕ) (words : List (List ℕ)) (before : Case) where
  -- A call is read into the case.
  pub call_read : (after : Case) (call : Call) (r : Result (Unit {0}) Trouble) → IsCallOn n words call → OnOk r (CallAdded before call after) → IsOkUnless r Memory → ReadsWords n words before after r
  call_read after call (Ok t) on added memory = inl (call, on, added)
  call_read after call (Err e) on added memory = subst (λ (x : Trouble). ReadsWords n words before after (Err x)) (sym memory) (tt, tt)

  -- What builds is read into its plan.
  pub plan_read :
      (plan : Plan) (r : Result (Unit {0}) Trouble) → (NamesCall words → ⊥) → HasNoCall before → Builds IsAny n words before.plan plan r
      → ReadsWords n words before (record before { plan = plan }) r
  plan_read plan (Ok t) unnamed none adds = inr (unnamed, none, adds, refl)
  plan_read plan (Err e) unnamed none refused = (
    refused.0,
    if_line_weaker e (AddsNothing IsAny n words before.plan) (CannotExtend n words before) (λ nothing. inr (unnamed, inr nothing)) refused.1,
  )

-- A case of which neither list has a call is new.
pub is_new : (case : Case) → NothingAsked case.plan → calls_on case ≡ [] → calls_off case ≡ [] → IsNew case
is_new case plan on off = record { plan = plan; no_call = ap (λ (calls : List Call). calls ++ calls_off case) on ∙ off }

-- What is read of the lines ls, from the case first on, when k of them are read.
module _ (first : Case) (ls : List (List ℕ)) where
  -- What the lines that are left come to is what all come to.
  pub record Carries (n k : ℕ) (done : List Case) (case : Case) : Type 0 where
    pub reads : (cases : List Case) → ReadTo n (drop k ls) done case cases → ReadTo 0 ls [] first cases
    pub refuses : (e : Trouble) → RefusedAt n (drop k ls) done case e → RefusedAt 0 ls [] first e

  pub carries_begin : (done : List Case) → done ≡ [] → Carries 0 0 done first
  carries_begin done none = subst (λ (d : List Case). Carries 0 0 d first) (sym none) (record { reads = λ cases r. r; refuses = λ e r. r })

  -- The next line, of number n', is read.
  module _
      (n k : ℕ) (done : List Case) (case : Case) (line : List ℕ) (n' : ℕ) (carries : Carries n k done case) (within : k < length ls) (is : line ≡ get_or ls k line)
      (next : n' ≡ next_number n) where
    next_line : line ∷ drop (k + 1) ls ≡ drop k ls
    next_line = ap (λ (l : List ℕ). l ∷ drop (k + 1) ls) is ∙ sym (at_drop_more (λ (xs : List (List ℕ)). xs) ls k line within)

    pub carries_turn : (done' : List Case) (case' : Case) (k' : ℕ) → k' ≡ k + 1 → Step n' line done case done' case' → Carries n' k' done' case'
    carries_turn done' case' k' more step =
        let step' : Step (next_number n) line done case done' case' = subst (λ (m : ℕ). Step m line done case done' case') next step in
        let turned : Carries (next_number n) (k + 1) done' case' =
        record {
          reads = λ cases r. carries.reads cases (subst (λ (xs : List (List ℕ)). ReadTo n xs done case cases) next_line (done', case', step', r));
          refuses = λ e r. carries.refuses e (subst (λ (xs : List (List ℕ)). RefusedAt n xs done case e) next_line (inr (done', case', step', r)));
        } in
        subst (λ (m : ℕ). Carries m k' done' case') (sym next) (subst (λ (j : ℕ). Carries (next_number n) j done' case') (sym more) turned)

    pub carries_refused : (e : Trouble) → Blames n' e → CannotStep n' line case → RefusedAt 0 ls [] first e
    carries_refused e blames cannot =
        let blames' : Blames (next_number n) e = subst (λ (m : ℕ). Blames m e) next blames in
        let cannot' : CannotStep (next_number n) line case = subst (λ (m : ℕ). CannotStep m line case) next cannot in
        carries.refuses e (subst (λ (xs : List (List ℕ)). RefusedAt n xs done case e) next_line (inl (blames', cannot')))

  pub carries_end : (n k : ℕ) (done : List Case) (case : Case) (cases : List Case) → Carries n k done case → length ls ≤ k → cases ≡ done ++ case ∷ [] → ReadTo 0 ls [] first cases
  carries_end n k done case cases carries past all =
      carries.reads cases (subst (λ (xs : List (List ℕ)). ReadTo n xs done case cases) (sym (at_drop_all (λ (xs : List (List ℕ)). xs) ls k past)) all)
