-- A script as the list of its lines, and the cases that it is read to.
use Rattle.std.specs.Prelude.{◌≡◌, ℕ, ◌+◌, ◌-◌, ◌^◌, ◌⊎◌, min, List, [], ◌∷◌, ◌++◌, Ok, Err, Result, Vec, vec_items, codes}
use Rattle.std.specs.Str.{trim}
use Rattle.std.specs.Str.Lines.{lines}
use Rattle.std.specs.declared.alloc.Global.{Global}
use Rattle.cuwajimo.specs.declared.call.Call.{Call}
use Rattle.cuwajimo.specs.declared.case.Case.{Case}
use Rattle.cuwajimo.specs.declared.trouble.Trouble.{Trouble}
use Rattle.cuwajimo.specs.BuildLines.{IsAny, Adds, AddsNothing}
use Rattle.cuwajimo.specs.CallLines.{IsCallOn, NamesCall}
use Rattle.cuwajimo.specs.Calls.{calls_on, calls_off, CallAdded}
use Rattle.cuwajimo.specs.Lines.{before_comment, AreWords}
use Rattle.cuwajimo.specs.Plans.{NothingAsked}
use Rattle.cuwajimo.specs.Troubles.{Blames, IfLine}

-- What a line says: what stands before its comment, without the white space around it.
abbrev pub said : List ℕ → List ℕ
said line = trim (before_comment line)

-- No call is in the case yet.
abbrev pub HasNoCall : Case → Type 0
HasNoCall case = calls_on case ++ calls_off case ≡ []

-- A new case asks for nothing and has no call.
pub record IsNew (case : Case) : Type 0 where
  pub plan : NothingAsked case.plan
  pub no_call : HasNoCall case

-- What the line of number n leaves of a case: the call that it is comes last; or, before the first call, what it builds is added to
-- the plan.
abbrev pub Extends : ℕ → List (List ℕ) → Case → Case → Type 0
Extends n words before after =
    ((call : Call) × IsCallOn n words call × CallAdded before call after)
    ⊎ ((NamesCall words → ⊥) × HasNoCall before × Adds IsAny n words before.plan after.plan × (after ≡ record before { plan = after.plan }))

-- The line cannot be read: it is named as a call and is none; or it is no call, and a call stands before it, or it builds nothing.
abbrev pub CannotExtend : ℕ → List (List ℕ) → Case → Type 0
CannotExtend n words before =
    (NamesCall words × ((call : Call) → IsCallOn n words call → ⊥))
    ⊎ ((NamesCall words → ⊥) × ((HasNoCall before → ⊥) ⊎ AddsNothing IsAny n words before.plan))

-- The words of a line are read into a case; a trouble blames the line, and is want of memory, or the line cannot be read.
abbrev pub ReadsWords : ℕ → List (List ℕ) → Case → Case → Result (Unit {0}) Trouble → Type 0
ReadsWords n words before after (Ok t) = Extends n words before after
ReadsWords n words before after (Err e) = Blames n e × IfLine e (CannotExtend n words before)

-- What a line says is neither `reset` nor nothing.
pub record IsStatement (text : List ℕ) (words : List (List ℕ)) : Type 0 where
  pub no_reset : text ≡ codes "reset" → ⊥
  pub not_empty : text ≡ [] → ⊥
  pub words_are : AreWords text words

-- What the line of number n leaves: the cases that are done, and the one that is being read. `reset` ends the case and begins a new
-- one; a line that says nothing changes nothing.
abbrev pub Step : ℕ → List ℕ → List Case → Case → List Case → Case → Type 0
Step n line done case done' case' =
    ((said line ≡ codes "reset") × (done' ≡ done ++ case ∷ []) × IsNew case')
    ⊎ (((said line ≡ []) × (done' ≡ done) × (case' ≡ case))
    ⊎ ((words : List (List ℕ)) × IsStatement (said line) words × (done' ≡ done) × Extends n words case case'))

-- The line of number n cannot be read into the case.
abbrev pub CannotStep : ℕ → List ℕ → Case → Type 0
CannotStep n line case = (words : List (List ℕ)) × IsStatement (said line) words × CannotExtend n words case

-- A line is read; a trouble blames it, and is want of memory, or it cannot be read.
abbrev pub ReadsLine : ℕ → List ℕ → List Case → Case → List Case → Case → Result (Unit {0}) Trouble → Type 0
ReadsLine n line done case done' case' (Ok t) = Step n line done case done' case'
ReadsLine n line done case done' case' (Err e) = Blames n e × IfLine e (CannotStep n line case)

-- The number of the line behind the line of number n. The numbers stop at the largest of 32 bits.
abbrev pub next_number : ℕ → ℕ
next_number n = min (n + 1) (2 ^ 32 - 1)

-- The lines behind the line of number n are read one after the other, and then the last case is done.
abbrev pub ReadTo : ℕ → List (List ℕ) → List Case → Case → List Case → Type 0
ReadTo n [] done case cases = cases ≡ done ++ case ∷ []
ReadTo n (line ∷ lines) done case cases =
    (done' : List Case) × (case' : Case) × Step (next_number n) line done case done' case' × ReadTo (next_number n) lines done' case' cases

-- The first of them that cannot be read is blamed.
abbrev pub RefusedAt : ℕ → List (List ℕ) → List Case → Case → Trouble → Type 0
RefusedAt n [] done case e = ⊥
RefusedAt n (line ∷ lines) done case e =
    (Blames (next_number n) e × CannotStep (next_number n) line case)
    ⊎ ((done' : List Case) × (case' : Case) × Step (next_number n) line done case done' case' × RefusedAt (next_number n) lines done' case' e)

-- A script is read to its cases, from a new one on; a trouble is want of memory, or with its first line that cannot be read.
abbrev pub ReadsScript : List ℕ → Result (Vec Case Global) Trouble → Type 0
ReadsScript text (Ok cases) = (first : Case) × IsNew first × ReadTo 0 (lines text) [] first (vec_items cases)
ReadsScript text (Err e) = IfLine e ((first : Case) × IsNew first × RefusedAt 0 (lines text) [] first e)
