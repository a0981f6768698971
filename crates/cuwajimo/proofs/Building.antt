-- What a building line adds to a plan, and a line that adds nothing.
use Rattle.std.proofs.Common.{◌≡◌, ℕ, true, not, List, is_ok, is_some, Some, None, Ok, Err, Option, Result, sym, refl, ◌∙◌, inr}
use Rattle.std.specs.Prelude.{slice_get, codes, IsSomeAnd}
use Rattle.std.proofs.lemmas.Bool.{false≢true}
use Rattle.std.proofs.lemmas.Option.{none-some}
use Rattle.layer.specs.declared.run.Run.{Run}
use Rattle.cuwajimo.specs.declared.plan.Fill.{Fill}
use Rattle.cuwajimo.specs.declared.plan.MasterSource.{MasterSource}
use Rattle.cuwajimo.specs.declared.plan.Plan.{Plan}
use Rattle.cuwajimo.specs.declared.plan.Source.{Source}
use Rattle.cuwajimo.specs.declared.trouble.Trouble.{Trouble}
use Rattle.cuwajimo.specs.BuildLines.{Building, image, fill, master, window, guard, IsBuildingLine, IsRun, HasRoom, IsAny, IsOverImage, Adds, AddsNothing, Builds}
use Rattle.cuwajimo.specs.Plans.{first_set, FillAdded}
use Rattle.cuwajimo.specs.Troubles.{Blames, Blamed, IfLine}
use Rattle.cuwajimo.proofs.Troubles.{blamed_for, if_line_weaker}

module _ (Kind : Building → Type 0) (line : ℕ) (words : List (List ℕ)) (before after : Plan) (name : List ℕ) (named : slice_get words 0 ≡ Some name) where
  -- Nothing that the line says has room in the plan.
  abbrev NoRoom : Type 0
  NoRoom = (b : Building) → IsBuildingLine line words b → HasRoom before b → ⊥

  pub adds_nothing : NoRoom → AddsNothing Kind line words before
  adds_nothing none = (λ e. none-some name (sym e ∙ named), λ b kind said room. none b said room)

  -- So a trouble is answered.
  pub refused : (e : Trouble) → Blames line e → NoRoom → Builds Kind line words before after (Err e)
  refused e blames none = (blames, blamed_for e line (AddsNothing Kind line words before) blames (adds_nothing none))

  pub refused_in_memory : (e : Trouble) (Q : Type 0) → Blames line e → IfLine e Q → (Q → NoRoom) → Builds Kind line words before after (Err e)
  refused_in_memory e Q blames from none = (blames, if_line_weaker e Q (AddsNothing Kind line words before) (λ q. adds_nothing (none q)) from)

-- The image, of which there is at most one.
module _ (line : ℕ) (words : List (List ℕ)) (before after : Plan) (name : List ℕ) (named : slice_get words 0 ≡ Some name) where
  image_cases :
      (source : Source) (r : Result (Unit {0}) Trouble) (earlier : Option Source) → before.source ≡ earlier → IsBuildingLine line words (image source)
      → ((s : Source) → earlier ≡ Some s → (b : Building) → IsBuildingLine line words b → HasRoom before b → ⊥) → is_ok r ≡ not (is_some earlier)
      → after ≡ record before { source = first_set earlier source } → Blamed line r → Builds IsAny line words before after r
  image_cases source (Ok t) None is said none ok set blamed = inr (image source, tt, said, is, set)
  image_cases source (Ok t) (Some s) is said none ok set blamed = absurd (false≢true (sym ok))
  image_cases source (Err e) None is said none ok set blamed = absurd (false≢true ok)
  image_cases source (Err e) (Some s) is said none ok set blamed = refused IsAny line words before after name named e blamed (none s refl)

  pub image_built :
      (source : Source) (r : Result (Unit {0}) Trouble) → IsBuildingLine line words (image source)
      → ((s : Source) → before.source ≡ Some s → (b : Building) → IsBuildingLine line words b → HasRoom before b → ⊥) → is_ok r ≡ not (is_some before.source)
      → after ≡ record before { source = first_set before.source source } → Blamed line r → Builds IsAny line words before after r
  image_built source r said none ok set blamed = image_cases source r before.source refl said none ok set blamed

  -- The master, of which there is at most one too.
  master_cases :
      (source : MasterSource) (r : Result (Unit {0}) Trouble) (earlier : Option MasterSource) → before.master ≡ earlier → IsBuildingLine line words (master source)
      → ((s : MasterSource) → earlier ≡ Some s → (b : Building) → IsBuildingLine line words b → HasRoom before b → ⊥) → is_ok r ≡ not (is_some earlier)
      → after ≡ record before { master = first_set earlier source } → Blamed line r → Builds IsAny line words before after r
  master_cases source (Ok t) None is said none ok set blamed = inr (master source, tt, said, is, set)
  master_cases source (Ok t) (Some s) is said none ok set blamed = absurd (false≢true (sym ok))
  master_cases source (Err e) None is said none ok set blamed = absurd (false≢true ok)
  master_cases source (Err e) (Some s) is said none ok set blamed = refused IsAny line words before after name named e blamed (none s refl)

  pub master_built :
      (source : MasterSource) (r : Result (Unit {0}) Trouble) → IsBuildingLine line words (master source)
      → ((s : MasterSource) → before.master ≡ Some s → (b : Building) → IsBuildingLine line words b → HasRoom before b → ⊥) → is_ok r ≡ not (is_some before.master)
      → after ≡ record before { master = first_set before.master source } → Blamed line r → Builds IsAny line words before after r
  master_built source r said none ok set blamed = master_cases source r before.master refl said none ok set blamed

  -- What is done to it, which stands behind it.
  pub fill_built :
      (f : Fill) (r : Result (Unit {0}) Trouble) → IsBuildingLine line words (fill f)
      → (before.source ≡ None → (b : Building) → IsBuildingLine line words b → HasRoom before b → ⊥) → FillAdded before f after r → Blamed line r
      → Builds IsAny line words before after r
  fill_built f (Ok t) said none added blamed = inr (fill f, tt, said, added.0, (added.1, added.2))
  fill_built f (Err e) said none added blamed = refused_in_memory IsAny line words before after name named e (before.source ≡ None) blamed added none

-- A run of blocks that is the first of its kind.
module _ (line : ℕ) (words : List (List ℕ)) (before : Plan) where
  pub window_built :
      (run : Option Run) → slice_get words 0 ≡ Some (codes "window") → before.window ≡ None → IsSomeAnd run (IsRun words)
      → Adds IsOverImage line words before (record before { window = run })
  window_built None named none said = absurd said
  window_built (Some run) named none said = inr (window run, tt, record { name = named; operands = said }, none, refl)

  pub guard_built :
      (run : Option Run) → slice_get words 0 ≡ Some (codes "guard") → before.guard ≡ None → IsSomeAnd run (IsRun words)
      → Adds IsOverImage line words before (record before { guard = run })
  guard_built None named none said = absurd said
  guard_built (Some run) named none said = inr (guard run, tt, record { name = named; operands = said }, none, refl)

-- No word too many is a line's end.
pub ended : (word : Option (List ℕ)) → true ≡ not (is_some word) → word ≡ None
ended None all = refl
ended (Some word) all = absurd (false≢true (sym all))
