-- What the building lines of a case ask for.
use Rattle.std.specs.Prelude.{◌≡◌, true, false, [], ◌∷◌, ◌++◌, is_some, Some, None, Ok, Err, List, vec_items, Option, Result}
use Rattle.std.specs.Option.{unwrap_or}
use Rattle.store.specs.declared.fault.Protection.TheVariants as protections
use Rattle.layer.specs.declared.run.Run.{Run}
use Rattle.layer.specs.Runs.{no_blocks, all_blocks}
use Rattle.layer.specs.declared.window.Window.{Window}
use Rattle.layer.specs.declared.guard.WriteGuard.{WriteGuard}
use Rattle.layer.specs.Guards.{guard}
use Rattle.layer.specs.Windows.{window}
use Rattle.store.specs.Blocks.{Block}
use Rattle.cuwajimo.specs.declared.plan.Fill.{Fill}
use Rattle.cuwajimo.specs.declared.plan.Plan.{Plan}
use Rattle.cuwajimo.specs.declared.trouble.Trouble.{Trouble}
use Rattle.cuwajimo.specs.Troubles.{IfLine}

-- The run that the window shows is the window line's, and without one every block.
abbrev pub shown_run : Plan → Run
shown_run plan = unwrap_or plan.window all_blocks

-- The run that the write guard protects is the guard line's, and without one no block.
abbrev pub guarded_run : Plan → Run
guarded_run plan = unwrap_or plan.guard no_blocks

-- The pile under the cache: the image, then the window, then the write guard.
abbrev pub layers : {S : Type 0} → Plan → S → WriteGuard (Window S)
layers plan image = record { below = record { below = image; run = shown_run plan }; run = guarded_run plan }

-- The blocks that the whole pile shows of an image's: those of the window, the guarded ones protected. A cache shows the same.
abbrev pub pile_blocks : Plan → List Block → List Block
pile_blocks plan blocks = guard (window blocks (shown_run plan)) (guarded_run plan)

-- The plan has neither a window line nor a guard line.
abbrev pub NoLayer : Plan → Type 0
NoLayer plan = (plan.window ≡ None) × (plan.guard ≡ None)

-- A new plan has no image, nothing to do to it, no master, no protection, no layer, no unit, and the numbers 0.
pub record NothingAsked (plan : Plan) : Type 0 where
  pub source : plan.source ≡ None
  pub fills : vec_items plan.fills ≡ []
  pub master : plan.master ≡ None
  pub protection : plan.protection ≡ protections.Open
  pub window : plan.window ≡ None
  pub guard : plan.guard ≡ None
  pub cache : plan.cache ≡ false
  pub units : vec_items plan.units ≡ []
  pub end : plan.end ≡ 0
  pub device : plan.device ≡ 0

-- What there is at most one of: the first stays, and a second changes nothing.
abbrev pub first_set : {X : Type 0} → Option X → X → Option X
first_set None value = Some value
first_set (Some earlier) value = Some earlier

-- What is to be done to the image is added last, and nothing else is changed; a line that stands before the image is refused.
abbrev pub FillAdded : Plan → Fill → Plan → Result (Unit {0}) Trouble → Type 0
FillAdded before fill after (Ok t) = (is_some before.source ≡ true) × (vec_items after.fills ≡ vec_items before.fills ++ fill ∷ []) × (after ≡ record before { fills = after.fills })
FillAdded before fill after (Err e) = IfLine e (before.source ≡ None)
