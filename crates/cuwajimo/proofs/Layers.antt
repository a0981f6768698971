-- A window on every block and a write guard on none change nothing.
use Rattle.std.proofs.Common.{◌≡◌, ℕ, suc, ◌≤◌, false, List, [], ◌∷◌, length, Option, unwrap_or, refl, ap, ◌∙◌, arith}
use Rattle.std.proofs.lemmas.List.{take_all}
use Rattle.store.specs.Blocks.{Block}
use Rattle.store.specs.Counts.{most_blocks}
use Rattle.store.specs.Each.{each_from}
use Rattle.layer.specs.declared.run.Run.{Run}
use Rattle.layer.specs.Runs.{in_run, no_blocks, all_blocks}
use Rattle.layer.specs.Guards.{guard, guarded, shut}
use Rattle.layer.specs.Windows.{window, windowed}
use Rattle.cuwajimo.specs.declared.plan.Plan.{Plan}
use Rattle.cuwajimo.specs.Plans.{guarded_run, layers, NoLayer}

none_in_run : (i : ℕ) → in_run no_blocks i ≡ false
none_in_run i = grind arith

none_shut_from : (i : ℕ) (bs : List Block) → each_from (λ j. shut (in_run no_blocks j)) i bs ≡ bs
none_shut_from i [] = refl
none_shut_from i (b ∷ bs) = ap (λ covered. shut covered b ∷ each_from (λ j. shut (in_run no_blocks j)) (suc i) bs) (none_in_run i) ∙ ap (λ rest. b ∷ rest) (none_shut_from (suc i) bs)

pub guard_none : (bs : List Block) → guard bs no_blocks ≡ bs
guard_none bs = none_shut_from 0 bs

pub window_whole : (bs : List Block) → length bs ≤ most_blocks → window bs all_blocks ≡ bs
window_whole bs few = take_all 4294967295 bs (omega arith)

pub plain_layers : {S : Type 0} (blocks : S → List Block) (plan : Plan) (image : S) → length (blocks image) ≤ most_blocks → NoLayer plan → guarded (windowed blocks) (layers plan image) ≡ blocks image
plain_layers blocks plan image few none =
    ap (λ (w : Option Run). guard (window (blocks image) (unwrap_or w all_blocks)) (guarded_run plan)) none.0
    ∙ ap (λ (g : Option Run). guard (window (blocks image) all_blocks) (unwrap_or g no_blocks)) none.1
    ∙ guard_none (window (blocks image) all_blocks)
    ∙ window_whole (blocks image) few
