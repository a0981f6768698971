-- A store's blocks are those before a run, those of the run, and those behind it.
use Rattle.std.proofs.Common.{◌≡◌, ℕ, zero, suc, ◌+◌, List, [], ◌∷◌, ◌++◌, take, drop, sym, ap, ◌∙◌, zero-add, suc-add}
use Rattle.std.proofs.lemmas.List.{take-append-drop}
use Rattle.std.proofs.Math.Seq.{drop-nil}
use Rattle.store.specs.Blocks.{Block}
use Rattle.layer.specs.declared.run.Run.{Run}
use Rattle.layer.specs.declared.window.Window.{Window}
use Rattle.layer.specs.Windows.{window, windowed, outside, WindowBase, window_base}

-- What follows the first n of what follows the first f.
drop_further : {X : Type 0} (f n : ℕ) (xs : List X) → drop n (drop f xs) ≡ drop (f + n) xs
drop_further zero n xs = ap (λ k. drop k xs) (sym (zero-add n))
drop_further (suc f) n [] = drop-nil n ∙ sym (drop-nil (suc f + n))
drop_further (suc f) n (x ∷ xs) = drop_further f n xs ∙ ap (λ k. drop k (x ∷ xs)) (sym (suc-add f n))

module _ (run : Run) where
  parts : (bs : List Block) → take run.first bs ++ (window bs run ++ drop (run.first + run.count) bs) ≡ bs
  parts bs =
      ap (λ l. take run.first bs ++ (window bs run ++ l)) (sym (drop_further run.first run.count bs))
      ∙ ap (λ l. take run.first bs ++ l) (take-append-drop run.count (drop run.first bs))
      ∙ take-append-drop run.first bs

  -- So where a window shows the same, and what it does not show is the same, all blocks are.
  pub same_whole : (xs ys : List Block) → window xs run ≡ window ys run → outside xs run ≡ outside ys run → xs ≡ ys
  same_whole xs ys shown others =
      sym (parts xs)
      ∙ ap (λ (o : List Block × List Block). o.0 ++ (window xs run ++ o.1)) others
      ∙ ap (λ l. take run.first ys ++ (l ++ drop (run.first + run.count) ys)) shown
      ∙ parts ys

-- And so of what two windows stand over.
pub same_below : {S Below : Type 0} (base_of : S → Below) (blocks : S → List Block) (v w : Window S) → windowed blocks v ≡ windowed blocks w → window_base base_of blocks v ≡ window_base base_of blocks w → blocks v.below ≡ blocks w.below
same_below base_of blocks v w shown base =
    let run : v.run ≡ w.run = ap (λ (b : WindowBase _). b.run) base in
    let others : outside (blocks v.below) v.run ≡ outside (blocks w.below) w.run = ap (λ (b : WindowBase _). b.others) base in
    same_whole v.run (blocks v.below) (blocks w.below)
    (shown ∙ ap (window (blocks w.below)) (sym run))
    (others ∙ ap (outside (blocks w.below)) (sym run))
