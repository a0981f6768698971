-- A run of the blocks of a store.
use Rattle.std.specs.Prelude.{◌≡◌, ℕ, zero, suc, ◌+◌, ◌-◌, ◌<◌, ◌≤◌, min, cond, ◌⊎◌, List, [], ◌∷◌, length, take, drop, Ok, Err, Result, nat_lt, refl}
use Rattle.std.proofs.Common.{sym, ap, subst, ◌∙◌, inl, inr, zero-add, suc-add, arith}
use Rattle.std.specs.List.{slice_get}
use Rattle.std.proofs.lemmas.List.{length-take, length-drop}
use Rattle.std.proofs.lemmas.Option.{slice_get_past}
use Rattle.std.proofs.lemmas.Bool.{cases_lt}
use Rattle.store.specs.declared.fault.FaultKind.TheVariants as kinds
use Rattle.store.specs.declared.fault.StoreFault.{StoreFault}
use Rattle.store.specs.Blocks.{Block, fault, written, Whole, Sized}
use Rattle.layer.specs.declared.run.Run.{Run}
use Rattle.layer.specs.declared.window.Window.{Window}

-- The blocks from the first on, as many as the count and as the store has.
abbrev pub window : List Block → Run → List Block
window bs run = take run.count (drop run.first bs)

-- What a window shows of what the store below has.
abbrev pub windowed : {S : Type 0} → (S → List Block) → Window S → List Block
windowed below w = window (below w.below) w.run

-- The blocks that a window does not show: those before its run, and those behind it.
abbrev pub outside : List Block → Run → List Block × List Block
outside bs run = (take run.first bs, drop (run.first + run.count) bs)

-- What a window stands on, which no call changes: what the store below stands on, the run, and the blocks that are not shown.
pub record WindowBase (Below : Type 0) : Type 0 where
  pub below : Below
  pub run : Run
  pub others : List Block × List Block

-- What a window stands on, from what the store below stands on and means.
abbrev pub window_base : {S Below : Type 0} → (S → Below) → (S → List Block) → Window S → WindowBase Below
window_base base_of blocks w = record { below = base_of w.below; run = w.run; others = outside (blocks w.below) w.run }

-- A fault from below is given with the number that the window's user gave; nothing else is changed.
abbrev pub renumbered : {T : Type 0} → Result T StoreFault → ℕ → Result T StoreFault
renumbered (Ok x) b = Ok x
renumbered (Err e) b = Err (fault e.kind b)

-- The number below of block b of the window; a number not below the window's count is beyond.
abbrev pub number_below : List Block → Run → ℕ → Result ℕ StoreFault
number_below bs run b = cond (nat_lt b (length (window bs run))) (Ok (run.first + b)) (Err (fault kinds.Beyond b))

-- The store below after a write to block b of the window: written at its own number, if the window has the block.
abbrev pub window_below : List Block → Run → ℕ → List ℕ → List Block
window_below bs run b bytes = cond (nat_lt b (length (window bs run))) (written bs (run.first + b) bytes) bs

-- Every block outside the run is after as it was before.
abbrev pub OutsideStays : List Block → List Block → Run → Type 0
OutsideStays before after run = (j : ℕ) → (j < run.first) ⊎ (run.first + run.count ≤ j) → slice_get after j ≡ slice_get before j

-- Element i of what follows the first f is element f + i.
nth_drop : {X : Type 0} (f : ℕ) (xs : List X) (i : ℕ) → slice_get (drop f xs) i ≡ slice_get xs (f + i)
nth_drop zero xs i = ap (slice_get xs) (sym (zero-add i))
nth_drop (suc f) [] i = refl
nth_drop (suc f) (x ∷ xs) i = nth_drop f xs i ∙ ap (slice_get (x ∷ xs)) (sym (suc-add f i))

-- An element among the first n is the same there.
nth_take : {X : Type 0} (n : ℕ) (xs : List X) (i : ℕ) → i < n → slice_get (take n xs) i ≡ slice_get xs i
nth_take zero xs i h = absurd (omega arith)
nth_take (suc n) [] i h = refl
nth_take (suc n) (x ∷ xs) zero h = refl
nth_take (suc n) (x ∷ xs) (suc i) h = nth_take n xs i (omega arith)

-- Block i of the window is block first + i of the store, and a window has no more blocks than the store.
module _ (bs : List Block) (run : Run) where
  pub length_window : length (window bs run) ≡ min run.count (length bs - run.first)
  length_window = length-take run.count (drop run.first bs) ∙ ap (min run.count) (length-drop run.first bs)

  pub nth_window : (i : ℕ) → i < run.count → slice_get (window bs run) i ≡ slice_get bs (run.first + i)
  nth_window i h = nth_take run.count (drop run.first bs) i h ∙ nth_drop run.first bs i

  pub window_sized : Sized bs → Sized (window bs run)
  window_sized s = record {
    few = let f = s.few in omega (arith, length_window);
    whole = λ i.
        elim (cases_lt i run.count) [
          | inl h ↦ subst Whole (sym (nth_window i h)) (s.whole (run.first + i))
          | inr h ↦ subst Whole (sym (slice_get_past (window bs run) i (omega (arith, length_window)))) tt
        ];
  }
