-- A store of which one run is protected besides.
use Rattle.std.specs.Prelude.{◌≡◌, ℕ, Bool, true, false, cond, List, length, Some, None, Ok, Err, Option, Result}
use Rattle.std.proofs.Common.{sym, subst}
use Rattle.std.specs.List.{slice_get}
use Rattle.std.specs.Option.{option_map}
use Rattle.store.specs.declared.fault.StoreFault.{StoreFault}
use Rattle.store.specs.declared.fault.Protection.{Protection}
use Rattle.store.specs.declared.fault.Protection.TheVariants as protections
use Rattle.store.specs.Blocks.{Block, protections_of, written, Whole, Sized}
use Rattle.layer.specs.declared.run.Run.{Run}
use Rattle.layer.specs.declared.guard.WriteGuard.{WriteGuard}
use Rattle.layer.specs.Runs.{in_run}
use Rattle.store.specs.Each.{each, length_each, nth_each}

-- A block of the run is protected, whatever it is below; any other is as it is below.
abbrev pub shut : Bool → Block → Block
shut true k = record { contents = k.contents; protection = protections.Protected }
shut false k = k

-- The blocks with those of the run protected.
abbrev pub guard : List Block → Run → List Block
guard bs run = each (λ i. shut (in_run run i)) bs

-- What a write guard shows of what the store below has.
abbrev pub guarded : {S : Type 0} → (S → List Block) → WriteGuard S → List Block
guarded below w = guard (below w.below) w.run

-- What a write guard stands on, which no call changes: what the store below stands on, the run, and which blocks below may be written, which is not shown of the run.
pub record GuardBase (Below : Type 0) : Type 0 where
  pub below : Below
  pub run : Run
  pub protections : List Protection

-- What a write guard stands on, from what the store below stands on and means.
abbrev pub guard_base : {S Below : Type 0} → (S → Below) → (S → List Block) → WriteGuard S → GuardBase Below
guard_base base_of blocks w = record { below = base_of w.below; run = w.run; protections = protections_of (blocks w.below) }

-- The answer to the protection question, from the answer below: protected in the run, if there is such a block.
abbrev pub tightened : Result Protection StoreFault → Bool → Result Protection StoreFault
tightened (Ok p) covered = Ok (cond covered protections.Protected p)
tightened (Err e) covered = Err e

-- The store below after a write to block b: not touched where b is in the run.
abbrev pub guard_below : List Block → Run → ℕ → List ℕ → List Block
guard_below bs run b bytes = cond (in_run run b) bs (written bs b bytes)

-- Every block of the run is after as it was before.
abbrev pub RunStays : List Block → List Block → Run → Type 0
RunStays before after run = (j : ℕ) → in_run run j ≡ true → slice_get after j ≡ slice_get before j

-- Block i of the guarded store, which has as many blocks as the store.
module _ (bs : List Block) (run : Run) where
  pub length_guard : length (guard bs run) ≡ length bs
  length_guard = length_each (λ i. shut (in_run run i)) bs

  pub nth_guard : (i : ℕ) → slice_get (guard bs run) i ≡ option_map (shut (in_run run i)) (slice_get bs i)
  nth_guard i = nth_each (λ j. shut (in_run run j)) bs i

  whole_shut : (o : Option Block) (b : Bool) → Whole o → Whole (option_map (shut b) o)
  whole_shut None b h = h
  whole_shut (Some k) true h = h
  whole_shut (Some k) false h = h

  pub guard_sized : Sized bs → Sized (guard bs run)
  guard_sized s = record {
    few = rw length_guard s.few;
    whole = λ i. subst Whole (sym (nth_guard i)) (whole_shut (slice_get bs i) (in_run run i) (s.whole i));
  }
