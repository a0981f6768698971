-- What a write leaves in a window, from what it leaves in the store below.
use Rattle.std.proofs.Common.{◌≡◌, ℕ, ◌+◌, ◌<◌, List, length, take, drop, set, Some, None, Ok, Err, Option, sym, refl, ap, ◌∙◌, inl, inr, arith}
use Rattle.std.specs.List.{slice_get}
use Rattle.std.proofs.Math.Seq.{take-set-lt}
use Rattle.std.proofs.lemmas.List.{drop-set-add}
use Rattle.std.proofs.lemmas.Bool.{cases_lt, lt-ltb, le-ltb}
use Rattle.store.specs.declared.fault.FaultKind.TheVariants as kinds
use Rattle.store.specs.declared.fault.Protection.{Protection}
use Rattle.store.specs.declared.fault.Protection.TheVariants as protections
use Rattle.store.specs.Blocks.{Block, fault, open_block, written, written_at, written_of}
use Rattle.store.proofs.Writes.{nth_written_other}
use Rattle.layer.specs.declared.run.Run.{Run}
use Rattle.layer.specs.Windows.{window, number_below, OutsideStays, length_window, nth_window}

module _ (bs : List Block) (run : Run) (b at : ℕ) (found : Ok at ≡ number_below bs run b) where
  within : (b < length (window bs run)) × (at ≡ run.first + b)
  within =
      elim (cases_lt b (length (window bs run))) [
        | inl h ↦ let e : Ok at ≡ Ok (run.first + b) = rw (lt-ltb b (length (window bs run)) h) at found in (h, cc)
        | inr h ↦ let e : Ok at ≡ Err (fault kinds.Beyond b) = rw (le-ltb b (length (window bs run)) h) at found in cc
      ]

  here : slice_get bs at ≡ slice_get (window bs run) b
  here = ap (slice_get bs) within.1 ∙ sym (nth_window bs run b (let h = within.0 in omega (arith, length_window bs run)))

  module _ (bytes : List ℕ) (whole : length bytes ≡ 256) where
    window_set : (x : Block) → window (set bs at x) run ≡ set (window bs run) b x
    window_set x = ap (λ n. window (set bs n x) run) within.1 ∙ ap (take run.count) (drop-set-add run.first bs b x) ∙ take-set-lt run.count (drop run.first bs) b x (let h = within.0 in omega (arith, length_window bs run))

    window_written_at : (o : Option Block) → window (written_at bs at bytes o) run ≡ written_at (window bs run) b bytes o
    window_written_at None = refl
    window_written_at (Some k) = of k.protection
      where
        of : (p : Protection) → window (written_of bs at bytes p) run ≡ written_of (window bs run) b bytes p
        of protections.Open = window_set (open_block bytes)
        of protections.Protected = refl

    pub window_written : window (written bs at bytes) run ≡ written (window bs run) b bytes
    window_written = rw whole (window_written_at (slice_get bs at) ∙ ap (written_at (window bs run) b bytes) here)

    pub outside_written : OutsideStays bs (written bs at bytes) run
    outside_written j out =
        let h : b < length (window bs run) = within.0 in
        let e : at ≡ run.first + b = within.1 in
        nth_written_other bs at bytes j (λ f. elim out [ inl l ↦ omega arith | inr l ↦ omega (arith, length_window bs run) ])
