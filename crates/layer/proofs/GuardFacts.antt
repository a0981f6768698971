-- What a write guard answers, from what the store below answers.
use Rattle.std.proofs.Common.{◌≡◌, ℕ, zero, suc, ◌<◌, ◌≤◌, Bool, true, false, List, [], ◌∷◌, length, Some, None, Err, Option, sym, refl, ap, ◌∙◌, inl, inr, arith}
use Rattle.std.specs.List.{slice_get}
use Rattle.std.specs.Option.{option_map}
use Rattle.std.proofs.lemmas.Option.{slice_get_past}
use Rattle.std.proofs.lemmas.Bool.{cases_eq}
use Rattle.store.specs.declared.fault.FaultKind.TheVariants as kinds
use Rattle.store.specs.Blocks.{Block, fault, read_at, read_answer, buffer_at, read_buffer, taken, write_answer, written, protection_at, protection_answer}
use Rattle.store.proofs.Nth.{same_nth}
use Rattle.store.proofs.Writes.{nth_written_same, nth_written_other}
use Rattle.layer.specs.declared.run.Run.{Run}
use Rattle.layer.specs.Runs.{in_run}
use Rattle.layer.specs.Guards.{guard, shut, tightened, RunStays, nth_guard, length_guard}

-- Being in the run or not changes neither what is read nor the number.
read_shut : (o : Option Block) (r : Bool) (b : ℕ) → read_at b o ≡ read_at b (option_map (shut r) o)
read_shut None r b = refl
read_shut (Some k) true b = refl
read_shut (Some k) false b = refl

buffer_shut : (o : Option Block) (r : Bool) (buffer : List ℕ) → buffer_at buffer o ≡ buffer_at buffer (option_map (shut r) o)
buffer_shut None r b = refl
buffer_shut (Some k) true b = refl
buffer_shut (Some k) false b = refl

protection_shut : (o : Option Block) (r : Bool) (b : ℕ) → tightened (protection_at b o) r ≡ protection_at b (option_map (shut r) o)
protection_shut None r b = refl
protection_shut (Some k) true b = refl
protection_shut (Some k) false b = refl

free_same : (o : Option Block) → option_map (shut false) o ≡ o
free_same None = refl
free_same (Some k) = refl

some_at : (bs : List Block) (b : ℕ) → b < length bs → (k : Block) × (slice_get bs b ≡ Some k)
some_at [] b h = absurd (omega arith)
some_at (k ∷ ks) zero h = (k, refl)
some_at (k ∷ ks) (suc b) h = some_at ks b (omega arith)

module _ (bs : List Block) (run : Run) (b : ℕ) where
  pub guard_protection : tightened (protection_answer bs b) (in_run run b) ≡ protection_answer (guard bs run) b
  guard_protection = protection_shut (slice_get bs b) (in_run run b) b ∙ ap (protection_at b) (sym (nth_guard bs run b))

  pub guard_read : (buffer : List ℕ) → read_answer bs b buffer ≡ read_answer (guard bs run) b buffer
  guard_read buffer = rw (nth_guard bs run b, ← read_shut (slice_get bs b) (in_run run b) b)

  pub guard_buffer : (buffer : List ℕ) → read_buffer bs b buffer ≡ read_buffer (guard bs run) b buffer
  guard_buffer buffer = rw (nth_guard bs run b, ← buffer_shut (slice_get bs b) (in_run run b) buffer)

  module _ (bytes : List ℕ) (whole : length bytes ≡ 256) where
    -- past the end there is nothing to write, here or below
    module _ (past : length bs ≤ b) where
      nothing : slice_get (guard bs run) b ≡ None
      nothing = slice_get_past (guard bs run) b (rw (length_guard bs run) past)

      pub past_write : Err (fault kinds.Beyond b) ≡ write_answer (guard bs run) b bytes
      past_write = rw (whole, nothing)

      pub past_written : guard bs run ≡ written (guard bs run) b bytes
      past_written = rw (whole, nothing)

    -- in the run a write is refused
    module _ (within : b < length bs) (covered : in_run run b ≡ true) where
      here : slice_get (guard bs run) b ≡ Some (shut true (some_at bs b within).0)
      here = nth_guard bs run b ∙ ap (λ r. option_map (shut r) (slice_get bs b)) covered ∙ ap (option_map (shut true)) (some_at bs b within).1

      pub run_write : Err (fault kinds.Protected b) ≡ write_answer (guard bs run) b bytes
      run_write = rw (whole, here)

      pub run_written : guard bs run ≡ written (guard bs run) b bytes
      run_written = rw (whole, here)

    -- outside it a write goes below
    module _ (free : in_run run b ≡ false) where
      as_below : slice_get (guard bs run) b ≡ slice_get bs b
      as_below = nth_guard bs run b ∙ ap (λ r. option_map (shut r) (slice_get bs b)) free ∙ free_same (slice_get bs b)

      pub free_write : write_answer bs b bytes ≡ write_answer (guard bs run) b bytes
      free_write = rw (whole, as_below)

      pub free_written : guard (written bs b bytes) run ≡ written (guard bs run) b bytes
      free_written = same_nth (guard (written bs b bytes) run) (written (guard bs run) b bytes) (λ j.
          nth_guard (written bs b bytes) run j
          ∙ elim (cases_eq j b) [
            | inl e ↦
                ap (λ i. option_map (shut (in_run run i)) (slice_get (written bs b bytes) i)) e
                ∙ ap (λ r. option_map (shut r) (slice_get (written bs b bytes) b)) free
                ∙ free_same (slice_get (written bs b bytes) b)
                ∙ nth_written_same bs b bytes
                ∙ ap (option_map (taken bytes)) (sym as_below)
                ∙ sym (nth_written_same (guard bs run) b bytes)
                ∙ ap (slice_get (written (guard bs run) b bytes)) (sym e)
            | inr ne ↦
                ap (option_map (shut (in_run run j))) (nth_written_other bs b bytes j ne)
                ∙ sym (nth_guard bs run j)
                ∙ sym (nth_written_other (guard bs run) b bytes j ne)
          ])

      pub free_stays : RunStays bs (written bs b bytes) run
      free_stays j covered = nth_written_other bs b bytes j (λ e. let f : true ≡ false = sym covered ∙ ap (in_run run) e ∙ free in cc)
