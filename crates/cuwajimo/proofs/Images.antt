-- The lines of images.
use Rattle.std.proofs.Common.{◌≡◌, ℕ, ◌^◌, true, List, is_some, Some, Ok, Err, Result, sym, ap, ◌∙◌}
use Rattle.std.specs.Prelude.{slice_get, codes}
use Rattle.std.proofs.lemmas.Bool.{false≢true}
use Rattle.cuwajimo.specs.declared.plan.Source.{Source}
use Rattle.cuwajimo.specs.declared.plan.Source.TheVariants.{Flat, FlatFiles, Raw, RawFiles}
use Rattle.cuwajimo.specs.declared.trouble.Trouble.{Trouble}
use Rattle.cuwajimo.specs.BuildLines.{IsFlat, IsRaw, IsRawInMemory, image, IsBuildingLine}
use Rattle.cuwajimo.specs.Readings.{ReadsInMemory}
use Rattle.cuwajimo.specs.Words.{number_in}
use Rattle.cuwajimo.proofs.Troubles.{if_line_weaker}

module _ (line : ℕ) (words : List (List ℕ)) where
  -- A raw image whose second word is a number is in memory.
  no_raw :
      is_some (number_in (2 ^ 32) (slice_get words 1)) ≡ true → ((source : Source) → IsRawInMemory words source → ⊥) → (source : Source) → IsRaw line words source → ⊥
  no_raw number none (Flat blocks) said = said
  no_raw number none (FlatFiles bytes damage) said = said
  no_raw number none (Raw records spares) said = none (Raw records spares) said
  no_raw number none (RawFiles bytes spares records) said = false≢true (sym (ap is_some said.0) ∙ number)

  pub raw_read :
      (r : Result Source Trouble) → is_some (number_in (2 ^ 32) (slice_get words 1)) ≡ true → ReadsInMemory line (IsRawInMemory words) r
      → ReadsInMemory line (IsRaw line words) r
  raw_read (Ok (Flat blocks)) number said = said
  raw_read (Ok (FlatFiles bytes damage)) number said = said
  raw_read (Ok (Raw records spares)) number said = said
  raw_read (Ok (RawFiles bytes spares records)) number said = absurd said
  raw_read (Err e) number refused = (
    refused.0,
    if_line_weaker e ((source : Source) → IsRawInMemory words source → ⊥) ((source : Source) → IsRaw line words source → ⊥) (no_raw number) refused.1,
  )

  -- A line that says an image says it by its name.
  pub flat_line : slice_get words 0 ≡ Some (codes "flat") → (source : Source) → IsFlat line words source → IsBuildingLine line words (image source)
  flat_line named (Flat blocks) said = record { name = named; operands = said }
  flat_line named (FlatFiles bytes damage) said = record { name = named; operands = said }
  flat_line named (Raw records spares) said = absurd said
  flat_line named (RawFiles bytes spares records) said = absurd said

  pub raw_line : slice_get words 0 ≡ Some (codes "raw") → (source : Source) → IsRaw line words source → IsBuildingLine line words (image source)
  raw_line named (Flat blocks) said = absurd said
  raw_line named (FlatFiles bytes damage) said = absurd said
  raw_line named (Raw records spares) said = record { name = named; operands = said }
  raw_line named (RawFiles bytes spares records) said = record { name = named; operands = said }
