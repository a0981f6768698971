-- The memory of an image that the program makes by itself.
use Rattle.std.specs.Prelude.{◌≡◌, ℕ, ◌+◌, ◌-◌, ◌*◌, ◌/◌, ◌^◌, min, cond, List, [], ◌∷◌, length, replicate, vec_items, Option, nat_le}
use Rattle.store.specs.declared.fault.Protection.{Protection}
use Rattle.store.specs.Blocks.{Block}
use Rattle.store.specs.Counts.{most_blocks}
use Rattle.image.specs.declared.refusal.Refusal.{Refusal}
use Rattle.flat.specs.Lengths.{flat_count}
use Rattle.flat.specs.Flat.{flat_offered, flat_refusal}
use Rattle.raw.specs.Lengths.{raw_count}
use Rattle.raw.specs.Raw.{raw_offered, raw_refusal}
use Rattle.cuwajimo.specs.declared.medium.Medium.{Medium}
use Rattle.cuwajimo.specs.declared.medium.Medium.TheVariants.{Flat, Raw}
use Rattle.cuwajimo.specs.declared.plan.Source.{Source}
use Rattle.cuwajimo.specs.declared.plan.Source.TheVariants as sources

-- How many blocks the memory has, if its lengths make an image.
abbrev pub medium_count : Medium → Option ℕ
medium_count (Flat bytes damage) = flat_count (length (vec_items bytes)) (length (vec_items damage))
medium_count (Raw bytes spares records) = raw_count (length (vec_items bytes)) (length (vec_items spares)) records

-- Why the memory is refused as an image, if it is.
abbrev pub medium_refusal : Medium → Option Refusal
medium_refusal (Flat bytes damage) = flat_refusal (length (vec_items bytes)) (length (vec_items damage))
medium_refusal (Raw bytes spares records) = raw_refusal (length (vec_items bytes)) (vec_items spares) records

-- The blocks of the memory as an image with this protection: none where it is refused.
abbrev pub medium_offered : Medium → Protection → List Block
medium_offered (Flat bytes damage) protection = flat_offered (vec_items bytes) (vec_items damage) protection
medium_offered (Raw bytes spares records) protection = raw_offered (vec_items bytes) (vec_items spares) records protection

-- A flat image of n blocks in memory: 256 bytes for each and a map of a bit for each, all zero. Of more blocks than an image may have
-- nothing is made but a map of one byte, which fits no image.
abbrev pub ZeroFlat : ℕ → Medium → Type 0
ZeroFlat n (Flat bytes damage) = (vec_items bytes ≡ cond (nat_le n most_blocks) (replicate (256 * n) 0) []) × (vec_items damage ≡ cond (nat_le n most_blocks) (replicate ((n + 7) / 8) 0) (0 ∷ []))
ZeroFlat n (Raw bytes spares records) = ⊥

-- A raw image in memory has 276 bytes for each record of each track. Of tracks with more records than a track may have nothing is made.
abbrev pub track_bytes : ℕ → ℕ → ℕ
track_bytes tracks records = cond (nat_le records 256) (tracks * 276 * records) 0

-- A number stops at the largest of 64 bits.
abbrev pub capped : ℕ → ℕ
capped n = min n (2 ^ 64 - 1)

-- As many bytes, where each product stops there. No memory has so many.
abbrev pub capped_bytes : ℕ → ℕ → ℕ
capped_bytes tracks records = capped (capped (cond (nat_le records 256) tracks 0 * 276) * records)

-- They are all zero, and the spare places are as they are given.
abbrev pub ZeroRaw : ℕ → List ℕ → Medium → Type 0
ZeroRaw n places (Flat bytes damage) = ⊥
ZeroRaw n places (Raw bytes spares records) = (vec_items bytes ≡ replicate (track_bytes (length places) n) 0) × (vec_items spares ≡ places) × (records ≡ n)

-- The memory that an image is brought into: all zero where it comes from no file; of one from files its kind, and how many records a track has.
abbrev pub Loaded : Source → Medium → Type 0
Loaded (sources.Flat blocks) medium = ZeroFlat blocks medium
Loaded (sources.FlatFiles blocks map) (Flat bytes damage) = Unit {0}
Loaded (sources.FlatFiles blocks map) (Raw bytes spares records) = ⊥
Loaded (sources.Raw records places) medium = ZeroRaw records (vec_items places) medium
Loaded (sources.RawFiles tracks places records) (Flat bytes damage) = ⊥
Loaded (sources.RawFiles tracks places records) (Raw bytes spares counted) = counted ≡ records
