-- Which memory and spare places are an image, and how many blocks it has.
use Rattle.std.specs.Prelude.{ℕ, ◌-◌, ◌*◌, Bool, cond, ◌&&◌, List, length, is_some, Some, None, Option, ◌==◌, nat_le, position}
use Rattle.std.specs.Option.{unwrap_or}
use Rattle.store.specs.Counts.{most_blocks}

-- A track has 2 to 256 records.
abbrev pub records_fit : ℕ → Bool
records_fit records = nat_le 2 records && nat_le records 256

-- Lengths fit when the memory is 276 bytes for each record of each track, and the blocks, all records but one a track, are no more than a store may have.
abbrev pub raw_fits : ℕ → ℕ → ℕ → Bool
raw_fits bytes tracks records = records_fit records && (bytes == 276 * (records * tracks) && nat_le (tracks * (records - 1)) most_blocks)

-- How many blocks memory of such a length has in so many tracks, if they fit.
abbrev pub raw_count : ℕ → ℕ → ℕ → Option ℕ
raw_count bytes tracks records = cond (raw_fits bytes tracks records) (Some (tracks * (records - 1))) None

-- The first track whose spare place is not in the track.
abbrev pub misplaced : ℕ → List ℕ → Option ℕ
misplaced records spares = position (nat_le records) spares

-- How many blocks an image over memory of such a length has: none where lengths do not fit, or a spare place is not in its track.
abbrev pub raw_size : ℕ → List ℕ → ℕ → ℕ
raw_size bytes spares records = cond (is_some (misplaced records spares)) 0 (unwrap_or (raw_count bytes (length spares) records) 0)
