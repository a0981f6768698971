-- Which lengths of memory and map fit one another, and how many blocks they have.
use Rattle.std.specs.Prelude.{ℕ, ◌+◌, ◌/◌, ◌%◌, Bool, cond, ◌&&◌, Some, None, Option, ◌==◌, nat_le}
use Rattle.std.specs.Option.{unwrap_or}
use Rattle.store.specs.Counts.{most_blocks}

-- Lengths fit when the memory is whole blocks, at most as many as a store may have, and the map has a bit for each, rounded up to a byte.
abbrev pub flat_fits : ℕ → ℕ → Bool
flat_fits bytes damage = bytes % 256 == 0 && (nat_le (bytes / 256) most_blocks && damage == (bytes / 256 + 7) / 8)

-- How many blocks memory and map of such lengths have, if they fit.
abbrev pub flat_count : ℕ → ℕ → Option ℕ
flat_count bytes damage = cond (flat_fits bytes damage) (Some (bytes / 256)) None

-- Where they do not fit there are none.
abbrev pub flat_size : ℕ → ℕ → ℕ
flat_size bytes damage = unwrap_or (flat_count bytes damage) 0
