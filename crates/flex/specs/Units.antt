-- Units, and which lists of them are a unit map.
use Rattle.std.specs.Prelude.{◌≡◌, ℕ, ◌+◌, ◌<◌, ◌≤◌, Bool, true, ◌&&◌, ◌||◌, List, [], ◌∷◌, length, get_or, nat_le, nat_lt, slice_index_or}
use Rattle.std.specs.List.{list_all}
use Rattle.store.specs.Counts.{most_blocks}
use Rattle.flex.specs.Geometries.{size_of}
use Rattle.flex.specs.declared.unit.Unit.{Unit as DiscUnit}

-- What stands past the units of a map.
abbrev pub blank : DiscUnit
blank = record { first = 0; geometry = record { cylinders = 0; heads = 0; sectors = 0 } }

-- One past the last block of a unit, whose blocks are those from its first on, as many as its size.
abbrev pub past : DiscUnit → ℕ
past u = u.first + size_of u.geometry

-- A count is at least 1, and at most so many.
abbrev pub up_to : ℕ → ℕ → Bool
up_to most n = nat_lt 0 n && nat_le n most

-- A unit has 1 to 65,535 cylinders, 1 to 255 heads and 1 to 255 sectors; the upper ends lie in the numbers' types.
abbrev pub counted : DiscUnit → Bool
counted u = up_to 65535 u.geometry.cylinders && (up_to 255 u.geometry.heads && up_to 255 u.geometry.sectors)

-- Of two units one ends before the other begins.
abbrev pub apart : DiscUnit → DiscUnit → Bool
apart u v = nat_le (past u) v.first || nat_le (past v) u.first

-- A unit ends at the stated end or before it.
abbrev pub inside : ℕ → DiscUnit → Bool
inside end u = nat_le (past u) end

-- No two units of a list meet.
abbrev pub all_apart : List DiscUnit → Bool
all_apart [] = true
all_apart (u ∷ us) = list_all (apart u) us && all_apart us

-- The counts of a unit map: 1 to 15 units, a stated end that a store may reach, and the counts of each unit.
abbrev pub counts : List DiscUnit → ℕ → Bool
counts us end = nat_le 1 (length us) && (nat_le (length us) 15 && (nat_le end most_blocks && list_all counted us))

-- The test of a unit map: counts, overlap, end, in this order; where one fails there is no map, and the status is 128/1.
abbrev pub sound : List DiscUnit → ℕ → Bool
sound us end = counts us end && (all_apart us && list_all (inside end) us)

-- The law of that test. A unit holds the blocks from its first to its last:
abbrev pub Holds : DiscUnit → ℕ → Type 0
Holds u block = (u.first ≤ block) × (block < past u)

-- Its counts are within their ranges:
pub record Counted (u : DiscUnit) : Type 0 where
  pub cylinders : (0 < u.geometry.cylinders) × (u.geometry.cylinders ≤ 65535)
  pub heads : (0 < u.geometry.heads) × (u.geometry.heads ≤ 255)
  pub sectors : (0 < u.geometry.sectors) × (u.geometry.sectors ≤ 255)

-- And a list of units with a stated end passes just where its counts are in range, no block is in two units, and none is past the end.
pub record Sound (us : List DiscUnit) (end : ℕ) : Type 0 where
  pub some : 1 ≤ length us
  pub few : length us ≤ 15
  pub reachable : end ≤ most_blocks
  pub counts : (n : ℕ) → n < length us → Counted (get_or us n blank)
  pub once : (n k block : ℕ) → n < length us → k < length us → Holds (slice_index_or us n blank) block → Holds (slice_index_or us k blank) block → n ≡ k
  pub within : (n block : ℕ) → n < length us → Holds (slice_index_or us n blank) block → block < end
