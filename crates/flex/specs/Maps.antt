-- Unit maps: what is made of a list of units, and what a map answers.
use Rattle.std.specs.Prelude.{◌≡◌, ℕ, ◌+◌, ◌-◌, ◌<◌, true, false, cond, List, ◌++◌, length, take, replicate, Some, None, Ok, Err, Option, Result, ◌==◌, nat_lt, slice_index_or}
use Rattle.flex.specs.declared.geometry.Geometry.{Geometry}
use Rattle.flex.specs.declared.vector.Vector.{Vector}
use Rattle.flex.specs.declared.status.Status.{Status}
use Rattle.flex.specs.declared.status.Status.TheVariants.{BadUnitMap}
use Rattle.flex.specs.declared.unit.Unit.{Unit as DiscUnit}
use Rattle.flex.specs.declared.unit_map.UnitMap.{UnitMap}
use Rattle.flex.specs.Geometries.{size_of, place_of, Names}
use Rattle.flex.specs.Units.{blank, sound}

-- The fifteen places of a map: the units, numbered from 0, and blank ones after them.
abbrev pub padded : List DiscUnit → List DiscUnit
padded us = us ++ replicate (15 - length us) blank

-- What is made of a list of units and a stated end: a sound list's map, with these units and this end, and of any other list nothing but 128/1.
abbrev pub Makes : List DiscUnit → ℕ → Result UnitMap Status → Type 0
Makes us end (Ok m) = (sound us end ≡ true) × (m.units ≡ padded us) × (m.count ≡ length us) × (m.end ≡ end)
Makes us end (Err s) = (sound us end ≡ false) × (s ≡ BadUnitMap)

-- The units of a map.
abbrev pub listed : UnitMap → List DiscUnit
listed m = take m.count m.units

-- The unit of a number: there is none at or past the count.
abbrev pub unit_at : UnitMap → ℕ → Option DiscUnit
unit_at m n = cond (nat_lt n m.count) (Some (slice_index_or m.units n blank)) None

-- Unit 15 is the controller: it is no unit of the map, and has no cylinder, no head, no sector and so no place.
abbrev pub no_places : Geometry
no_places = record { cylinders = 0; heads = 0; sectors = 0 }

-- A unit is seen by its geometry; where there is no unit, number 15 is the controller, with no places, and any other is not seen.
abbrev pub seen_as : ℕ → Option DiscUnit → Option Geometry
seen_as n (Some u) = Some u.geometry
seen_as n None = cond (n == 15) (Some no_places) None

-- The geometry of a unit as a message sees it: of the units of the map, and of the controller.
abbrev pub geometry_at : UnitMap → ℕ → Option Geometry
geometry_at m n = seen_as n (unit_at m n)

-- The unit's first block plus the address; none where there is no unit, or the address is not below its size.
abbrev pub block_in : ℕ → Option DiscUnit → Option ℕ
block_in address None = None
block_in address (Some u) = cond (nat_lt address (size_of u.geometry)) (Some (u.first + address)) None

-- The block of the store that an address of a unit is: as many past the unit's first block as the address says.
abbrev pub block_at : UnitMap → ℕ → ℕ → Option ℕ
block_at m n address = block_in address (unit_at m n)

-- The law of a map: no block of the store has two names, none is past the end, and a vector names the block of its address.
pub record Named (m : UnitMap) : Type 0 where
  pub one_name : (n k address other block : ℕ) → block_at m n address ≡ Some block → block_at m k other ≡ Some block → (n ≡ k) × (address ≡ other)
  pub before_end : (n address block : ℕ) → block_at m n address ≡ Some block → block < m.end
  pub by_vector : (n address : ℕ) (u : DiscUnit) (v : Vector) → unit_at m n ≡ Some u → Names u.geometry v address → block_at m n address ≡ Some (u.first + place_of u.geometry v)
