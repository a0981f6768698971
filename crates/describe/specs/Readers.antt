-- What a reader learns from a description. It knows how a table begins and what each type of table holds, and goes by the sizes that stand in it.
use Rattle.std.specs.Prelude.{◌≡◌, ℕ, zero, suc, ◌+◌, cond, List, [], ◌∷◌, take, drop, map, filter, ◌==◌}
use Rattle.flex.specs.declared.unit.Unit.{Unit as DiscUnit}
use Rattle.flex.specs.declared.unit_map.UnitMap.{UnitMap}
use Rattle.flex.specs.Geometries.{size_of}
use Rattle.flex.specs.Maps.{listed}
use Rattle.message.specs.Operands.{number}

-- The number of n bytes, from one place on.
abbrev pub field : ℕ → ℕ → List ℕ → ℕ
field place n bytes = number (take n (drop place bytes))

-- A table begins with its size, in two bytes.
abbrev pub size_in : List ℕ → ℕ
size_in table = field 0 2 table

-- Then comes its type, in one byte.
abbrev pub type_in : List ℕ → ℕ
type_in table = field 2 1 table

-- Then comes the size of its header, in one byte.
abbrev pub header_in : List ℕ → ℕ
header_in table = field 3 1 table

-- The tables that stand one after another, at most so many, up to one of type FFH.
abbrev pub tables_in : ℕ → List ℕ → List (List ℕ)
tables_in zero bytes = []
tables_in (suc most) bytes = cond (type_in bytes == 0xff) [] (take (size_in bytes) bytes ∷ tables_in most (drop (size_in bytes) bytes))

-- A message begins with the count of the bytes that follow in it.
abbrev pub tables_of : List ℕ → List (List ℕ)
tables_of message = tables_in (field 0 2 message) (take (field 0 2 message) (drop 2 message))

-- What is learned of a unit.
pub record Learned : Type 0 where
  pub number : ℕ
  pub cylinders : ℕ
  pub heads : ℕ
  pub sectors : ℕ
  pub blocks : ℕ

-- A table of type 4 is of a unit. Its header, which stands behind the 6 bytes that it begins with, begins with the unit's number. Behind the header
-- stand the largest cylinder in three bytes, the largest head in one, the largest sector in two, and the largest address in six.
abbrev pub learned : List ℕ → Learned
learned table = record {
  number = field 6 1 table;
  cylinders = field (6 + header_in table) 3 table + 1;
  heads = field (9 + header_in table) 1 table + 1;
  sectors = field (10 + header_in table) 2 table + 1;
  blocks = field (12 + header_in table) 6 table + 1;
}

-- What is learned of the units from a message: of each table of type 4, in their order.
abbrev pub units_in : List ℕ → List Learned
units_in message = map learned (filter (λ table. type_in table == 4) (tables_of message))

-- A table of type 3 is of the controller. The sixth byte of its header says which host asks.
abbrev pub hosts_in : List ℕ → List ℕ
hosts_in message = map (field 11 1) (filter (λ table. type_in table == 3) (tables_of message))

-- What there is to learn of units that are numbered on from n: each one's number, its cylinders, heads and sectors, and how many blocks it has.
abbrev pub known_from : ℕ → List DiscUnit → List Learned
known_from n [] = []
known_from n (u ∷ us) =
    record { number = n; cylinders = u.geometry.cylinders; heads = u.geometry.heads; sectors = u.geometry.sectors; blocks = size_of u.geometry }
    ∷ known_from (suc n) us

-- THE LAW OF A DESCRIPTION: a reader learns of the units of the map all that there is to learn, and which host asked.
pub record ReadBack (m : UnitMap) (host : ℕ) (message : List ℕ) : Type 0 where
  pub units : units_in message ≡ known_from 0 (listed m)
  pub asking : hosts_in message ≡ host ∷ []
