-- The message that answers an Extended Describe: its length, and then tables, one of the controller, one of each unit, and one that ends the list.
use Rattle.std.specs.Prelude.{ℕ, zero, suc, ◌-◌, ◌/◌, ◌%◌, ◌^◌, Bool, cond, List, [], ◌∷◌, ◌++◌, length, drop, Ok, Err, Result, nat_le}
use Rattle.flex.specs.declared.geometry.Geometry.{Geometry}
use Rattle.flex.specs.declared.status.Status.{Status}
use Rattle.flex.specs.declared.status.Status.TheVariants.{BadBuffer}
use Rattle.flex.specs.declared.unit.Unit.{Unit as DiscUnit}
use Rattle.flex.specs.declared.unit_map.UnitMap.{UnitMap}
use Rattle.flex.specs.Geometries.{size_of}
use Rattle.flex.specs.Maps.{listed}

-- A number in n bytes, the most significant byte first.
abbrev pub bytes_of : ℕ → ℕ → List ℕ
bytes_of zero v = []
bytes_of (suc n) v = v / 256 ^ n % 256 ∷ bytes_of n v

-- What a table begins with: its size, of which these 6 bytes are a part; its type; the size of its header; how many records it has, and the
-- size of one.
abbrev pub heading : ℕ → ℕ → ℕ → ℕ → ℕ → List ℕ
heading size kind header records record_size = bytes_of 2 size ++ kind ∷ header ∷ records ∷ record_size ∷ []

-- The installed units of a map of n units: a bit for each, unit 0 lowest.
abbrev pub installed : ℕ → ℕ
installed n = 2 ^ n - 1

-- The controller's table is of type 3: the installed units, the transfer rate in thousands of bytes a second, 5000; the controller's type, 2, which
-- is one of many ports; the number of the host that asks; the count of ports, 8; and a reserved byte, 0.
abbrev pub controller_table : ℕ → ℕ → List ℕ
controller_table n host = heading 14 3 8 0 0 ++ (bytes_of 2 (installed n) ++ (bytes_of 2 5000 ++ 2 ∷ host ∷ 8 ∷ 0 ∷ []))

-- A unit's table is of type 4. Its header: the unit's number; its kind, 0, a fixed disc; the product, 07937 with option 1, in three bytes of two
-- decimal digits each; the bytes of a block, 256; how many blocks can be buffered, 128; the burst size, 0, for none; the time of a block, 179
-- microseconds; the rate of long transfers in thousands of bytes a second, 1800; the time for retries, 80, and the longest time of an access, 84,
-- both in tens of milliseconds; and the largest interleave factor, 1.
abbrev pub unit_header : ℕ → List ℕ
unit_header number =
    number ∷ 0 ∷ 0x07 ∷ 0x93 ∷ 0x71 ∷
    (bytes_of 2 256 ++ 128 ∷ 0 ∷ (bytes_of 2 179 ++ (bytes_of 2 1800 ++ (bytes_of 2 80 ++ (bytes_of 2 84 ++ 1 ∷ [])))))

-- Its one record is of its volume: the largest cylinder, head, sector and single address; the interleave factor, 1; and the volume's number, 0, since a
-- unit has one volume.
abbrev pub volume : Geometry → List ℕ
volume g =
    bytes_of 3 (g.cylinders - 1) ++ ((g.heads - 1) ∷ (bytes_of 2 (g.sectors - 1) ++ (bytes_of 6 (size_of g - 1) ++ 1 ∷ 0 ∷ [])))

-- A unit's table has 38 bytes: the 6 that it begins with, its header of 18, and its one record of 14.
abbrev pub unit_table : ℕ → Geometry → List ℕ
unit_table number g = heading 38 4 18 1 14 ++ (unit_header number ++ volume g)

-- The tables of units, numbered on from the first.
abbrev pub unit_tables : ℕ → List DiscUnit → List ℕ
unit_tables n [] = []
unit_tables n (u ∷ us) = unit_table n u.geometry ++ unit_tables (suc n) us

-- The list ends with a table of type FFH that has nothing but its heading.
abbrev pub terminator : List ℕ
terminator = heading 6 0xff 0 0 0

-- The tables for the host that asks: the controller's, one of each unit in the order of their numbers, and the one that ends the list.
abbrev pub tables : UnitMap → ℕ → List ℕ
tables m host = controller_table m.count host ++ (unit_tables 0 (listed m) ++ terminator)

-- The message: how many bytes follow in 2 bytes, and the tables.
unfoldable pub description : UnitMap → ℕ → List ℕ
description m host = bytes_of 2 (length (tables m host)) ++ tables m host

-- The buffer is at least as long as the message.
abbrev pub fits : UnitMap → ℕ → List ℕ → Bool
fits m host buffer = nat_le (length (description m host)) (length buffer)

-- A buffer that is at least as long as the message takes it into its front, and its other bytes stay; a shorter one stays.
abbrev pub described : UnitMap → ℕ → List ℕ → List ℕ
described m host buffer = cond (fits m host buffer) (description m host ++ drop (length (description m host)) buffer) buffer

-- A shorter one gives 128/5, and stays.
abbrev pub answer_for : UnitMap → ℕ → List ℕ → Result (Unit {0}) Status
answer_for m host buffer = cond (fits m host buffer) (Ok tt) (Err BadBuffer)
