-- The head of a trace.
use Rattle.std.specs.Prelude.{ℕ, zero, suc, ◌*◌, List, [], ◌∷◌, take, drop, map, Some, None, Option, slice_index}
use Rattle.std.specs.Int.{w16, w32, from_be_bytes}
use Rattle.flex.specs.declared.unit.Unit.{Unit as DiscUnit}
use Rattle.trace.specs.declared.head.Head.{Head}
use Rattle.trace.specs.Reading.{◌>>=◌, split, u32_in}

-- The device's number, and what its unit map is made of.
pub record Heading : Type 0 where
  pub device : ℕ
  pub end : ℕ
  pub units : List DiscUnit

-- ---- How it is written.

-- One byte, and those after it; none where there is no byte.
abbrev pub byte_in : List ℕ → Option (ℕ × List ℕ)
byte_in [] = None
byte_in (byte ∷ rest) = Some (byte, rest)

-- A unit has eight bytes: four of its first block, two of cylinders, one of heads, one of sectors.
abbrev pub unit_of : List ℕ → DiscUnit
unit_of bytes = record {
  first = from_be_bytes w32 (take 4 bytes);
  geometry = record { cylinders = from_be_bytes w16 (take 2 (drop 4 bytes)); heads = slice_index bytes 6; sectors = slice_index bytes 7 };
}

-- So many units one after the other, each of the next eight bytes.
abbrev pub units_of : ℕ → List ℕ → List DiscUnit
units_of zero bytes = []
units_of (suc n) bytes = unit_of (take 8 bytes) ∷ units_of n (drop 8 bytes)

-- Four bytes of the device's number, four of the stated end, one that tells how many units there are, and these.
abbrev pub head_in : List ℕ → Option (Heading × List ℕ)
head_in bytes = do
  device ← u32_in bytes
  end ← u32_in device.1
  count ← byte_in end.1
  units ← split (8 * count.0) count.1
  Some (record { device = device.0; end = end.0; units = units_of count.0 units.0 }, units.1)

-- ---- What the code holds of it.

-- What a head in the code says: the device's number, the stated end, and its units, each from eight bytes.
abbrev pub heading : Head → Heading
heading head = record { device = head.device; end = head.end; units = map unit_of head.units.now }
