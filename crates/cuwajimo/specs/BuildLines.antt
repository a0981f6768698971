-- The building lines of a script, as lists of words, and what each adds to a plan.
use Rattle.std.specs.Prelude.{◌≡◌, ℕ, ◌^◌, ◌⊎◌, true, List, [], ◌∷◌, ◌++◌, drop, length, is_some, Some, None, Ok, Err, Result, vec_items, slice_get, codes}
use Rattle.flex.specs.declared.unit.Unit.{Unit as DeviceUnit}
use Rattle.layer.specs.declared.run.Run.{Run}
use Rattle.store.specs.declared.fault.Protection.TheVariants as protections
use Rattle.cuwajimo.specs.declared.plan.Fill.{Fill}
use Rattle.cuwajimo.specs.declared.plan.Fill.TheVariants as fills
use Rattle.cuwajimo.specs.declared.plan.MasterSource.{MasterSource}
use Rattle.cuwajimo.specs.declared.plan.MasterSource.TheVariants as masters
use Rattle.cuwajimo.specs.declared.plan.Plan.{Plan}
use Rattle.cuwajimo.specs.declared.plan.Source.{Source}
use Rattle.cuwajimo.specs.declared.plan.Source.TheVariants as sources
use Rattle.cuwajimo.specs.declared.trouble.Trouble.{Trouble}
use Rattle.cuwajimo.specs.CallLines.{EndsAfter}
use Rattle.cuwajimo.specs.Readings.{NamesFile}
use Rattle.cuwajimo.specs.Troubles.{Blames, IfLine}
use Rattle.cuwajimo.specs.Words.{number_in, all_numbers}

-- A flat image: a number of blocks in memory, or two files, where the second word is no number below 2^32.
abbrev pub IsFlat : ℕ → List (List ℕ) → Source → Type 0
IsFlat line words (sources.Flat blocks) = (number_in (2 ^ 32) (slice_get words 1) ≡ Some blocks) × EndsAfter words 2
IsFlat line words (sources.FlatFiles bytes damage) =
    (number_in (2 ^ 32) (slice_get words 1) ≡ None) × NamesFile line (slice_get words 1) bytes × NamesFile line (slice_get words 2) damage × EndsAfter words 3
IsFlat line words (sources.Raw records spares) = ⊥
IsFlat line words (sources.RawFiles bytes spares records) = ⊥

-- A raw image in memory: how many tracks, how many records on each, and a spare place below 256 for each track.
abbrev pub IsRawInMemory : List (List ℕ) → Source → Type 0
IsRawInMemory words (sources.Flat blocks) = ⊥
IsRawInMemory words (sources.FlatFiles bytes damage) = ⊥
IsRawInMemory words (sources.Raw records spares) =
    (number_in (2 ^ 32) (slice_get words 1) ≡ Some (length (vec_items spares))) × (number_in (2 ^ 32) (slice_get words 2) ≡ Some records)
    × (all_numbers 256 (drop 3 words) ≡ Some (vec_items spares))
IsRawInMemory words (sources.RawFiles bytes spares records) = ⊥

-- A raw image: in memory, or in two files with so many records on a track, where the second word is no number below 2^32.
abbrev pub IsRaw : ℕ → List (List ℕ) → Source → Type 0
IsRaw line words (sources.Flat blocks) = ⊥
IsRaw line words (sources.FlatFiles bytes damage) = ⊥
IsRaw line words (sources.Raw records spares) = IsRawInMemory words (sources.Raw records spares)
IsRaw line words (sources.RawFiles bytes spares records) =
    (number_in (2 ^ 32) (slice_get words 1) ≡ None) × NamesFile line (slice_get words 1) bytes × NamesFile line (slice_get words 2) spares
    × (number_in (2 ^ 32) (slice_get words 3) ≡ Some records) × EndsAfter words 4

-- A master: a number of blocks in memory and the number of their pattern, or a file, where the second word is no number below 2^32.
abbrev pub IsMaster : ℕ → List (List ℕ) → MasterSource → Type 0
IsMaster line words (masters.Pattern blocks pattern) =
    (number_in (2 ^ 32) (slice_get words 1) ≡ Some blocks) × (number_in (2 ^ 32) (slice_get words 2) ≡ Some pattern) × EndsAfter words 3
IsMaster line words (masters.File file) = (number_in (2 ^ 32) (slice_get words 1) ≡ None) × NamesFile line (slice_get words 1) file × EndsAfter words 2

-- A run of blocks: where it begins, and how many they are.
pub record IsRun (words : List (List ℕ)) (run : Run) : Type 0 where
  pub first : number_in (2 ^ 32) (slice_get words 1) ≡ Some run.first
  pub count : number_in (2 ^ 32) (slice_get words 2) ≡ Some run.count
  pub end : EndsAfter words 3

-- A unit: its first block, cylinders, heads and sectors.
pub record IsUnit (words : List (List ℕ)) (unit : DeviceUnit) : Type 0 where
  pub first : number_in (2 ^ 32) (slice_get words 1) ≡ Some unit.first
  pub cylinders : number_in 65536 (slice_get words 2) ≡ Some unit.geometry.cylinders
  pub heads : number_in 256 (slice_get words 3) ≡ Some unit.geometry.heads
  pub sectors : number_in 256 (slice_get words 4) ≡ Some unit.geometry.sectors
  pub end : EndsAfter words 5

-- One number.
pub record IsSingle (words : List (List ℕ)) (n : ℕ) : Type 0 where
  pub number : number_in (2 ^ 32) (slice_get words 1) ≡ Some n
  pub end : EndsAfter words 2

-- What is done to the image: a pattern is written into it, or some blocks are damaged.
abbrev pub IsFill : List (List ℕ) → Fill → Type 0
IsFill words (fills.Pattern p) = IsSingle words p
IsFill words (fills.Damage blocks) = all_numbers (2 ^ 32) (drop 1 words) ≡ Some (vec_items blocks)

-- What a building line says.
pub data Building : Type 0 where
  image : Source → Building
  fill : Fill → Building
  master : MasterSource → Building
  protect : Building
  window : Run → Building
  guard : Run → Building
  cache : Building
  unit : DeviceUnit → Building
  end : ℕ → Building
  device : ℕ → Building

-- The word that the line of an image begins with.
abbrev pub source_name : Source → List ℕ
source_name (sources.Flat blocks) = codes "flat"
source_name (sources.FlatFiles bytes damage) = codes "flat"
source_name (sources.Raw records spares) = codes "raw"
source_name (sources.RawFiles bytes spares records) = codes "raw"

-- The word that the line of what is done to it begins with.
abbrev pub fill_name : Fill → List ℕ
fill_name (fills.Pattern p) = codes "pattern"
fill_name (fills.Damage blocks) = codes "damage"

-- The word that any building line begins with.
abbrev pub building_name : Building → List ℕ
building_name (image source) = source_name source
building_name (fill f) = fill_name f
building_name (master source) = codes "master"
building_name protect = codes "protect"
building_name (window run) = codes "window"
building_name (guard run) = codes "guard"
building_name cache = codes "cache"
building_name (unit u) = codes "unit"
building_name (end n) = codes "end"
building_name (device n) = codes "device"

-- What stands after the name of an image is the image's.
abbrev pub IsSource : ℕ → List (List ℕ) → Source → Type 0
IsSource line words (sources.Flat blocks) = IsFlat line words (sources.Flat blocks)
IsSource line words (sources.FlatFiles bytes damage) = IsFlat line words (sources.FlatFiles bytes damage)
IsSource line words (sources.Raw records spares) = IsRaw line words (sources.Raw records spares)
IsSource line words (sources.RawFiles bytes spares records) = IsRaw line words (sources.RawFiles bytes spares records)

-- What stands after the first word.
abbrev pub AreBuildingOperands : ℕ → List (List ℕ) → Building → Type 0
AreBuildingOperands line words (image source) = IsSource line words source
AreBuildingOperands line words (fill f) = IsFill words f
AreBuildingOperands line words (master source) = IsMaster line words source
AreBuildingOperands line words protect = EndsAfter words 1
AreBuildingOperands line words (window run) = IsRun words run
AreBuildingOperands line words (guard run) = IsRun words run
AreBuildingOperands line words cache = EndsAfter words 1
AreBuildingOperands line words (unit u) = IsUnit words u
AreBuildingOperands line words (end n) = IsSingle words n
AreBuildingOperands line words (device n) = IsSingle words n

-- The building line, of that number, that says it.
pub record IsBuildingLine (line : ℕ) (words : List (List ℕ)) (b : Building) : Type 0 where
  pub name : slice_get words 0 ≡ Some (building_name b)
  pub operands : AreBuildingOperands line words b

-- The plan has room for it: there is one image, one master, one window and one guard, and an image to do something to.
abbrev pub HasRoom : Plan → Building → Type 0
HasRoom plan (image source) = plan.source ≡ None
HasRoom plan (fill f) = is_some plan.source ≡ true
HasRoom plan (master source) = plan.master ≡ None
HasRoom plan protect = Unit {0}
HasRoom plan (window run) = plan.window ≡ None
HasRoom plan (guard run) = plan.guard ≡ None
HasRoom plan cache = Unit {0}
HasRoom plan (unit u) = Unit {0}
HasRoom plan (end n) = Unit {0}
HasRoom plan (device n) = Unit {0}

-- What it leaves: its own part is set, or grows by it at its end, and nothing else is changed.
abbrev pub Leaves : Plan → Building → Plan → Type 0
Leaves before (image source) after = after ≡ record before { source = Some source }
Leaves before (fill f) after = (vec_items after.fills ≡ vec_items before.fills ++ f ∷ []) × (after ≡ record before { fills = after.fills })
Leaves before (master source) after = after ≡ record before { master = Some source }
Leaves before protect after = after ≡ record before { protection = protections.Protected }
Leaves before (window run) after = after ≡ record before { window = Some run }
Leaves before (guard run) after = after ≡ record before { guard = Some run }
Leaves before cache after = after ≡ record before { cache = true }
Leaves before (unit u) after = (vec_items after.units ≡ vec_items before.units ++ u ∷ []) × (after ≡ record before { units = after.units })
Leaves before (end n) after = after ≡ record before { end = n }
Leaves before (device n) after = after ≡ record before { device = n }

-- It is about neither the image itself nor the master.
abbrev pub IsOverImage : Building → Type 0
IsOverImage (image source) = ⊥
IsOverImage (fill f) = ⊥
IsOverImage (master source) = ⊥
IsOverImage protect = Unit {0}
IsOverImage (window run) = Unit {0}
IsOverImage (guard run) = Unit {0}
IsOverImage cache = Unit {0}
IsOverImage (unit u) = Unit {0}
IsOverImage (end n) = Unit {0}
IsOverImage (device n) = Unit {0}

-- It is about the device and its units.
abbrev pub IsOfDevice : Building → Type 0
IsOfDevice (image source) = ⊥
IsOfDevice (fill f) = ⊥
IsOfDevice (master source) = ⊥
IsOfDevice protect = ⊥
IsOfDevice (window run) = ⊥
IsOfDevice (guard run) = ⊥
IsOfDevice cache = ⊥
IsOfDevice (unit u) = Unit {0}
IsOfDevice (end n) = Unit {0}
IsOfDevice (device n) = Unit {0}

-- It is about anything.
abbrev pub IsAny : Building → Type 0
IsAny b = Unit {0}

-- What a building line of a kind leaves of a plan; a line of no words leaves it as it is.
abbrev pub Adds : (Building → Type 0) → ℕ → List (List ℕ) → Plan → Plan → Type 0
Adds Kind line words before after =
    ((slice_get words 0 ≡ None) × (after ≡ before))
    ⊎ ((b : Building) × Kind b × IsBuildingLine line words b × HasRoom before b × Leaves before b after)

-- A line that has words, and is no building line of the kind that the plan has room for.
abbrev pub AddsNothing : (Building → Type 0) → ℕ → List (List ℕ) → Plan → Type 0
AddsNothing Kind line words plan =
    (slice_get words 0 ≡ None → ⊥) × ((b : Building) → Kind b → IsBuildingLine line words b → HasRoom plan b → ⊥)

-- A line of a kind is read: what it says is added to the plan; a trouble blames the line, and is want of memory, or the line adds
-- nothing.
abbrev pub Builds : (Building → Type 0) → ℕ → List (List ℕ) → Plan → Plan → Result (Unit {0}) Trouble → Type 0
Builds Kind line words before after (Ok t) = Adds Kind line words before after
Builds Kind line words before after (Err e) = Blames line e × IfLine e (AddsNothing Kind line words before)
