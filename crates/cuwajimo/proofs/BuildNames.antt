-- A building line says what its first word names.
use Rattle.std.proofs.Common.{◌≡◌, ℕ, false, List, Some, bytes_eq, refl}
use Rattle.std.specs.Prelude.{slice_get, codes, Vec}
use Rattle.std.specs.declared.alloc.Global.{Global}
use Rattle.layer.specs.declared.run.Run.{Run}
use Rattle.flex.specs.declared.unit.Unit.{Unit as DeviceUnit}
use Rattle.cuwajimo.specs.declared.plan.Fill.{Fill}
use Rattle.cuwajimo.specs.declared.plan.Fill.TheVariants as fills
use Rattle.cuwajimo.specs.declared.plan.MasterSource.{MasterSource}
use Rattle.cuwajimo.specs.declared.plan.Source.{Source}
use Rattle.cuwajimo.specs.declared.plan.Source.TheVariants as sources
use Rattle.cuwajimo.specs.BuildLines.{Building, image, fill, master, window, guard, unit, building_name, IsBuildingLine, IsFlat, IsRaw, IsMaster, IsFill, IsRun, IsUnit, IsSingle}
use Rattle.cuwajimo.proofs.Named.{apart}

-- A fact of whatever a line says follows from the fact of what its first word names.
module _ (line : ℕ) (words : List (List ℕ)) (P : Building → Type 0) where
  abbrev First : List ℕ → Type 0
  First name = slice_get words 0 ≡ Some name

  other : (name : List ℕ) (b : Building) → bytes_eq name (building_name b) ≡ false → First name → IsBuildingLine line words b → P b
  other name b differ named said = absurd (apart (slice_get words 0) name (building_name b) differ named said.name)

  other_image :
      (name : List ℕ) (source : Source) → bytes_eq name (codes "flat") ≡ false → bytes_eq name (codes "raw") ≡ false → First name → IsBuildingLine line words (image source)
      → P (image source)
  other_image name (sources.Flat blocks) flat raw named said = other name (image (sources.Flat blocks)) flat named said
  other_image name (sources.FlatFiles bytes damage) flat raw named said = other name (image (sources.FlatFiles bytes damage)) flat named said
  other_image name (sources.Raw records spares) flat raw named said = other name (image (sources.Raw records spares)) raw named said
  other_image name (sources.RawFiles bytes spares records) flat raw named said = other name (image (sources.RawFiles bytes spares records)) raw named said

  other_fill :
      (name : List ℕ) (g : Fill) → bytes_eq name (codes "pattern") ≡ false → bytes_eq name (codes "damage") ≡ false → First name → IsBuildingLine line words (fill g)
      → P (fill g)
  other_fill name (fills.Pattern p) pattern damage named said = other name (fill (fills.Pattern p)) pattern named said
  other_fill name (fills.Damage blocks) pattern damage named said = other name (fill (fills.Damage blocks)) damage named said

  pub only_flat : First (codes "flat") → ((source : Source) → IsFlat line words source → P (image source)) → (b : Building) → IsBuildingLine line words b → P b
  only_flat named f (image (sources.Flat blocks)) said = f (sources.Flat blocks) said.operands
  only_flat named f (image (sources.FlatFiles bytes damage)) said = f (sources.FlatFiles bytes damage) said.operands
  only_flat named f (fill g) said = other_fill (codes "flat") g refl refl named said
  only_flat named f b said = other (codes "flat") b refl named said

  pub only_raw : First (codes "raw") → ((source : Source) → IsRaw line words source → P (image source)) → (b : Building) → IsBuildingLine line words b → P b
  only_raw named f (image (sources.Raw records spares)) said = f (sources.Raw records spares) said.operands
  only_raw named f (image (sources.RawFiles bytes spares records)) said = f (sources.RawFiles bytes spares records) said.operands
  only_raw named f (fill g) said = other_fill (codes "raw") g refl refl named said
  only_raw named f b said = other (codes "raw") b refl named said

  pub only_pattern : First (codes "pattern") → ((p : ℕ) → IsSingle words p → P (fill (fills.Pattern p))) → (b : Building) → IsBuildingLine line words b → P b
  only_pattern named f (fill (fills.Pattern p)) said = f p said.operands
  only_pattern named f (fill (fills.Damage blocks)) said = other (codes "pattern") (fill (fills.Damage blocks)) refl named said
  only_pattern named f (image source) said = other_image (codes "pattern") source refl refl named said
  only_pattern named f b said = other (codes "pattern") b refl named said

  pub only_damage : First (codes "damage") → ((blocks : Vec ℕ Global) → IsFill words (fills.Damage blocks) → P (fill (fills.Damage blocks))) → (b : Building) → IsBuildingLine line words b → P b
  only_damage named f (fill (fills.Damage blocks)) said = f blocks said.operands
  only_damage named f (fill (fills.Pattern p)) said = other (codes "damage") (fill (fills.Pattern p)) refl named said
  only_damage named f (image source) said = other_image (codes "damage") source refl refl named said
  only_damage named f b said = other (codes "damage") b refl named said

  pub only_master : First (codes "master") → ((source : MasterSource) → IsMaster line words source → P (master source)) → (b : Building) → IsBuildingLine line words b → P b
  only_master named f (master source) said = f source said.operands
  only_master named f (image source) said = other_image (codes "master") source refl refl named said
  only_master named f (fill g) said = other_fill (codes "master") g refl refl named said
  only_master named f b said = other (codes "master") b refl named said

  pub only_window : First (codes "window") → ((run : Run) → IsRun words run → P (window run)) → (b : Building) → IsBuildingLine line words b → P b
  only_window named f (window run) said = f run said.operands
  only_window named f (image source) said = other_image (codes "window") source refl refl named said
  only_window named f (fill g) said = other_fill (codes "window") g refl refl named said
  only_window named f b said = other (codes "window") b refl named said

  pub only_guard : First (codes "guard") → ((run : Run) → IsRun words run → P (guard run)) → (b : Building) → IsBuildingLine line words b → P b
  only_guard named f (guard run) said = f run said.operands
  only_guard named f (image source) said = other_image (codes "guard") source refl refl named said
  only_guard named f (fill g) said = other_fill (codes "guard") g refl refl named said
  only_guard named f b said = other (codes "guard") b refl named said

  pub only_unit : First (codes "unit") → ((u : DeviceUnit) → IsUnit words u → P (unit u)) → (b : Building) → IsBuildingLine line words b → P b
  only_unit named f (unit u) said = f u said.operands
  only_unit named f (image source) said = other_image (codes "unit") source refl refl named said
  only_unit named f (fill g) said = other_fill (codes "unit") g refl refl named said
  only_unit named f b said = other (codes "unit") b refl named said
