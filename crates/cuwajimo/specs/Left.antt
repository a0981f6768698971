-- What the image's memory holds after the building lines, the device and the calls after it.
use Rattle.std.specs.Prelude.{◌≡◌, ℕ, List, vec_items}
use Rattle.store.specs.declared.fault.Protection.TheVariants as protections
use Rattle.store.specs.Blocks.{Block}
use Rattle.flat.specs.Flat.{flat_offered, FlatLeft}
use Rattle.raw.specs.Raw.{raw_offered, RawLeft}
use Rattle.layer.specs.Windows.{outside}
use Rattle.cuwajimo.specs.declared.medium.Medium.{Medium}
use Rattle.cuwajimo.specs.declared.medium.Medium.TheVariants.{Flat, Raw}
use Rattle.cuwajimo.specs.declared.plan.Fill.{Fill}
use Rattle.cuwajimo.specs.declared.plan.Plan.{Plan}
use Rattle.cuwajimo.specs.Fills.{filled_all}
use Rattle.cuwajimo.specs.Media.{medium_offered}
use Rattle.cuwajimo.specs.Plans.{pile_blocks, shown_run}

-- The memory of an image before and after calls: its kind, its lengths, its spare places and all that no block tells stay; and what the blocks are then, byte by byte.
abbrev pub MediumLeft : Medium → Medium → Type 0
MediumLeft (Flat bytes damage) (Flat after marks) = FlatLeft (vec_items bytes) (vec_items damage) (vec_items after) (vec_items marks)
MediumLeft (Flat bytes damage) (Raw after places counted) = ⊥
MediumLeft (Raw bytes spares records) (Flat after marks) = ⊥
MediumLeft (Raw bytes spares records) (Raw after places counted) = (places ≡ spares) × (counted ≡ records) × RawLeft (vec_items bytes) (vec_items spares) records (vec_items after)

-- Not one byte of the memory is another.
abbrev pub SameBytes : Medium → Medium → Type 0
SameBytes (Flat bytes damage) (Flat after marks) = (vec_items after ≡ vec_items bytes) × (vec_items marks ≡ vec_items damage)
SameBytes (Flat bytes damage) (Raw after places counted) = ⊥
SameBytes (Raw bytes spares records) (Flat after marks) = ⊥
SameBytes (Raw bytes spares records) (Raw after places counted) = (places ≡ spares) × (counted ≡ records) × (vec_items after ≡ vec_items bytes)

-- What the `pattern` and `damage` lines leave of the memory: the blocks that they make of those before, and nothing else is changed.
pub record Prepared (fills : List Fill) (before after : Medium) : Type 0 where
  pub blocks : medium_offered after protections.Open ≡ filled_all fills (medium_offered before protections.Open)
  pub memory : MediumLeft before after

-- What is left of the memory where the whole pile over it came to mean these blocks: they are what the pile shows of it, and nothing outside the window is changed.
pub record PileLeft (plan : Plan) (before : Medium) (blocks : List Block) (after : Medium) : Type 0 where
  pub shown : pile_blocks plan (medium_offered after plan.protection) ≡ blocks
  pub others : outside (medium_offered after plan.protection) (shown_run plan) ≡ outside (medium_offered before plan.protection) (shown_run plan)
  pub memory : MediumLeft before after

-- What the whole pile shows of a flat image in this memory, and of a raw one; and what lies outside its window.
abbrev pub flat_shown : Plan → List ℕ → List ℕ → List Block
flat_shown plan bytes damage = pile_blocks plan (flat_offered bytes damage plan.protection)

abbrev pub flat_outside : Plan → List ℕ → List ℕ → List Block × List Block
flat_outside plan bytes damage = outside (flat_offered bytes damage plan.protection) (shown_run plan)

abbrev pub raw_shown : Plan → List ℕ → List ℕ → ℕ → List Block
raw_shown plan bytes spares records = pile_blocks plan (raw_offered bytes spares records plan.protection)

abbrev pub raw_outside : Plan → List ℕ → List ℕ → ℕ → List Block × List Block
raw_outside plan bytes spares records = outside (raw_offered bytes spares records plan.protection) (shown_run plan)

-- Where blocks were only looked at, or nothing was asked of the image, the pile shows what it showed.
abbrev pub PileStays : Plan → Medium → Medium → Type 0
PileStays plan before after = PileLeft plan before (pile_blocks plan (medium_offered before plan.protection)) after
