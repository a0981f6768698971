-- What a flat image means: memory with its blocks one after the other, and a map of one bit a block.
use Rattle.std.specs.Prelude.{◌≡◌, ℕ, ◌-◌, ◌*◌, ◌/◌, ◌%◌, ◌^◌, Bool, true, false, cond, List, length, map, Some, None, Option, ◌==◌, ◌≢◌, bit_and, bit_or, slice_index, slice_set}
use Rattle.std.specs.List.{slice_get, range_with_len}
use Rattle.store.specs.declared.fault.Protection.{Protection}
use Rattle.store.specs.declared.fault.Protection.TheVariants as protections
use Rattle.store.specs.Blocks.{Block, sound, damaged}
use Rattle.flat.specs.declared.flat.FlatImage.{FlatImage}
use Rattle.image.specs.declared.refusal.Refusal.{Refusal}
use Rattle.image.specs.declared.refusal.Refusal.TheVariants as refusals
use Rattle.image.specs.Memory.{part}
use Rattle.image.specs.Images.{block_of, blocks_by, unless_refused}
use Rattle.flat.specs.Lengths.{flat_fits, flat_size}

-- The map has one bit a block, eight to a byte, lowest bit first: 1 for damaged.
abbrev pub marked : List ℕ → ℕ → Bool
marked damage b = slice_index damage (b / 8) / 2 ^ (b % 8) % 2 == 1

-- The map with the bit of block b set; every other bit stays.
abbrev pub with_mark : List ℕ → ℕ → List ℕ
with_mark damage b = slice_set damage (b / 8) (bit_or (slice_index damage (b / 8)) (2 ^ (b % 8)))

-- The map with the bit of block b cleared; every other bit stays.
abbrev pub without_mark : List ℕ → ℕ → List ℕ
without_mark damage b = slice_set damage (b / 8) (bit_and (slice_index damage (b / 8)) (255 - 2 ^ (b % 8)))

-- Block b is at byte 256 x b, and its mark in the map.
abbrev pub flat_block : List ℕ → List ℕ → Protection → ℕ → Block
flat_block bytes damage protection b = block_of (marked damage b) (part bytes (256 * b) 256) protection

-- All blocks of memory and map, as many as their lengths make, each with the image's protection.
abbrev pub flat_blocks : List ℕ → List ℕ → Protection → List Block
flat_blocks bytes damage protection = blocks_by (flat_size (length bytes) (length damage)) (flat_block bytes damage protection)

-- Opening refuses lengths that do not fit.
abbrev pub flat_refusal : ℕ → ℕ → Option Refusal
flat_refusal bytes damage = cond (flat_fits bytes damage) None (Some refusals.Lengths)

-- The blocks of memory that is offered as an image: none where it is refused.
abbrev pub flat_offered : List ℕ → List ℕ → Protection → List Block
flat_offered bytes damage protection = unless_refused (flat_refusal (length bytes) (length damage)) (flat_blocks bytes damage protection)

-- What an image of this kind means, from the memory that it holds.
abbrev pub flat_meaning : FlatImage → List Block
flat_meaning image = flat_blocks image.bytes.now image.damage.now image.protection

-- The spare marks: the bits of the map that no block has, behind that of the last one.
abbrev pub spare_marks : ℕ → List ℕ → List Bool
spare_marks bytes damage = map (marked damage) (range_with_len (flat_size bytes (length damage)) (8 * length damage - flat_size bytes (length damage)))

-- What a flat image stands on, which no call changes: which memory and which map it was lent, each by its name and length, its protection, and the spare marks.
pub record FlatBase : Type 0 where
  pub memory : ℕ × ℕ
  pub marks : ℕ × ℕ
  pub protection : Protection
  pub spare : List Bool

-- What an image of this kind stands on.
abbrev pub flat_base : FlatImage → FlatBase
flat_base image = record {
  memory = (image.bytes.ghost_name, length image.bytes.now);
  marks = (image.damage.ghost_name, length image.damage.now);
  protection = image.protection;
  spare = spare_marks (length image.bytes.now) image.damage.now;
}

-- What a technician would check by hand, of memory and map with these blocks: each sound block's bytes are there, 256 from byte 256 x b on, and its bit is 0; the bit of each damaged one is 1.
pub record FlatHolds (bytes damage : List ℕ) (blocks : List Block) : Type 0 where
  pub count : length blocks ≡ flat_size (length bytes) (length damage)
  pub whole : (b : ℕ) (held : List ℕ) (p : Protection) → slice_get blocks b ≡ Some (record { contents = sound held; protection = p }) → (part bytes (256 * b) 256 ≡ held) × (marked damage b ≡ false)
  pub lost : (b : ℕ) (p : Protection) → slice_get blocks b ≡ Some (record { contents = damaged; protection = p }) → marked damage b ≡ true

-- What calls leave of memory and map: their lengths and the spare marks; and what the blocks are then, byte by byte. Of a block that stays damaged the bytes are not told.
pub record FlatLeft (bytes damage bytes-after damage-after : List ℕ) : Type 0 where
  pub long : (length bytes-after ≡ length bytes) × (length damage-after ≡ length damage)
  pub spare : spare_marks (length bytes-after) damage-after ≡ spare_marks (length bytes) damage
  pub holds : FlatHolds bytes-after damage-after (flat_offered bytes-after damage-after protections.Open)

-- Only the bit of block b is changed in the map, and it now reads so; spare bits stay too.
pub record OnlyMark (before : List ℕ) (b : ℕ) (mark : Bool) (after : List ℕ) : Type 0 where
  pub here : marked after b ≡ mark
  pub others : (i : ℕ) → (i ≢ b) → marked after i ≡ marked before i
  pub long : length after ≡ length before

-- Nothing that an image of this kind holds is changed.
pub record SameFlat (before after : FlatImage) : Type 0 where
  pub bytes : after.bytes.now ≡ before.bytes.now
  pub damage : after.damage.now ≡ before.damage.now
  pub protection : after.protection ≡ before.protection
