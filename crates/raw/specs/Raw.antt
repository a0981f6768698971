-- What a raw image means: memory of whole records in tracks, and one byte a track that tells its spare record.
use Rattle.std.specs.Prelude.{◌≡◌, ℕ, ◌+◌, ◌-◌, ◌*◌, ◌/◌, ◌%◌, ◌<◌, ◌≤◌, Bool, cond, not, List, ◌++◌, length, map, Some, None, Option, ◌==◌, ◌≢◌, nat_lt, slice_index, slice_index_or, slice_set}
use Rattle.std.specs.List.{slice_get, range_with_len}
use Rattle.store.specs.declared.fault.Protection.{Protection}
use Rattle.store.specs.declared.fault.Protection.TheVariants as protections
use Rattle.store.specs.Blocks.{Block, sound, damaged}
use Rattle.raw.specs.declared.raw.RawImage.{RawImage}
use Rattle.image.specs.declared.refusal.Refusal.{Refusal}
use Rattle.image.specs.declared.refusal.Refusal.TheVariants as refusals
use Rattle.image.specs.Memory.{part, laid}
use Rattle.image.specs.Images.{block_of, blocks_by, unless_refused}
use Rattle.raw.specs.Lengths.{records_fit, raw_fits, misplaced, raw_size}

-- The blocks of a track are its records in order, the spare one passed over: so block i of a track is at place i before the spare place, and at i + 1 from there on.
abbrev pub place_of : ℕ → ℕ → ℕ
place_of spare i = cond (nat_lt i spare) i (i + 1)

-- The record of block b, counted through all tracks.
abbrev pub raw_record : List ℕ → ℕ → ℕ → ℕ
raw_record spares records b = b / (records - 1) * records + place_of (slice_index spares (b / (records - 1))) (b % (records - 1))

-- A record has 276 bytes: 6 of header, 256 of data, 2 of CRC and 12 of ECC. Header byte 0 is 0 for sound, and all else for damaged.
abbrev pub raw_block : List ℕ → List ℕ → ℕ → Protection → ℕ → Block
raw_block bytes spares records protection b =
    block_of (not (slice_index bytes (276 * raw_record spares records b) == 0)) (part bytes (276 * raw_record spares records b + 6) 256) protection

-- All blocks of memory and spare places, as many as an image over them has, each with the image's protection.
abbrev pub raw_blocks : List ℕ → List ℕ → ℕ → Protection → List Block
raw_blocks bytes spares records protection = blocks_by (raw_size (length bytes) spares records) (raw_block bytes spares records protection)

-- The memory with new data in a record and its header byte 0 at 0; the other header bytes, CRC and ECC stay.
abbrev pub with_data : List ℕ → ℕ → List ℕ → List ℕ
with_data bytes record_number new = laid (slice_set bytes (276 * record_number) 0) (276 * record_number + 6) new

-- The memory with a record's header byte 0 at 1.
abbrev pub with_flag : List ℕ → ℕ → List ℕ
with_flag bytes record_number = slice_set bytes (276 * record_number) 1

-- A track whose spare place is not in it is a refusal that names the track; where there is none, nothing is refused.
abbrev pub spare_refusal : Option ℕ → Option Refusal
spare_refusal None = None
spare_refusal (Some track) = Some (refusals.Spare track)

-- Opening checks the records of a track, then the lengths, then each spare place in order.
abbrev pub raw_refusal : ℕ → List ℕ → ℕ → Option Refusal
raw_refusal bytes spares records =
    cond (records_fit records) (cond (raw_fits bytes (length spares) records) (spare_refusal (misplaced records spares)) (Some refusals.Lengths)) (Some refusals.Records)

-- The blocks of memory that is offered as an image: none where it is refused.
abbrev pub raw_offered : List ℕ → List ℕ → ℕ → Protection → List Block
raw_offered bytes spares records protection = unless_refused (raw_refusal (length bytes) spares records) (raw_blocks bytes spares records protection)

-- What an image of this kind means, from the memory that it holds.
abbrev pub raw_meaning : RawImage → List Block
raw_meaning image = raw_blocks image.bytes.now image.spares.now image.records image.protection

-- The record of its block b.
abbrev pub image_record : RawImage → ℕ → ℕ
image_record image b = raw_record image.spares.now image.records b

-- A record is the spare one of its track: its place in the track is the one that the track's byte tells.
abbrev pub is_spare : List ℕ → ℕ → ℕ → Bool
is_spare spares records m = slice_index spares (m / records) == m % records

-- What of a record no block tells: all of a spare one, and of each other one its header from byte 1 on, its CRC and its ECC.
abbrev pub record_rest : List ℕ → List ℕ → ℕ → ℕ → List ℕ
record_rest bytes spares records m =
    cond (is_spare spares records m) (part bytes (276 * m) 276) (part bytes (276 * m + 1) 5 ++ part bytes (276 * m + 262) 14)

-- The same of every record of the memory.
abbrev pub records_rest : List ℕ → List ℕ → ℕ → List (List ℕ)
records_rest bytes spares records = map (record_rest bytes spares records) (range_with_len 0 (records * length spares))

-- What a raw image stands on, which no call changes: which memory it was lent, by its name and length, the spare places, the records of a track, its protection, and what of the records no block tells.
pub record RawBase : Type 0 where
  pub memory : ℕ × ℕ
  pub spares : List ℕ
  pub records : ℕ
  pub protection : Protection
  pub rest : List (List ℕ)

-- What an image of this kind stands on.
abbrev pub raw_base : RawImage → RawBase
raw_base image = record {
  memory = (image.bytes.ghost_name, length image.bytes.now);
  spares = image.spares.now;
  records = image.records;
  protection = image.protection;
  rest = records_rest image.bytes.now image.spares.now image.records;
}

-- What a technician would check by hand, of memory with these blocks: each sound block's bytes are the data of its record, whose header byte 0 is 0; that of a damaged one is not.
pub record RawHolds (bytes spares : List ℕ) (records : ℕ) (blocks : List Block) : Type 0 where
  pub whole : (b : ℕ) (held : List ℕ) (p : Protection) → slice_get blocks b ≡ Some (record { contents = sound held; protection = p }) → (part bytes (276 * raw_record spares records b + 6) 256 ≡ held) × (slice_index bytes (276 * raw_record spares records b) ≡ 0)
  pub lost : (b : ℕ) (p : Protection) → slice_get blocks b ≡ Some (record { contents = damaged; protection = p }) → slice_index bytes (276 * raw_record spares records b) ≢ 0

-- What calls leave of the memory: its length, and what of the records no block tells; and what the blocks are then, byte by byte. Of a block that stays damaged neither data nor header byte 0 is told, but that this is not 0.
pub record RawLeft (bytes spares : List ℕ) (records : ℕ) (bytes-after : List ℕ) : Type 0 where
  pub long : length bytes-after ≡ length bytes
  pub rest : records_rest bytes-after spares records ≡ records_rest bytes spares records
  pub holds : RawHolds bytes-after spares records (raw_offered bytes-after spares records protections.Open)

-- Nothing that an image of this kind holds is changed.
pub record SameRaw (before after : RawImage) : Type 0 where
  pub bytes : after.bytes.now ≡ before.bytes.now
  pub spares : after.spares.now ≡ before.spares.now
  pub records : after.records ≡ before.records
  pub protection : after.protection ≡ before.protection

-- What a technician would check by hand, of memory with count blocks: the blocks go through the records in order, none is the spare record of a track, and each other record of a track is some block's.
pub record Layout (spares : List ℕ) (records count : ℕ) : Type 0 where
  pub in_order : (b c : ℕ) → b < c → c < count → raw_record spares records b < raw_record spares records c
  pub never_spare : (b t : ℕ) → b < count → t < length spares → raw_record spares records b ≢ t * records + slice_index spares t
  pub every_other : (t p : ℕ) → t < length spares → p < records → (p ≢ slice_index spares t) → (b : ℕ) × (b < count) × (raw_record spares records b ≡ t * records + p)

-- The track that a refused spare place is told of: its place is not in the track, and every earlier track's is.
pub record FirstMisplaced (spares : List ℕ) (records track : ℕ) : Type 0 where
  pub is_track : track < length spares
  pub outside : records ≤ slice_index spares track
  pub earlier : (t : ℕ) → t < track → slice_index spares t < records

-- A refusal that names a track names the first one whose spare place is not in it; the others tell of none.
abbrev pub SpareTold : List ℕ → ℕ → Refusal → Type 0
SpareTold spares records refusals.Records = Unit {0}
SpareTold spares records refusals.Lengths = Unit {0}
SpareTold spares records (refusals.Spare track) = FirstMisplaced spares records track

-- An accepted write, seen record by record: the block's record is marked sound and has the new data, the other bytes of its header and its CRC and ECC stay, and so does every other record.
pub record RecordWritten (before : List ℕ) (number : ℕ) (new : List ℕ) (after : List ℕ) : Type 0 where
  pub flag : slice_index_or after (276 * number) 0 ≡ 0
  pub header : part after (276 * number + 1) 5 ≡ part before (276 * number + 1) 5
  pub content : part after (276 * number + 6) 256 ≡ new
  pub trailer : part after (276 * number + 262) 14 ≡ part before (276 * number + 262) 14
  pub others : (m : ℕ) → (m ≢ number) → part after (276 * m) 276 ≡ part before (276 * m) 276
  pub long : length after ≡ length before
