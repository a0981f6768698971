-- A store of which up to eight open blocks are kept above it, and written to it late.
use Rattle.std.specs.Prelude.{◌≡◌, ℕ, ◌+◌, ◌%◌, Bool, true, false, cond, not, ◌&&◌, ◌⊎◌, List, [], ◌∷◌, map, length, replicate, is_some, is_ok, Some, None, Option, ◌==◌, ◌≢◌, slice_index_or, slice_set}
use Rattle.std.proofs.Common.{sym, subst, inl, inr}
use Rattle.std.specs.List.{slice_get, position_from}
use Rattle.std.specs.Option.{option_map}
use Rattle.std.proofs.lemmas.Bool.{cases_Bool, eqb-true}
use Rattle.store.specs.declared.fault.Protection.{Protection}
use Rattle.store.specs.declared.fault.Protection.TheVariants as protections
use Rattle.store.specs.Blocks.{Block, read_answer, read_buffer, write_answer, taken, taken_of, written, is_open_at, Whole, WholeOf, Sized}
use Rattle.cache.specs.declared.cache.Cache.{Cache}
use Rattle.cache.specs.declared.slot.Slot.{Slot}
use Rattle.store.specs.Each.{each, length_each, nth_each}

-- A slot keeps one block with its bytes, or is vacant.
abbrev pub slot : ℕ → List ℕ → Slot
slot b bytes = record { block = Some b; bytes = bytes }

-- What stands for a slot where there is none: vacant.
abbrev pub no_slot : Slot
no_slot = record { block = None; bytes = [] }

-- A block that is kept has 256 bytes; where none is, anything may stand.
abbrev pub WholeBytes : Option ℕ → List ℕ → Type 0
WholeBytes None bytes = Unit {0}
WholeBytes (Some b) bytes = length bytes ≡ 256

-- A slot that keeps a block has 256 bytes of it; a vacant one may hold anything.
abbrev pub WholeSlot : Slot → Type 0
WholeSlot s = WholeBytes s.block s.bytes

-- A cache begins with eight vacant slots.
abbrev pub vacant_slots : List Slot
vacant_slots = replicate 8 (record { block = None; bytes = replicate 256 0 })

-- Two slots' blocks are the same: both none, or both of one number.
abbrev pub same_block : Option ℕ → Option ℕ → Bool
same_block None None = true
same_block None (Some b) = false
same_block (Some a) None = false
same_block (Some a) (Some b) = a == b

-- A slot keeps this block, or with none is vacant.
abbrev pub keeps : Option ℕ → Slot → Bool
keeps o s = same_block s.block o

-- The first slot that does, by its place.
abbrev pub place : List Slot → Option ℕ → Option ℕ
place slots o = position_from (keeps o) 0 slots

-- The bytes that are kept of block b: those in its first slot.
abbrev pub kept : List Slot → ℕ → Option (List ℕ)
kept [] b = None
kept (s ∷ ss) b = cond (same_block s.block (Some b)) (Some s.bytes) (kept ss b)

-- A kept block is what a write of the kept bytes makes of the block below: so a slot counts only while its block is open there. Any other block is as below.
abbrev pub over : Option (List ℕ) → Block → Block
over None k = k
over (Some bytes) k = taken bytes k

-- The blocks of the store below with each kept one over its own.
abbrev pub cached : List Block → List Slot → List Block
cached bs slots = each (λ i. over (kept slots i)) bs

-- What a cache shows of what the store below means.
abbrev pub cached_by : {S : Type 0} → (S → List Block) → Cache S → List Block
cached_by below c = cached (below c.below) c.slots

-- Which block is given up for a ninth is free. Ours is the one in the slot whose turn it is; the turn goes round the eight.
abbrev pub turn_place : ℕ → ℕ
turn_place turn = turn % 8

-- The block that is given up: the one in the slot whose turn it is, or none where that slot is vacant.
abbrev pub given_up : List Slot → ℕ → Option ℕ
given_up slots turn = (slice_index_or slots (turn_place turn) no_slot).block

-- A block is given up only where the block to keep is not kept yet and no slot is vacant. Every slot that keeps a block counts as one of the
-- eight, whether or not that block is open below.
abbrev pub is_ninth : List Slot → ℕ → Bool
is_ninth slots b = not (is_some (place slots (Some b))) && not (is_some (place slots None))

-- Bytes that are kept of block b are written below, changed or not; where none are, nothing is.
abbrev pub put_bytes : List Block → ℕ → Option (List ℕ) → List Block
put_bytes bs b None = bs
put_bytes bs b (Some bytes) = written bs b bytes

-- The blocks below after a block was given up: written with what is kept of it; where none is, as they were.
abbrev pub put_below : List Block → List Slot → Option ℕ → List Block
put_below bs slots None = bs
put_below bs slots (Some b) = put_bytes bs b (kept slots b)

-- A slot that keeps block b is made vacant.
abbrev pub without : ℕ → Slot → Slot
without b s = record { block = cond (same_block s.block (Some b)) None s.block; bytes = s.bytes }

-- The slots after a block was given up: none keeps it any more.
abbrev pub forgotten : List Slot → Option ℕ → List Slot
forgotten slots None = slots
forgotten slots (Some b) = map (without b) slots

-- The first of two places that there is.
abbrev pub or_else : Option ℕ → ℕ → ℕ
or_else (Some i) j = i
or_else None j = j

-- The place of the slot that a block is put in: its own, else the first vacant one, else the one whose turn it is.
abbrev pub place_for : List Slot → ℕ → ℕ → ℕ
place_for slots turn b = or_else (place slots (Some b)) (or_else (place slots None) (turn_place turn))

-- What a cache holds: the slots, what the store below means, and the turn.
pub record Held : Type 0 where
  pub slots : List Slot
  pub below : List Block
  pub turn : ℕ

-- What a cache holds; `blocks` says what the store below means.
abbrev pub held : {S : Type 0} → (S → List Block) → Cache S → Held
held blocks c = record { slots = c.slots; below = blocks c.below; turn = c.turn }

-- What it means.
abbrev pub means : Held → List Block
means h = cached h.below h.slots

-- A block is given up: written below, and kept no more.
abbrev pub without_block : Held → Option ℕ → Held
without_block h o = record { slots = forgotten h.slots o; below = put_below h.below h.slots o; turn = h.turn }

-- The slot whose turn it is gives its block up, and then it is the next slot's turn.
abbrev pub giving_up : Held → Held
giving_up h = record {
  slots = forgotten h.slots (given_up h.slots h.turn);
  below = put_below h.below h.slots (given_up h.slots h.turn);
  turn = turn_place h.turn + 1;
}

-- Room is made for block b: another is given up for it only if it is a ninth.
abbrev pub with_room : Held → ℕ → Held
with_room h b = cond (is_ninth h.slots b) (giving_up h) h

-- Slot p keeps block b with these bytes.
abbrev pub put_at : Held → ℕ → ℕ → List ℕ → Held
put_at h p b bytes = record { slots = slice_set h.slots p (slot b bytes); below = h.below; turn = h.turn }

-- Block b is kept with these bytes, after another has given way if it has to.
abbrev pub keeping : Held → ℕ → List ℕ → Held
keeping h b bytes = put_at (with_room h b) (place_for h.slots h.turn b) b bytes

-- A read gave the bytes of a block that is open below. Only an open block is kept, once its bytes were read or written.
abbrev pub was_read : Held → ℕ → List ℕ → Bool
was_read h b buffer = is_open_at (slice_get h.below b) && is_ok (read_answer (means h) b buffer)

-- What a cache holds after a read: the block is kept with the bytes that were read, if it is open; else nothing has changed.
abbrev pub after_read : Held → ℕ → List ℕ → Held
after_read h b buffer = cond (was_read h b buffer) (keeping h b (read_buffer (means h) b buffer)) h

-- What a cache holds after a write: a block that took the bytes is kept with them; else nothing has changed.
abbrev pub after_write : Held → ℕ → List ℕ → Held
after_write h b bytes = cond (is_ok (write_answer (means h) b bytes)) (keeping h b bytes) h

-- In what a cache means a slot counts only while its block is open below. This is that every slot that keeps a block counts: then the eight slots
-- that a ninth block finds full keep eight open blocks.
abbrev pub AllCount : Held → Type 0
AllCount h = (i : ℕ) (y : List ℕ) → kept h.slots i ≡ Some y → is_open_at (slice_get h.below i) ≡ true

-- What that comes to, for whoever asks what is kept and what has been written below. Either nothing is given up: the store below and all other kept blocks stay.
abbrev pub Stays : Held → Held → ℕ → Type 0
Stays before after b = (after.below ≡ before.below) × ((i : ℕ) → (i ≢ b) → kept after.slots i ≡ kept before.slots i)

-- Or block b is a ninth, since it is not kept and every slot keeps a block; and one kept block gives way: it is written below and kept no more,
-- and nothing else is changed.
pub record GivesWay (before after : Held) (b j : ℕ) (bytes : List ℕ) : Type 0 where
  pub ninth : (kept before.slots b ≡ None) × (place before.slots None ≡ None)
  pub was_kept : kept before.slots j ≡ Some bytes
  pub gone : kept after.slots j ≡ None
  pub below : after.below ≡ written before.below j bytes
  pub others : (i : ℕ) → (i ≢ b) → (i ≢ j) → kept after.slots i ≡ kept before.slots i

-- And block b is kept with its bytes. Where it is open below, every slot that keeps a block counts afterwards, if every one did before.
pub record KeptLate (before after : Held) (b : ℕ) (bytes : List ℕ) : Type 0 where
  pub own : kept after.slots b ≡ Some bytes
  pub rest : Stays before after b ⊎ ((j : ℕ) × ((y : List ℕ) × GivesWay before after b j y))
  pub counts : is_open_at (slice_get before.below b) ≡ true → AllCount before → AllCount after

-- Settling writes every slot's block below, one after the other.
abbrev pub put_slot : List Block → Option ℕ → List ℕ → List Block
put_slot bs None bytes = bs
put_slot bs (Some b) bytes = written bs b bytes

-- What it holds after settling: every kept block is written below, and stays kept.
abbrev pub after_settle : Held → Held
after_settle h = record { slots = h.slots; below = means h; turn = h.turn }

-- Block i of the cached store, which has as many blocks as the store.
module _ (bs : List Block) (slots : List Slot) where
  pub length_cached : length (cached bs slots) ≡ length bs
  length_cached = length_each (λ i. over (kept slots i)) bs

  pub nth_cached : (i : ℕ) → slice_get (cached bs slots) i ≡ option_map (over (kept slots i)) (slice_get bs i)
  nth_cached i = nth_each (λ j. over (kept slots j)) bs i

  whole_taken : (bytes : List ℕ) (k : Block) (p : Protection) → WholeOf k.contents → WholeOf (taken_of bytes k p).contents
  whole_taken bytes k protections.Open h = elim (cases_Bool (length bytes == 256)) [ inl t ↦ rw t (eqb-true (length bytes) 256 t) | inr t ↦ rw t h ]
  whole_taken bytes k protections.Protected h = h

  whole_over : (o : Option Block) (f : Option (List ℕ)) → Whole o → Whole (option_map (over f) o)
  whole_over None f h = h
  whole_over (Some k) None h = h
  whole_over (Some k) (Some bytes) h = whole_taken bytes k k.protection h

  pub cached_sized : Sized bs → Sized (cached bs slots)
  cached_sized s = record {
    few = rw length_cached s.few;
    whole = λ i. subst Whole (sym (nth_cached i)) (whole_over (slice_get bs i) (kept slots i) (s.whole i));
  }
