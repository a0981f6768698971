-- What a cache means, before and after a block is kept, given up or settled.
use Rattle.std.proofs.Common.{◌≡◌, ℕ, zero, suc, Bool, true, false, cond, not, ◌&&◌, eqb, List, [], ◌∷◌, map, length, get_or, set, is_some, is_ok, Some, None, Ok, Err, Option, Result, sym, refl, ap, ◌∙◌, inl, inr, arith}
use Rattle.std.specs.List.{slice_get}
use Rattle.std.specs.Option.{option_map}
use Rattle.std.specs.Result.{result_eq}
use Rattle.std.proofs.lemmas.List.{length-map, set-get_or}
use Rattle.std.proofs.lemmas.Bool.{cases_Bool, cases_eq}
use Rattle.store.specs.declared.fault.StoreFault.{StoreFault}
use Rattle.store.specs.declared.fault.Protection.{Protection}
use Rattle.store.specs.declared.fault.Protection.TheVariants as protections
use Rattle.store.specs.Blocks.{Block, Contents, sound, damaged, open_block, read_of, read_at, read_answer, buffer_of, buffer_at, read_buffer, taken, taken_of, write_of, write_at, write_answer, written, protection_at, protection_answer, is_open, is_open_at}
use Rattle.store.proofs.Nth.{same_nth}
use Rattle.store.proofs.Writes.{nth_written_same, nth_written_other, protection_taken, refused_same}
use Rattle.cache.specs.declared.slot.Slot.{Slot}
use Rattle.cache.specs.Caches.{slot, no_slot, place, kept, over, cached, turn_place, given_up, put_bytes, put_below, without, forgotten, or_else, Held, means, giving_up, put_at, keeping, after_read, after_write, vacant_slots, put_slot, same_block, WholeBytes, WholeSlot, nth_cached}
use Rattle.cache.proofs.SlotFacts.{first_place, first_within, first_block, first_kept, none_kept, Room, room_own, room_vacant, kept_put, kept_put_other, kept_forgotten, kept_forgotten_other, forgotten_block}

-- A block that is written twice is as if the first write had not been, and the same write again changes nothing.
taken_over : (x y : List ℕ) (k : Block) → length x ≡ 256 → taken x (taken y k) ≡ taken x k
taken_over x y k whole = of k.protection refl
  where
    of : (p : Protection) → k.protection ≡ p → taken x (taken_of y k p) ≡ taken_of x k p
    of protections.Open e = elim (cases_Bool (eqb (length y) 256)) [ inl t ↦ rw (t, whole) refl | inr t ↦ rw (t, e) refl ]
    of protections.Protected e = rw e refl

taken_again : (y : List ℕ) (k : Block) → taken y (taken y k) ≡ taken y k
taken_again y k = of k.protection refl
  where
    of : (p : Protection) → k.protection ≡ p → taken y (taken_of y k p) ≡ taken_of y k p
    of protections.Open e = elim (cases_Bool (eqb (length y) 256)) [ inl t ↦ rw t (rw t refl) | inr t ↦ rw t (rw e (rw t refl)) ]
    of protections.Protected e = rw e refl

over_none : (o : Option Block) → option_map (over None) o ≡ o
over_none None = refl
over_none (Some k) = refl

-- Two caches mean the same if they show the same at each place.
module _ (bs cs : List Block) (ss rs : List Slot) where
  same_cached : ((j : ℕ) → option_map (over (kept ss j)) (slice_get bs j) ≡ option_map (over (kept rs j)) (slice_get cs j)) → cached bs ss ≡ cached cs rs
  same_cached h = same_nth (cached bs ss) (cached cs rs) (λ j. nth_cached bs ss j ∙ h j ∙ sym (nth_cached cs rs j))

-- Giving a block up, written below, changes no meaning.
module _ (bs : List Block) (slots : List Slot) (g : ℕ) where
  give_up_one : (o : Option (List ℕ)) → kept slots g ≡ o → (j : ℕ) → option_map (over (kept (map (without g) slots) j)) (slice_get (put_bytes bs g o) j) ≡ option_map (over (kept slots j)) (slice_get bs j)
  give_up_one o e j =
      elim (cases_eq j g) [
        | inl f ↦
            ap (λ i. option_map (over (kept (map (without g) slots) i)) (slice_get (put_bytes bs g o) i)) f
            ∙ ap (λ p. option_map (over p) (slice_get (put_bytes bs g o) g)) (kept_forgotten g slots)
            ∙ over_none (slice_get (put_bytes bs g o) g)
            ∙ here o
            ∙ sym (ap (λ p. option_map (over p) (slice_get bs g)) e)
            ∙ sym (ap (λ i. option_map (over (kept slots i)) (slice_get bs i)) f)
        | inr ne ↦
            ap (λ p. option_map (over p) (slice_get (put_bytes bs g o) j)) (kept_forgotten_other g j ne slots)
            ∙ ap (option_map (over (kept slots j))) (elsewhere o ne)
      ]
    where
      here : (p : Option (List ℕ)) → slice_get (put_bytes bs g p) g ≡ option_map (over p) (slice_get bs g)
      here None = sym (over_none (slice_get bs g))
      here (Some y) = nth_written_same bs g y

      elsewhere : (p : Option (List ℕ)) → (j ≡ g → ⊥) → slice_get (put_bytes bs g p) j ≡ slice_get bs j
      elsewhere None ne = refl
      elsewhere (Some y) ne = nth_written_other bs g y j ne

give_up : (bs : List Block) (slots : List Slot) (o : Option ℕ) → cached (put_below bs slots o) (forgotten slots o) ≡ cached bs slots
give_up bs slots None = refl
give_up bs slots (Some g) = same_cached (put_bytes bs g (kept slots g)) bs (map (without g) slots) slots (give_up_one bs slots g (kept slots g) refl)

-- Putting a block in a slot that has room for it is a write to what the cache means.
module _ (bs : List Block) (slots : List Slot) (b q : ℕ) (bytes : List ℕ) (room : Room slots b q) (whole : length bytes ≡ 256) where
  pub put_in : cached bs (set slots q (slot b bytes)) ≡ written (cached bs slots) b bytes
  put_in = same_nth (cached bs (set slots q (slot b bytes))) (written (cached bs slots) b bytes) (λ j.
      nth_cached bs (set slots q (slot b bytes)) j
      ∙ elim (cases_eq j b) [
        | inl e ↦
            ap (λ i. option_map (over (kept (set slots q (slot b bytes)) i)) (slice_get bs i)) e
            ∙ ap (λ o. option_map (over o) (slice_get bs b)) (kept_put b bytes slots q room)
            ∙ sym (twice (kept slots b) (slice_get bs b))
            ∙ ap (option_map (taken bytes)) (sym (nth_cached bs slots b))
            ∙ sym (nth_written_same (cached bs slots) b bytes)
            ∙ ap (slice_get (written (cached bs slots) b bytes)) (sym e)
        | inr ne ↦
            ap (λ o. option_map (over o) (slice_get bs j)) (kept_put_other b bytes j ne slots q room)
            ∙ sym (nth_cached bs slots j)
            ∙ sym (nth_written_other (cached bs slots) b bytes j ne)
      ])
    where
      twice : (f : Option (List ℕ)) (o : Option Block) → option_map (taken bytes) (option_map (over f) o) ≡ option_map (taken bytes) o
      twice f None = refl
      twice None (Some k) = refl
      twice (Some y) (Some k) = ap Some (taken_over bytes y k whole)

-- So keeping a block is a write to what the cache means, wherever the block is put.
module _ (h : Held) (b : ℕ) (bytes : List ℕ) (whole : length bytes ≡ 256) (eight : length h.slots ≡ 8) where
  gone : kept h.slots b ≡ None → (o : Option ℕ) → kept (forgotten h.slots o) b ≡ None
  gone none None = none
  gone none (Some g) = elim (cases_eq b g) [ inl e ↦ ap (kept (map (without g) h.slots)) e ∙ kept_forgotten g h.slots | inr ne ↦ kept_forgotten_other g b ne h.slots ∙ none ]

  left : (o : Option ℕ) → given_up h.slots h.turn ≡ o → (get_or (forgotten h.slots o) (turn_place h.turn) no_slot).block ≡ None
  left None e = e
  left (Some g) e = forgotten_block g h.slots (turn_place h.turn) e

  length_forgotten : (o : Option ℕ) → length (forgotten h.slots o) ≡ 8
  length_forgotten None = eight
  length_forgotten (Some g) = length-map h.slots (without g) ∙ eight

  pub ninth_room : kept h.slots b ≡ None → Room (giving_up h).slots b (turn_place h.turn)
  ninth_room none =
      let o = given_up h.slots h.turn in
      let l = length_forgotten (given_up h.slots h.turn) in
      room_vacant (giving_up h).slots b (turn_place h.turn) (omega arith) (gone none o) (left o refl)

  ways : (own vacant : Option ℕ) → place h.slots (Some b) ≡ own → place h.slots None ≡ vacant
      → means (put_at (cond (not (is_some own) && not (is_some vacant)) (giving_up h) h) (or_else own (or_else vacant (turn_place h.turn))) b bytes) ≡ written (means h) b bytes
  ways (Some p) vacant e f = put_in h.below h.slots b p bytes (room_own h.slots b p (first_place h.slots (Some b) p e)) whole
  ways None (Some p) e f =
      let first = first_place h.slots None p f in
      put_in h.below h.slots b p bytes (room_vacant h.slots b p (first_within h.slots None p first) (none_kept h.slots b e) (first_block h.slots None p first)) whole
  ways None None e f =
      put_in (giving_up h).below (giving_up h).slots b (turn_place h.turn) bytes (ninth_room (none_kept h.slots b e)) whole
      ∙ ap (λ l. written l b bytes) (give_up h.below h.slots (given_up h.slots h.turn))

  pub keeping_written : means (keeping h b bytes) ≡ written (means h) b bytes
  keeping_written = ways (place h.slots (Some b)) (place h.slots None) refl refl

-- A cache that keeps nothing means what the store below means.
pub cached_vacant : (bs : List Block) → cached bs vacant_slots ≡ bs
cached_vacant bs = same_nth (cached bs vacant_slots) bs (λ j. nth_cached bs vacant_slots j ∙ over_none (slice_get bs j))

-- What is kept changes neither a block's protection nor, unless it is open, anything else of it.
module _ (bs : List Block) (slots : List Slot) (b : ℕ) where
  pub cached_protection : protection_answer bs b ≡ protection_answer (cached bs slots) b
  cached_protection = at (slice_get bs b) (kept slots b) ∙ ap (protection_at b) (sym (nth_cached bs slots b))
    where
      at : (o : Option Block) (f : Option (List ℕ)) → protection_at b o ≡ protection_at b (option_map (over f) o)
      at None f = refl
      at (Some k) None = refl
      at (Some k) (Some y) = ap Ok (sym (protection_taken y k k.protection refl))

  pub unkept_same : kept slots b ≡ None → slice_get (cached bs slots) b ≡ slice_get bs b
  unkept_same e = nth_cached bs slots b ∙ ap (λ f. option_map (over f) (slice_get bs b)) e ∙ over_none (slice_get bs b)

  pub shut_same : is_open_at (slice_get bs b) ≡ false → slice_get (cached bs slots) b ≡ slice_get bs b
  shut_same e = nth_cached bs slots b ∙ at (slice_get bs b) (kept slots b) e
    where
      of : (y : List ℕ) (k : Block) (p : Protection) → is_open p ≡ false → taken_of y k p ≡ k
      of y k protections.Open f = cc
      of y k protections.Protected f = refl

      at : (o : Option Block) (f : Option (List ℕ)) → is_open_at o ≡ false → option_map (over f) o ≡ o
      at None f h = refl
      at (Some k) None h = refl
      at (Some k) (Some y) h = ap Some (of y k k.protection h)

  pub open_kept : (y : List ℕ) → is_open_at (slice_get bs b) ≡ true → kept slots b ≡ Some y → length y ≡ 256 → slice_get (cached bs slots) b ≡ Some (open_block y)
  open_kept y o e whole = nth_cached bs slots b ∙ ap (λ f. option_map (over f) (slice_get bs b)) e ∙ at (slice_get bs b) o
    where
      of : (k : Block) (p : Protection) → is_open p ≡ true → taken_of y k p ≡ open_block y
      of k protections.Open f = rw whole refl
      of k protections.Protected f = cc

      at : (p : Option Block) → is_open_at p ≡ true → option_map (taken y) p ≡ Some (open_block y)
      at None f = cc
      at (Some k) f = ap Some (of k k.protection f)

-- A block that is read anew and kept is meant as before.
set_nth : (bs : List Block) (b : ℕ) (k : Block) → slice_get bs b ≡ Some k → set bs b k ≡ bs
set_nth [] b k e = refl
set_nth (x ∷ xs) zero k e = let f : x ≡ k = cc in ap (λ y. y ∷ xs) (sym f)
set_nth (x ∷ xs) (suc b) k e = ap (λ l. x ∷ l) (set_nth xs b k e)

rewritten : (bs : List Block) (b : ℕ) (bytes : List ℕ) → slice_get bs b ≡ Some (open_block bytes) → written bs b bytes ≡ bs
rewritten bs b bytes e = elim (cases_Bool (eqb (length bytes) 256)) [ inl t ↦ rw t (rw e (set_nth bs b (open_block bytes) e)) | inr t ↦ rw t refl ]

module _ (bs : List Block) (slots : List Slot) (b : ℕ) (buffer : List ℕ) (whole : length buffer ≡ 256) where
  pub read_anew : is_open_at (slice_get bs b) ≡ true → kept slots b ≡ None → cond (is_ok (read_answer bs b buffer)) (written (cached bs slots) b (read_buffer bs b buffer)) (cached bs slots) ≡ cached bs slots
  read_anew o e = rw whole (at (slice_get bs b) o (unkept_same bs slots b e))
    where
      of : (x : Contents) (p : Protection) → is_open p ≡ true → slice_get (cached bs slots) b ≡ Some (record { contents = x; protection = p }) → cond (is_ok (read_of b x)) (written (cached bs slots) b (buffer_of buffer x)) (cached bs slots) ≡ cached bs slots
      of (sound y) protections.Open f e = rewritten (cached bs slots) b y e
      of (sound y) protections.Protected f e = cc
      of damaged p f e = refl

      at : (k : Option Block) → is_open_at k ≡ true → slice_get (cached bs slots) b ≡ k → cond (is_ok (read_at b k)) (written (cached bs slots) b (buffer_at buffer k)) (cached bs slots) ≡ cached bs slots
      at None f e = refl
      at (Some k) f e = of k.contents k.protection f e

-- The answer to a write is the one below, since what is kept changes no protection.
abbrev pub admitted : Result Protection StoreFault → ℕ → Result (Unit {0}) StoreFault
admitted (Ok p) b = write_of b p
admitted (Err e) b = Err e

module _ (bs : List Block) (slots : List Slot) (b : ℕ) (bytes : List ℕ) (whole : length bytes ≡ 256) where
  pub admitted_write : admitted (protection_answer bs b) b ≡ write_answer (cached bs slots) b bytes
  admitted_write = rw whole (at (slice_get bs b) (kept slots b) ∙ ap (write_at b) (sym (nth_cached bs slots b)))
    where
      at : (o : Option Block) (f : Option (List ℕ)) → admitted (protection_at b o) b ≡ write_at b (option_map (over f) o)
      at None f = refl
      at (Some k) None = refl
      at (Some k) (Some y) = ap (write_of b) (sym (protection_taken y k k.protection refl))

-- A write that is refused changes nothing of what the cache means or holds.
pub refused_write : (h : Held) (b : ℕ) (bytes : List ℕ) (e : StoreFault) → Err e ≡ write_answer (means h) b bytes → (means h ≡ written (means h) b bytes) × (h ≡ after_write h b bytes)
refused_write h b bytes e answer = (sym (refused_same (means h) b bytes e (sym answer)), ap (λ r. cond (is_ok r) (keeping h b bytes) h) answer)

-- The answer to the protection question, compared with that of an open block, tells whether the block is open.
pub compared_open :
    (E : Protection → Protection → Bool) (F : StoreFault → StoreFault → Bool) → E protections.Open protections.Open ≡ true → E protections.Protected protections.Open ≡ false
    → (o : Option Block) (b : ℕ) → not (result_eq E F (protection_at b o) (Ok protections.Open)) ≡ not (is_open_at o)
compared_open E F same apart None b = refl
compared_open E F same apart (Some k) b = of k.protection
  where
    of : (p : Protection) → not (E p protections.Open) ≡ not (is_open p)
    of protections.Open = ap not same
    of protections.Protected = ap not apart

-- What a cache holds, part by part.
pub same_held : {s s2 : List Slot} {b b2 : List Block} {t t2 : ℕ} → s ≡ s2 → b ≡ b2 → t ≡ t2 → ◌≡◌ {A = Held} (record { slots = s; below = b; turn = t }) (record { slots = s2; below = b2; turn = t2 })
same_held p q r = cc

-- Keeping a block again with the bytes that are kept of it changes nothing.
pub keeping_again : (h : Held) (b p : ℕ) → place h.slots (Some b) ≡ Some p → keeping h b (get_or h.slots p no_slot).bytes ≡ h
keeping_again h b p e =
    let first = first_place h.slots (Some b) p e in
    ap (λ o. put_at (cond (not (is_some o) && not (is_some (place h.slots None))) (giving_up h) h) (or_else o (or_else (place h.slots None) (turn_place h.turn))) b (get_or h.slots p no_slot).bytes) e
    ∙ ap (λ o. put_slots (set h.slots p (record { block = o; bytes = (get_or h.slots p no_slot).bytes }))) (sym (first_block h.slots (Some b) p first))
    ∙ ap put_slots (set-get_or h.slots p no_slot)
  where
    put_slots : List Slot → Held
    put_slots l = record { slots = l; below = h.below; turn = h.turn }

-- Settling: every slot's block is written below, the last slot first, and then the store below means what the cache means.
abbrev pub put_all : List Block → List Slot → List Block
put_all bs [] = bs
put_all bs (s ∷ ss) = put_slot (put_all bs ss) s.block s.bytes

abbrev pub WholeSlots : List Slot → Type 0
WholeSlots [] = Unit {0}
WholeSlots (s ∷ ss) = WholeSlot s × WholeSlots ss

put_one : (bs : List Block) (s : Slot) (ss : List Slot) (o : Option ℕ) → s.block ≡ o → WholeBytes o s.bytes → put_slot (cached bs ss) o s.bytes ≡ cached bs (s ∷ ss)
put_one bs s ss None e w = same_cached bs bs ss (s ∷ ss) (λ j. sym (ap (λ o. option_map (over (cond (same_block o (Some j)) (Some s.bytes) (kept ss j))) (slice_get bs j)) e))
put_one bs s ss (Some b) e w = sym (put_in bs (no_slot ∷ ss) b 0 s.bytes (inl refl) w) ∙ ap (λ o. cached bs (record { block = o; bytes = s.bytes } ∷ ss)) (sym e)

pub put_all_cached : (bs : List Block) (slots : List Slot) → WholeSlots slots → put_all bs slots ≡ cached bs slots
put_all_cached bs [] w = sym (same_nth (cached bs []) bs (λ j. nth_cached bs [] j ∙ over_none (slice_get bs j)))
put_all_cached bs (s ∷ ss) w = ap (λ l. put_slot l s.block s.bytes) (put_all_cached bs ss w.1) ∙ put_one bs s ss s.block refl w.0

pub settled_same : (bs : List Block) (slots : List Slot) → cached (cached bs slots) slots ≡ cached bs slots
settled_same bs slots = same_cached (cached bs slots) bs slots slots (λ j. ap (option_map (over (kept slots j))) (nth_cached bs slots j) ∙ twice (kept slots j) (slice_get bs j))
  where
    twice : (f : Option (List ℕ)) (o : Option Block) → option_map (over f) (option_map (over f) o) ≡ option_map (over f) o
    twice f None = refl
    twice None (Some k) = refl
    twice (Some y) (Some k) = ap Some (taken_again y k)

-- what `find` needs of the first slot of a block
pub kept_place : (slots : List Slot) (b : ℕ) → is_some (place slots (Some b)) ≡ is_some (kept slots b)
kept_place slots b = at (place slots (Some b)) refl
  where
    at : (o : Option ℕ) → place slots (Some b) ≡ o → is_some o ≡ is_some (kept slots b)
    at None e = sym (ap is_some (none_kept slots b e))
    at (Some p) e = sym (ap is_some (first_kept slots b p (first_place slots (Some b) p e)))

-- Two stores with the same at block b read alike there; an open block that is sound is read.
pub same_read : (bs cs : List Block) (b : ℕ) (buffer : List ℕ) → slice_get bs b ≡ slice_get cs b → (read_answer bs b buffer ≡ read_answer cs b buffer) × (read_buffer bs b buffer ≡ read_buffer cs b buffer)
same_read bs cs b buffer e = (rw e, rw e)

pub open_read : (bs : List Block) (b : ℕ) (buffer bytes : List ℕ) → length buffer ≡ 256 → slice_get bs b ≡ Some (open_block bytes) → (Ok tt ≡ read_answer bs b buffer) × (bytes ≡ read_buffer bs b buffer)
open_read bs b buffer bytes whole e = (rw (whole, e), rw (whole, e))

-- What a cache holds after a read of an open block, by what the read came to.
module _ (h : Held) (b : ℕ) (buffer : List ℕ) (free : is_open_at (slice_get h.below b) ≡ true) where
  pub read_keeps : (r : Result (Unit {0}) StoreFault) (bytes : List ℕ) → r ≡ read_answer (means h) b buffer → bytes ≡ read_buffer (means h) b buffer → cond (is_ok r) (keeping h b bytes) h ≡ after_read h b buffer
  read_keeps r bytes e f =
      ap (λ x. cond (is_ok x) (keeping h b bytes) h) e
      ∙ ap (λ y. cond (is_ok (read_answer (means h) b buffer)) (keeping h b y) h) f
      ∙ sym (ap (λ t. cond (t && is_ok (read_answer (means h) b buffer)) (keeping h b (read_buffer (means h) b buffer)) h) free)
