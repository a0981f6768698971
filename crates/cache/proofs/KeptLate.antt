-- A kept block gives way only to a ninth, and is written below only then.
use Rattle.std.proofs.Common.{◌≡◌, ℕ, zero, suc, ◌+◌, ◌<◌, Bool, true, false, cond, not, ◌&&◌, ◌⊎◌, List, [], ◌∷◌, length, get_or, is_some, Some, None, Option, sym, refl, ap, ◌∙◌, inl, inr, arith}
use Rattle.std.specs.List.{slice_get, position_from}
use Rattle.std.specs.Option.{option_map}
use Rattle.std.proofs.lemmas.Bool.{eq-eqb, cases_eq}
use Rattle.std.proofs.lemmas.Option.{none-some}
use Rattle.store.specs.Blocks.{Block, taken, written, is_open, is_open_at}
use Rattle.store.proofs.Writes.{nth_written_same, nth_written_other, protection_taken}
use Rattle.cache.specs.declared.slot.Slot.{Slot}
use Rattle.cache.specs.Caches.{no_slot, same_block, keeps, place, kept, turn_place, given_up, put_bytes, put_below, forgotten, or_else, Held, giving_up, put_at, keeping, AllCount, Stays, GivesWay, KeptLate}
use Rattle.cache.proofs.SlotFacts.{first_place, first_within, first_block, none_kept, Room, room_own, room_vacant, kept_put, kept_put_other, kept_forgotten, kept_forgotten_other}
use Rattle.cache.proofs.CacheFacts.{ninth_room}

-- where no slot is vacant, each keeps a block, and of that block something is kept
full_from : (i : ℕ) (slots : List Slot) (q : ℕ) → position_from (keeps None) i slots ≡ None → q < length slots → (g : ℕ) × ((get_or slots q no_slot).block ≡ Some g)
full_from i [] q e h = absurd (omega arith)
full_from i (s ∷ ss) q e h = go s.block refl q h (λ r l. full_from (i + 1) ss r l) e
  where
    go : (o : Option ℕ) → s.block ≡ o → (p : ℕ) → p < suc (length ss)
        → ((r : ℕ) → position_from (keeps None) (i + 1) ss ≡ None → r < length ss → (g : ℕ) × ((get_or ss r no_slot).block ≡ Some g))
        → cond (same_block o None) (Some i) (position_from (keeps None) (i + 1) ss) ≡ None → (g : ℕ) × ((get_or (s ∷ ss) p no_slot).block ≡ Some g)
    go None f p l rest v = cc
    go (Some g) f zero l rest v = (g, f)
    go (Some g) f (suc p) l rest v = rest p v (omega arith)

some_kept : (slots : List Slot) (q g : ℕ) → q < length slots → (get_or slots q no_slot).block ≡ Some g → (y : List ℕ) × (kept slots g ≡ Some y)
some_kept [] q g h e = absurd (omega arith)
some_kept (s ∷ ss) zero g h e = (s.bytes, ap (λ o. cond (same_block o (Some g)) (Some s.bytes) (kept ss g)) e ∙ ap (λ t. cond t (Some s.bytes) (kept ss g)) (eq-eqb g g refl))
some_kept (s ∷ ss) (suc q) g h e = go (same_block s.block (Some g)) (some_kept ss q g (omega arith) e)
  where
    go : (t : Bool) → (y : List ℕ) × (kept ss g ≡ Some y) → (y : List ℕ) × (cond t (Some s.bytes) (kept ss g) ≡ Some y)
    go true r = (s.bytes, refl)
    go false r = r

-- a write changes no protection
open_written : (bs : List Block) (j : ℕ) (bytes : List ℕ) (i : ℕ) → is_open_at (slice_get (written bs j bytes) i) ≡ is_open_at (slice_get bs i)
open_written bs j bytes i = elim (cases_eq i j) [
  | inl e ↦
      ap (λ k. is_open_at (slice_get (written bs j bytes) k)) e
      ∙ ap is_open_at (nth_written_same bs j bytes)
      ∙ at (slice_get bs j)
      ∙ ap (λ k. is_open_at (slice_get bs k)) (sym e)
  | inr ne ↦ ap is_open_at (nth_written_other bs j bytes i ne)
]
  where
    at : (o : Option Block) → is_open_at (option_map (taken bytes) o) ≡ is_open_at o
    at None = refl
    at (Some k) = ap is_open (protection_taken bytes k k.protection refl)

-- every slot that keeps a block counts, where an open block is kept and every slot counted before
counts_from : (before after : Held) (b : ℕ) → Stays before after b ⊎ ((j : ℕ) × ((y : List ℕ) × GivesWay before after b j y))
    → is_open_at (slice_get before.below b) ≡ true → AllCount before → AllCount after
counts_from before after b (inl s) free all i y e =
    ap (λ l. is_open_at (slice_get l i)) s.0
    ∙ elim (cases_eq i b) [ inl f ↦ ap (λ k. is_open_at (slice_get before.below k)) f ∙ free | inr ne ↦ all i y (sym (s.1 i ne) ∙ e) ]
counts_from before after b (inr (j, (x, g))) free all i y e =
    ap (λ l. is_open_at (slice_get l i)) g.below
    ∙ open_written before.below j x i
    ∙ elim (cases_eq i b) [
      | inl f ↦ ap (λ k. is_open_at (slice_get before.below k)) f ∙ free
      | inr nb ↦
          elim (cases_eq i j) [
            | inl f ↦ absurd (none-some _ (sym g.gone ∙ ap (kept after.slots) (sym f) ∙ e))
            | inr nj ↦ all i y (sym (g.others i nb nj) ∙ e)
          ]
    ]

-- what is kept late, from what becomes of the other blocks
late_from : (before after : Held) (b : ℕ) (bytes : List ℕ) → kept after.slots b ≡ Some bytes
    → Stays before after b ⊎ ((j : ℕ) × ((y : List ℕ) × GivesWay before after b j y)) → KeptLate before after b bytes
late_from before after b bytes own rest = record { own = own; rest = rest; counts = counts_from before after b rest }

module _ (h : Held) (b : ℕ) (bytes : List ℕ) (whole : length bytes ≡ 256) (eight : length h.slots ≡ 8) where
  -- with room in the slots as they are, nothing gives way
  roomy : (q : ℕ) → Room h.slots b q → KeptLate h (put_at h q b bytes) b bytes
  roomy q room = late_from h (put_at h q b bytes) b bytes (kept_put b bytes h.slots q room) (inl (refl, λ i ne. kept_put_other b bytes i ne h.slots q room))

  ninth : place h.slots (Some b) ≡ None → place h.slots None ≡ None → KeptLate h (put_at (giving_up h) (turn_place h.turn) b bytes) b bytes
  ninth own vacant =
      let at : turn_place h.turn < length h.slots = omega arith in
      let full = full_from 0 h.slots (turn_place h.turn) vacant at in
      let held = some_kept h.slots (turn_place h.turn) full.0 at full.1 in
      way full.0 held.0 full.1 held.1
    where
      way : (g : ℕ) (y : List ℕ) → given_up h.slots h.turn ≡ Some g → kept h.slots g ≡ Some y → KeptLate h (put_at (giving_up h) (turn_place h.turn) b bytes) b bytes
      way g y e k =
          let none = none_kept h.slots b own in
          let room = ninth_room h b bytes whole eight none in
          let apart : g ≡ b → ⊥ = λ f. let c : Some y ≡ None = sym k ∙ ap (kept h.slots) f ∙ none in cc in
          late_from h (put_at (giving_up h) (turn_place h.turn) b bytes) b bytes (kept_put b bytes (giving_up h).slots (turn_place h.turn) room)
          (inr (
            g,
            (
              y,
              record {
                ninth = (none, vacant);
                was_kept = k;
                gone = kept_put_other b bytes g apart (giving_up h).slots (turn_place h.turn) room ∙ ap (λ o. kept (forgotten h.slots o) g) e ∙ kept_forgotten g h.slots;
                below = ap (put_below h.below h.slots) e ∙ ap (put_bytes h.below g) k;
                others = λ i nb ng. kept_put_other b bytes i nb (giving_up h).slots (turn_place h.turn) room ∙ ap (λ o. kept (forgotten h.slots o) i) e ∙ kept_forgotten_other g i ng h.slots;
              },
            ),
          ))

  ways : (own vacant : Option ℕ) → place h.slots (Some b) ≡ own → place h.slots None ≡ vacant
      → KeptLate h (put_at (cond (not (is_some own) && not (is_some vacant)) (giving_up h) h) (or_else own (or_else vacant (turn_place h.turn))) b bytes) b bytes
  ways (Some p) vacant e f = roomy p (room_own h.slots b p (first_place h.slots (Some b) p e))
  ways None (Some p) e f =
      let first = first_place h.slots None p f in
      roomy p (room_vacant h.slots b p (first_within h.slots None p first) (none_kept h.slots b e) (first_block h.slots None p first))
  ways None None e f = ninth e f

  pub keeping_late : KeptLate h (keeping h b bytes) b bytes
  keeping_late = ways (place h.slots (Some b)) (place h.slots None) refl refl
