-- Where no block is kept twice, the slot that keeps one is the only one to look at.
use Rattle.std.proofs.Common.{◌≡◌, ℕ, zero, suc, ◌<◌, Bool, true, false, cond, not, ◌&&◌, List, [], ◌∷◌, map, length, get_or, set, is_some, Some, None, Option, sym, refl, ap, ◌∙◌, inl, inr, arith}
use Rattle.std.specs.List.{slice_get}
use Rattle.std.specs.Option.{option_map}
use Rattle.std.proofs.lemmas.Bool.{eq-eqb, cases_eq}
use Rattle.std.proofs.lemmas.Option.{slice_get-get_or}
use Rattle.store.specs.Blocks.{Block, written}
use Rattle.store.proofs.Nth.{nth_set_same, nth_set_other}
use Rattle.cache.specs.declared.slot.Slot.{Slot}
use Rattle.cache.specs.Once.{Once}
use Rattle.cache.specs.Caches.{same_block, no_slot, place, kept, turn_place, given_up, put_bytes, put_below, without, forgotten, or_else, Held, giving_up, with_room, place_for}
use Rattle.cache.proofs.SlotFacts.{same_true, first_place, first_within, first_block, first_kept, none_kept, kept_forgotten, kept_forgotten_other}

not_same : (o : Option ℕ) (b : ℕ) → (o ≡ Some b → ⊥) → same_block o (Some b) ≡ false
not_same o b n = go (same_block o (Some b)) refl
  where
    go : (t : Bool) → same_block o (Some b) ≡ t → t ≡ false
    go true e = absurd (n (same_true o (Some b) e))
    go false e = refl

without_none : (b : ℕ) (s : Slot) → (s.block ≡ Some b → ⊥) → without b s ≡ s
without_none b s n = ap (λ t. record { block = cond t None s.block; bytes = s.bytes }) (not_same s.block b n)

without_here : (b : ℕ) (s : Slot) → s.block ≡ Some b → without b s ≡ record { block = None; bytes = s.bytes }
without_here b s e =
    ap (λ k. record { block = cond (same_block k (Some b)) None k; bytes = s.bytes }) e
    ∙ ap (λ t. record { block = cond t None (Some b); bytes = s.bytes }) (eq-eqb b b refl)

-- block b is in none of these slots
abbrev Unkept : List Slot → ℕ → Type 0
Unkept slots b = (j : ℕ) (t : Slot) → slice_get slots j ≡ Some t → t.block ≡ Some b → ⊥

unkept_map : (b : ℕ) (slots : List Slot) → Unkept slots b → map (without b) slots ≡ slots
unkept_map b [] u = refl
unkept_map b (s ∷ ss) u =
    let head = without_none b s (u 0 s refl) in
    let tail = unkept_map b ss (λ j. u (suc j)) in
    cc

unkept_none : (slots : List Slot) (b : ℕ) → kept slots b ≡ None → Unkept slots b
unkept_none [] b k j t e f = cc
unkept_none (s ∷ ss) b k zero t e f =
    let same : s ≡ t = cc in
    let here = first_kept (s ∷ ss) b 0 (ap (λ (x : Slot). x.block) same ∙ f) in
    let c : Some s.bytes ≡ None = sym here ∙ k in
    cc
unkept_none (s ∷ ss) b k (suc j) t e f = go (λ r. unkept_none ss b r j t e f) (same_block s.block (Some b)) k
  where
    go : (kept ss b ≡ None → ⊥) → (t : Bool) → cond t (Some s.bytes) (kept ss b) ≡ None → ⊥
    go rest true c = cc
    go rest false c = rest c

module _ (s : Slot) (ss : List Slot) (once : Once (s ∷ ss)) where
  once_tail : Once ss
  once_tail i j b x y e f g h = let k = once (suc i) (suc j) b x y e f g h in omega arith

  once_head : (b : ℕ) → s.block ≡ Some b → Unkept ss b
  once_head b g j t f h = let k : 0 ≡ suc j = once 0 (suc j) b s t refl f g h in absurd (omega arith)

  once_later : (b p : ℕ) → p < length ss → (get_or ss p no_slot).block ≡ Some b → s.block ≡ Some b → ⊥
  once_later b p l h g = once_head b g p (get_or ss p no_slot) (slice_get-get_or ss p no_slot l) h

-- the slot at p keeps block b: forgetting the block makes that slot vacant, and its bytes are those that are kept
forgotten_one : (b : ℕ) (slots : List Slot) (p : ℕ) → Once slots → p < length slots → (get_or slots p no_slot).block ≡ Some b → map (without b) slots ≡ set slots p (record { block = None; bytes = (get_or slots p no_slot).bytes })
forgotten_one b [] p o l e = absurd (omega arith)
forgotten_one b (s ∷ ss) zero o l e =
    let head = without_here b s e in
    let tail = unkept_map b ss (once_head s ss o b e) in
    cc
forgotten_one b (s ∷ ss) (suc p) o l e =
    let head = without_none b s (once_later s ss o b p (omega arith) e) in
    let tail = forgotten_one b ss p (once_tail s ss o) (omega arith) e in
    cc

kept_one : (b : ℕ) (slots : List Slot) (p : ℕ) → Once slots → p < length slots → (get_or slots p no_slot).block ≡ Some b → kept slots b ≡ Some (get_or slots p no_slot).bytes
kept_one b [] p o l e = absurd (omega arith)
kept_one b (s ∷ ss) zero o l e = first_kept (s ∷ ss) b 0 e
kept_one b (s ∷ ss) (suc p) o l e =
    ap (λ t. cond t (Some s.bytes) (kept ss b)) (not_same s.block b (once_later s ss o b p (omega arith) e))
    ∙ kept_one b ss p (once_tail s ss o) (omega arith) e

-- a slot may be filled with a block that no other slot keeps
pub once_set : (slots : List Slot) (p : ℕ) (x : Slot) → Once slots
    → ((b j : ℕ) (t : Slot) → x.block ≡ Some b → (j ≡ p → ⊥) → slice_get slots j ≡ Some t → t.block ≡ Some b → ⊥)
    → Once (set slots p x)
once_set slots p x o free i j b s t e f g h = elim (cases_eq i p) [
  | inl a ↦ elim (cases_eq j p) [ inl c ↦ a ∙ sym c | inr c ↦ absurd (free b j t (here i s a e ∙ g) c (other j t c f) h) ]
  | inr a ↦ elim (cases_eq j p) [ inl c ↦ absurd (free b i s (here j t c f ∙ h) a (other i s a e) g) | inr c ↦ o i j b s t (other i s a e) (other j t c f) g h ]
]
  where
    other : (k : ℕ) (u : Slot) → (k ≡ p → ⊥) → slice_get (set slots p x) k ≡ Some u → slice_get slots k ≡ Some u
    other k u n q = sym (nth_set_other slots p k x n) ∙ q

    of : (u : Slot) (w : Option Slot) → option_map (λ _. x) w ≡ Some u → x.block ≡ u.block
    of u None q = cc
    of u (Some y) q = let same : x ≡ u = cc in ap (λ (z : Slot). z.block) same

    here : (k : ℕ) (u : Slot) → k ≡ p → slice_get (set slots p x) k ≡ Some u → x.block ≡ u.block
    here k u a q = of u (slice_get slots p) (sym (nth_set_same slots p x) ∙ ap (slice_get (set slots p x)) (sym a) ∙ q)

-- a vacant slot keeps no block
pub once_vacant : (slots : List Slot) (p : ℕ) (bytes : List ℕ) → Once slots → Once (set slots p (record { block = None; bytes = bytes }))
once_vacant slots p bytes o = once_set slots p (record { block = None; bytes = bytes }) o (λ b j t e. cc)

-- a slot is flushed
pub flushed : (bs : List Block) (slots : List Slot) (p b : ℕ) → Once slots → p < length slots → (get_or slots p no_slot).block ≡ Some b
    → (set slots p (record { block = None; bytes = (get_or slots p no_slot).bytes }) ≡ forgotten slots (Some b)) × (written bs b (get_or slots p no_slot).bytes ≡ put_below bs slots (Some b))
flushed bs slots p b o l e = (sym (forgotten_one b slots p o l e), sym (ap (put_bytes bs b) (kept_one b slots p o l e)))

-- once there is room for block b, no slot but that one keeps it
module _ (h : Held) (b : ℕ) (once : Once h.slots) where
  gone : kept h.slots b ≡ None → (o : Option ℕ) → kept (forgotten h.slots o) b ≡ None
  gone none None = none
  gone none (Some g) = elim (cases_eq b g) [ inl e ↦ ap (kept (map (without g) h.slots)) e ∙ kept_forgotten g h.slots | inr ne ↦ kept_forgotten_other g b ne h.slots ∙ none ]

  ways : (own vacant : Option ℕ) → place h.slots (Some b) ≡ own → (j : ℕ) (t : Slot) → (j ≡ or_else own (or_else vacant (turn_place h.turn)) → ⊥)
      → slice_get (cond (not (is_some own) && not (is_some vacant)) (giving_up h) h).slots j ≡ Some t → t.block ≡ Some b → ⊥
  ways (Some p) vacant e j t n f g =
      let first = first_place h.slots (Some b) p e in
      n (once j p b t (get_or h.slots p no_slot) f (slice_get-get_or h.slots p no_slot (first_within h.slots (Some b) p first)) g (first_block h.slots (Some b) p first))
  ways None (Some v) e j t n f g = unkept_none h.slots b (none_kept h.slots b e) j t f g
  ways None None e j t n f g = unkept_none (forgotten h.slots (given_up h.slots h.turn)) b (gone (none_kept h.slots b e) (given_up h.slots h.turn)) j t f g

  pub room_once : (slots : List Slot) (p : ℕ) (bytes : List ℕ) → Once slots → slots ≡ (with_room h b).slots → p ≡ place_for h.slots h.turn b → Once (set slots p (record { block = Some b; bytes = bytes }))
  room_once slots p bytes o s q =
      once_set slots p (record { block = Some b; bytes = bytes }) o (λ c j t e n f g.
      let same : c ≡ b = cc in
      ways (place h.slots (Some b)) (place h.slots None) refl j t (λ a. n (a ∙ sym q)) (ap (λ l. slice_get l j) (sym s) ∙ f) (g ∙ ap Some same))
