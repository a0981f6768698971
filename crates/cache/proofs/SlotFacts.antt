-- The slots of a cache: looking for one, putting one in, forgetting one.
use Rattle.std.proofs.Common.{◌≡◌, ℕ, zero, suc, ◌+◌, ◌<◌, Bool, true, false, cond, ◌⊎◌, List, [], ◌∷◌, map, length, get_or, set, Some, None, Option, sym, refl, ap, ◌∙◌, subst, inl, inr, arith}
use Rattle.std.specs.List.{position_from}
use Rattle.std.proofs.lemmas.Bool.{eq-eqb, ne_eqb, eqb-true}
use Rattle.cache.specs.declared.slot.Slot.{Slot}
use Rattle.cache.specs.Caches.{same_block, slot, no_slot, keeps, place, kept, without}

pub same_true : (o p : Option ℕ) → same_block o p ≡ true → o ≡ p
same_true None None e = refl
same_true None (Some b) e = cc
same_true (Some a) None e = cc
same_true (Some a) (Some b) e = ap Some (eqb-true a b e)

other_block : (b j : ℕ) → (j ≡ b → ⊥) → same_block (Some b) (Some j) ≡ false
other_block b j ne = ne_eqb b j (λ e. ne (sym e))

-- the slot at q is the first with this block
abbrev pub First : List Slot → Option ℕ → ℕ → Type 0
First [] o q = ⊥
First (s ∷ ss) o zero = s.block ≡ o
First (s ∷ ss) o (suc q) = (same_block s.block o ≡ false) × First ss o q

first_from : (i : ℕ) (slots : List Slot) (o : Option ℕ) (p : ℕ) → position_from (keeps o) i slots ≡ Some p → (q : ℕ) × (p ≡ i + q) × First slots o q
first_from i [] o p e = cc
first_from i (s ∷ ss) o p e = go (first_from (i + 1) ss o p) (same_block s.block o) refl e
  where
    go : (position_from (keeps o) (i + 1) ss ≡ Some p → (q : ℕ) × (p ≡ i + 1 + q) × First ss o q) → (t : Bool) → same_block s.block o ≡ t → cond t (Some i) (position_from (keeps o) (i + 1) ss) ≡ Some p → (q : ℕ) × (p ≡ i + q) × First (s ∷ ss) o q
    go rest true t f = (0, (let g : i ≡ p = cc in omega arith), same_true s.block o t)
    go rest false t f = let r = rest f in (suc r.0, (let g = r.1 in omega arith), (t, r.2))

pub first_place : (slots : List Slot) (o : Option ℕ) (p : ℕ) → place slots o ≡ Some p → First slots o p
first_place slots o p e = let r = first_from 0 slots o p e in subst (First slots o) (let g = r.1 in omega arith) r.2

pub first_within : (slots : List Slot) (o : Option ℕ) (q : ℕ) → First slots o q → q < length slots
first_within [] o q f = absurd f
first_within (s ∷ ss) o zero f = omega arith
first_within (s ∷ ss) o (suc q) f = let h = first_within ss o q f.1 in omega arith

pub first_block : (slots : List Slot) (o : Option ℕ) (q : ℕ) → First slots o q → (get_or slots q no_slot).block ≡ o
first_block [] o q f = absurd f
first_block (s ∷ ss) o zero f = f
first_block (s ∷ ss) o (suc q) f = first_block ss o q f.1

pub first_kept : (slots : List Slot) (b q : ℕ) → First slots (Some b) q → kept slots b ≡ Some (get_or slots q no_slot).bytes
first_kept [] b q f = absurd f
first_kept (s ∷ ss) b zero f = ap (λ o. cond (same_block o (Some b)) (Some s.bytes) (kept ss b)) f ∙ ap (λ t. cond t (Some s.bytes) (kept ss b)) (eq-eqb b b refl)
first_kept (s ∷ ss) b (suc q) f = ap (λ t. cond t (Some s.bytes) (kept ss b)) f.0 ∙ first_kept ss b q f.1

none_from : (i : ℕ) (slots : List Slot) (b : ℕ) → position_from (keeps (Some b)) i slots ≡ None → kept slots b ≡ None
none_from i [] b e = refl
none_from i (s ∷ ss) b e = go (none_from (i + 1) ss b) (same_block s.block (Some b)) e
  where
    go : (position_from (keeps (Some b)) (i + 1) ss ≡ None → kept ss b ≡ None) → (t : Bool) → cond t (Some i) (position_from (keeps (Some b)) (i + 1) ss) ≡ None → cond t (Some s.bytes) (kept ss b) ≡ None
    go rest true f = cc
    go rest false f = rest f

pub none_kept : (slots : List Slot) (b : ℕ) → place slots (Some b) ≡ None → kept slots b ≡ None
none_kept slots b e = none_from 0 slots b e

-- block b may be put in the slot at q: it keeps nothing else, and no slot before it keeps b
abbrev pub Room : List Slot → ℕ → ℕ → Type 0
Room [] b q = ⊥
Room (s ∷ ss) b zero = (s.block ≡ None) ⊎ (s.block ≡ Some b)
Room (s ∷ ss) b (suc q) = (same_block s.block (Some b) ≡ false) × Room ss b q

pub room_own : (slots : List Slot) (b q : ℕ) → First slots (Some b) q → Room slots b q
room_own [] b q f = f
room_own (s ∷ ss) b zero f = inr f
room_own (s ∷ ss) b (suc q) f = (f.0, room_own ss b q f.1)

-- a block that is not kept may be put in any vacant slot
pub room_vacant : (slots : List Slot) (b q : ℕ) → q < length slots → kept slots b ≡ None → (get_or slots q no_slot).block ≡ None → Room slots b q
room_vacant [] b q h k e = absurd (omega arith)
room_vacant (s ∷ ss) b zero h k e = inl e
room_vacant (s ∷ ss) b (suc q) h k e = go (λ f. room_vacant ss b q (omega arith) f e) (same_block s.block (Some b)) refl k
  where
    go : (kept ss b ≡ None → Room ss b q) → (t : Bool) → same_block s.block (Some b) ≡ t → cond t (Some s.bytes) (kept ss b) ≡ None → (same_block s.block (Some b) ≡ false) × Room ss b q
    go rest true t f = cc
    go rest false t f = (t, rest f)

-- what is kept once a block has been put in
module _ (b : ℕ) (bytes : List ℕ) where
  pub kept_put : (slots : List Slot) (q : ℕ) → Room slots b q → kept (set slots q (slot b bytes)) b ≡ Some bytes
  kept_put [] q r = absurd r
  kept_put (s ∷ ss) zero r = ap (λ t. cond t (Some bytes) (kept ss b)) (eq-eqb b b refl)
  kept_put (s ∷ ss) (suc q) r = ap (λ t. cond t (Some s.bytes) (kept (set ss q (slot b bytes)) b)) r.0 ∙ kept_put ss q r.1

  pub kept_put_other : (j : ℕ) → (j ≡ b → ⊥) → (slots : List Slot) (q : ℕ) → Room slots b q → kept (set slots q (slot b bytes)) j ≡ kept slots j
  kept_put_other j ne [] q r = refl
  kept_put_other j ne (s ∷ ss) zero r =
      ap (λ t. cond t (Some bytes) (kept ss j)) (other_block b j ne)
      ∙ sym (ap (λ t. cond t (Some s.bytes) (kept ss j)) (elim r [
        | inl e ↦ ap (λ o. same_block o (Some j)) e
        | inr e ↦ ap (λ o. same_block o (Some j)) e ∙ other_block b j ne
      ]))
  kept_put_other j ne (s ∷ ss) (suc q) r = ap (cond (same_block s.block (Some j)) (Some s.bytes)) (kept_put_other j ne ss q r.1)

-- what is kept once a block has been forgotten
module _ (b : ℕ) where
  without_same : (o : Option ℕ) → same_block (cond (same_block o (Some b)) None o) (Some b) ≡ false
  without_same o = go (same_block o (Some b)) refl
    where
      go : (t : Bool) → same_block o (Some b) ≡ t → same_block (cond t None o) (Some b) ≡ false
      go true e = refl
      go false e = e

  without_other : (j : ℕ) → (j ≡ b → ⊥) → (o : Option ℕ) → same_block (cond (same_block o (Some b)) None o) (Some j) ≡ same_block o (Some j)
  without_other j ne o = go (same_block o (Some b)) refl
    where
      go : (t : Bool) → same_block o (Some b) ≡ t → same_block (cond t None o) (Some j) ≡ same_block o (Some j)
      go true e = sym (ap (λ p. same_block p (Some j)) (same_true o (Some b) e) ∙ other_block b j ne)
      go false e = refl

  pub kept_forgotten : (slots : List Slot) → kept (map (without b) slots) b ≡ None
  kept_forgotten [] = refl
  kept_forgotten (s ∷ ss) = ap (λ t. cond t (Some s.bytes) (kept (map (without b) ss) b)) (without_same s.block) ∙ kept_forgotten ss

  pub kept_forgotten_other : (j : ℕ) → (j ≡ b → ⊥) → (slots : List Slot) → kept (map (without b) slots) j ≡ kept slots j
  kept_forgotten_other j ne [] = refl
  kept_forgotten_other j ne (s ∷ ss) =
      ap (λ t. cond t (Some s.bytes) (kept (map (without b) ss) j)) (without_other j ne s.block)
      ∙ ap (cond (same_block s.block (Some j)) (Some s.bytes)) (kept_forgotten_other j ne ss)

  pub forgotten_block : (slots : List Slot) (q : ℕ) → (get_or slots q no_slot).block ≡ Some b → (get_or (map (without b) slots) q no_slot).block ≡ None
  forgotten_block [] q e = refl
  forgotten_block (s ∷ ss) zero e = ap (λ o. cond (same_block o (Some b)) None o) e ∙ ap (λ t. cond t None (Some b)) (eq-eqb b b refl)
  forgotten_block (s ∷ ss) (suc q) e = forgotten_block ss q e
