-- In a unit map no block has two names, and none is past the end.
use Rattle.std.proofs.Common.{◌≡◌, ℕ, ◌+◌, ◌-◌, ◌^◌, ◌<◌, ◌≤◌, true, ltb, List, length, get_or, take, IfSome, Some, None, Option, sym, refl, ap, ◌∙◌, subst, arith}
use Rattle.std.proofs.lemmas.List.{get_or-take, length-append, length-replicate, length-take-le, take_at}
use Rattle.std.proofs.lemmas.Bool.{cond-true, ltb-true, lt-ltb, leb-true}
use Rattle.std.proofs.lemmas.Option.{none-some, cond_some}
use Rattle.flex.specs.declared.vector.Vector.{Vector}
use Rattle.flex.specs.declared.unit.Unit.{Unit as DiscUnit}
use Rattle.flex.specs.declared.unit_map.UnitMap.{UnitMap}
use Rattle.flex.specs.Geometries.{size_of, place_of, Names}
use Rattle.flex.specs.Units.{blank, past, inside, Holds, Sound}
use Rattle.flex.specs.Maps.{padded, listed, unit_at, block_in, block_at, Named}
use Rattle.flex.proofs.Soundness.{passed_at, law_from}

length_listed : (m : UnitMap) → length (listed m) ≡ m.count
length_listed m = length-take-le m.count m.units (omega (arith, m.few, m.full))

-- the units of a map are sound
pub sound_listed : (m : UnitMap) → Sound (listed m) m.end
sound_listed m =
    let e = length_listed m in
    law_from (listed m) m.end
    record { some = omega (arith, m.some); few = omega (arith, m.few); reachable = m.reachable; counts = m.counts; once = m.once; within = m.within }

found_from : {A : Type 0} (o : Option A) (P : A → Type 0) → ((x : A) → o ≡ Some x → P x) → IfSome o P
found_from None P h = tt
found_from (Some x) P h = h x refl

-- what is made of a sound list has its units in front
module _ (us : List DiscUnit) (few : length us ≤ 15) where
  pub length_padded : length (padded us) ≡ 15
  length_padded = length-append us _ ∙ ap (λ n. length us + n) (length-replicate (15 - length us) blank) ∙ omega arith

  pub take_padded : take (length us) (padded us) ≡ us
  take_padded = take_at us _ (length us) refl

module _ (m : UnitMap) where
  -- the unit of a number, in the list
  at_listed : (n : ℕ) (u : DiscUnit) → unit_at m n ≡ Some u → (n < length (listed m)) × (get_or (listed m) n blank ≡ u)
  at_listed n u e =
      let p = cond_some (ltb n m.count) (get_or m.units n blank) u e in
      let l : n < m.count = ltb-true _ _ p.0 in
      (omega (arith, length_listed m), get_or-take m.count m.units n blank l ∙ p.1)

  pub past_end : (n : ℕ) (u : DiscUnit) → unit_at m n ≡ Some u → (block : ℕ) → Holds u block → block < m.end
  past_end n u e block h =
      let p = at_listed n u e in
      (sound_listed m).within n block p.0 (subst (λ v. Holds v block) (sym p.1) h)

  -- an address's block is held by its unit
  held_in : (o : Option DiscUnit) (address block : ℕ) → block_in address o ≡ Some block → (u : DiscUnit) × (o ≡ Some u) × Holds u block × (u.first + address ≡ block)
  held_in None address block e = absurd (none-some _ e)
  held_in (Some u) address block e =
      let p = cond_some (ltb address (size_of u.geometry)) (u.first + address) block e in
      let l : address < size_of u.geometry = ltb-true _ _ p.0 in
      (u, refl, (omega (arith, p.1), omega (arith, p.1)), p.1)

  before_end : (n address block : ℕ) → block_at m n address ≡ Some block → block < m.end
  before_end n address block e = let h = held_in (unit_at m n) address block e in past_end n h.0 h.1 block h.2

  one_name : (n k address other block : ℕ) → block_at m n address ≡ Some block → block_at m k other ≡ Some block → (n ≡ k) × (address ≡ other)
  one_name n k address other block e f =
      let h = held_in (unit_at m n) address block e in
      let i = held_in (unit_at m k) other block f in
      let p = at_listed n h.0 h.1 in
      let q = at_listed k i.0 i.1 in
      let same : n ≡ k = (sound_listed m).once n k block p.0 q.0 (subst (λ v. Holds v block) (sym p.1) h.2) (subst (λ v. Holds v block) (sym q.1) i.2) in
      let unit : h.0 ≡ i.0 = sym p.1 ∙ ap (λ j. get_or (listed m) j blank) same ∙ q.1 in
      let first : h.0.first ≡ i.0.first = ap (λ (u : DiscUnit). u.first) unit in
      (same, omega (arith, h.3, i.3, first))

  by_vector : (n address : ℕ) (u : DiscUnit) (v : Vector) → unit_at m n ≡ Some u → Names u.geometry v address → block_at m n address ≡ Some (u.first + place_of u.geometry v)
  by_vector n address u v e names =
      ap (block_in address) e
      ∙ cond-true _ (Some (u.first + address)) None (lt-ltb _ _ names.below)
      ∙ ap (λ a. Some (u.first + a)) names.place

  pub named : Named m
  named = record { one_name = one_name; before_end = before_end; by_vector = by_vector }

  -- a unit ends at the map's end at the latest
  inside_end : (n : ℕ) (u : DiscUnit) → unit_at m n ≡ Some u → past u ≤ m.end
  inside_end n u e =
      let p = at_listed n u e in
      let h : inside m.end u ≡ true = subst (λ v. inside m.end v ≡ true) p.1 (passed_at (inside m.end) blank (listed m) n m.within p.0) in
      leb-true _ _ h

  -- so the numbers of its blocks fit 32 bits
  pub fits_32 : (n : ℕ) → IfSome (unit_at m n) (λ u. past u < 2 ^ 32)
  fits_32 n = found_from (unit_at m n) (λ u. past u < 2 ^ 32) (λ u e. omega (arith, inside_end n u e, m.reachable))
