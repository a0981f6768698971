-- When a draft takes what a part sets: within its bounds, and only there.
use Rattle.std.proofs.Common.{◌≡◌, ℕ, ◌%◌, ◌<◌, ◌||◌, eqb, ltb, get_or, Some, None, Ok, Err, Option, sym, refl, ap, ◌∙◌, inl, inr, ⊎_elim}
use Rattle.std.proofs.lemmas.Bool.{both_ways, cases_Bool, cond-true, cond-false, eqb-true, eq-eqb, lt-ltb, ltb-true, or_cases, or_left, or_right}
use Rattle.std.proofs.lemmas.Option.{none-some, cond_some}
use Rattle.message.specs.declared.draft.Draft.{Draft}
use Rattle.flex.specs.declared.geometry.Geometry.{Geometry}
use Rattle.flex.specs.declared.status.Status.{Status}
use Rattle.flex.specs.declared.status.Status.TheVariants.{ModuleAddressing, AddressBounds, ParameterBounds}
use Rattle.flex.specs.declared.unit_map.UnitMap.{UnitMap}
use Rattle.flex.specs.declared.vector.Vector.{Vector}
use Rattle.flex.specs.Geometries.{size_of, place_of, Within}
use Rattle.flex.specs.Units.{blank}
use Rattle.flex.specs.Maps.{unit_at, seen_as, geometry_at, no_places}
use Rattle.message.specs.Messages.{effective, unit_seen, addressed, address_in, vector_in}
use Rattle.message.specs.Arrangements.{Target, single, by_vector, Present, Inside, Measured, aimed_in, set_unit, set_address, set_length}
use Rattle.message.proofs.Cases.{not_both, ok_passed}
use Rattle.flex.proofs.Places.{within_address, to_address, names}
use Rattle.message.proofs.Reading.{given}

-- a draft with another unit, address or length
abbrev pub draft_unit : Draft → ℕ → Draft
draft_unit d u = record d { unit = Some u }

abbrev pub draft_address : Draft → ℕ → Draft
draft_address d address = record d { address = Some address }

abbrev pub draft_length : Draft → ℕ → Draft
draft_length d n = record d { length = Some n }

module _ (m : UnitMap) where
  -- a unit is in the map, or is the controller, just where a message sees a geometry of it
  pub present_from : (n : ℕ) (g : Geometry) → geometry_at m n ≡ Some g → Present m n
  present_from n g e =
      ⊎_elim
      (λ t. inl (ltb-true _ _ t))
      (λ f.
      let none : unit_at m n ≡ None = cond-false _ (Some (get_or m.units n blank)) None f in
      inr (eqb-true _ _ (cond_some (eqb n 15) no_places g (sym (ap (seen_as n) none) ∙ e)).0))
      (cases_Bool (ltb n m.count))

  pub present_to : (n : ℕ) → Present m n → (g : Geometry) × (geometry_at m n ≡ Some g)
  present_to n p =
      ⊎_elim
      (λ t. ((get_or m.units n blank).geometry, ap (seen_as n) (cond-true _ (Some (get_or m.units n blank)) None t)))
      (λ f.
      let is : n ≡ 15 = ⊎_elim (λ l. absurd (both_ways _ f (lt-ltb _ _ l))) (λ e. e) p in
      (no_places, ap (seen_as n) (cond-false _ (Some (get_or m.units n blank)) None f) ∙ cond-true _ (Some no_places) None (eq-eqb _ _ is)))
      (cases_Bool (ltb n m.count))

  -- Set Unit
  seen : (d : Draft) (u : ℕ) (o : Option Geometry) (d' : Draft) → unit_seen d u o ≡ Ok d' → (g : Geometry) × (o ≡ Some g) × (d' ≡ draft_unit d u)
  seen d u None d' e = absurd (not_both (sym e))
  seen d u (Some g) d' e = (g, refl, cc)

  unseen : (d : Draft) (u : ℕ) (o : Option Geometry) (s : Status) → unit_seen d u o ≡ Err s → s ≡ ModuleAddressing
  unseen d u None s e = cc
  unseen d u (Some g) s e = absurd (not_both e)

  module _ (d : Draft) (u : ℕ) where
    pub unit_ok : (d' : Draft) → given m d (set_unit u) ≡ Ok d' → Present m u × (d' ≡ draft_unit d u)
    unit_ok d' e = let p = seen d u (geometry_at m u) d' e in (present_from u p.0 p.1, p.2)

    pub unit_to : Present m u → given m d (set_unit u) ≡ Ok (draft_unit d u)
    unit_to p = ap (unit_seen d u) (present_to u p).1

    pub unit_err : (s : Status) → given m d (set_unit u) ≡ Err s → (s ≡ ModuleAddressing) × (Present m u → ⊥)
    unit_err s e = (unseen d u (geometry_at m u) s e, λ p. not_both (sym (unit_to p) ∙ e))

  -- Set Address
  placed : (d : Draft) (o : Option ℕ) (d' : Draft) → addressed d o ≡ Ok d' → (address : ℕ) × (o ≡ Some address) × (d' ≡ draft_address d address)
  placed d None d' e = absurd (not_both (sym e))
  placed d (Some address) d' e = (address, refl, cc)

  unplaced : (d : Draft) (o : Option ℕ) (s : Status) → addressed d o ≡ Err s → s ≡ AddressBounds
  unplaced d None s e = cc
  unplaced d (Some address) s e = absurd (not_both e)

  single_in : (o : Option Geometry) (a address : ℕ) → address_in o a ≡ Some address → (g : Geometry) × (o ≡ Some g) × (a < size_of g) × (address ≡ a)
  single_in None a address e = absurd (none-some _ e)
  single_in (Some g) a address e =
      let p = cond_some (ltb a (size_of g)) a address e in
      (g, refl, ltb-true _ _ p.0, sym p.1)

  vector_placed : (o : Option Geometry) (v : Vector) (address : ℕ) → vector_in o v ≡ Some address → (g : Geometry) × (o ≡ Some g) × Within g v × (address ≡ place_of g v)
  vector_placed None v address e = absurd (none-some _ e)
  vector_placed (Some g) v address e = let p = within_address g v address e in (g, refl, p.0, p.1)

  module _ (d : Draft) where
    pub target_ok : (t : Target) (d' : Draft) → given m d (set_address t) ≡ Ok d' → (g : Geometry) × (geometry_at m (effective d) ≡ Some g) × Inside g t × (d' ≡ draft_address d (aimed_in t (Some g)))
    target_ok (single a) d' e =
        let p = placed d (address_in (geometry_at m (effective d)) a) d' e in
        let q = single_in (geometry_at m (effective d)) a p.0 p.1 in
        (q.0, q.1, q.2, p.2 ∙ ap (draft_address d) q.3)
    target_ok (by_vector v) d' e =
        let p = placed d (vector_in (geometry_at m (effective d)) v) d' e in
        let q = vector_placed (geometry_at m (effective d)) v p.0 p.1 in
        (q.0, q.1, q.2, p.2 ∙ ap (draft_address d) q.3)

    pub target_to : (t : Target) (g : Geometry) → geometry_at m (effective d) ≡ Some g → Inside g t → given m d (set_address t) ≡ Ok (draft_address d (aimed_in t (Some g)))
    target_to (single a) g e h = ap (λ o. addressed d (address_in o a)) e ∙ ap (addressed d) (cond-true _ (Some a) None (lt-ltb _ _ h))
    target_to (by_vector v) g e h = ap (λ o. addressed d (vector_in o v)) e ∙ ap (addressed d) (to_address g v (place_of g v) (names g v h))

    pub target_status : (t : Target) (s : Status) → given m d (set_address t) ≡ Err s → s ≡ AddressBounds
    target_status (single a) s e = unplaced d _ s e
    target_status (by_vector v) s e = unplaced d _ s e

-- Set Length
module _ (m : UnitMap) (d : Draft) (n : ℕ) where
  pub length_ok : (d' : Draft) → given m d (set_length n) ≡ Ok d' → Measured n × (d' ≡ draft_length d n)
  length_ok d' e =
      let p = ok_passed (eqb (n % 256) 0 || eqb n 0xffff_ffff) (draft_length d n) d' ParameterBounds e in
      (⊎_elim (λ t. inl (eqb-true _ _ t)) (λ t. inr (eqb-true _ _ t)) (or_cases (eqb (n % 256) 0) _ p.0), sym p.1)

  pub length_to : Measured n → given m d (set_length n) ≡ Ok (draft_length d n)
  length_to h = cond-true _ (Ok (draft_length d n)) (Err ParameterBounds) (⊎_elim (λ e. or_left (eqb (n % 256) 0) _ (eq-eqb _ _ e)) (λ e. or_right (eqb (n % 256) 0) _ (eq-eqb _ _ e)) h)

  pub length_err : (s : Status) → given m d (set_length n) ≡ Err s → (s ≡ ParameterBounds) × (Measured n → ⊥)
  length_err s e =
      let off : s ≡ ParameterBounds =
      ⊎_elim
      (λ t. absurd (not_both (sym (cond-true _ (Ok (draft_length d n)) (Err ParameterBounds) t) ∙ e)))
      (λ f. let p : Err ParameterBounds ≡ Err s = sym (cond-false _ (Ok (draft_length d n)) (Err ParameterBounds) f) ∙ e in cc)
      (cases_Bool (eqb (n % 256) 0 || eqb n 0xffff_ffff)) in
      (off, λ h. not_both (sym (length_to h) ∙ e))
