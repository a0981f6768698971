-- Addresses and vectors turn into one another.
use Rattle.std.proofs.Common.{◌≡◌, ℕ, ◌+◌, ◌*◌, ◌/◌, ◌%◌, ◌<◌, ◌&&◌, ltb, Some, None, sym, refl, ap, ◌∙◌, mul_comm, mul-zero, arith}
use Rattle.std.proofs.lemmas.Nat.{mul-add-lt, div-mul-add, mod-mul-add, div_below, mod_below, div-add-mod'}
use Rattle.std.proofs.lemmas.Bool.{lt-ltb, le-ltb, cond-true, cond-false, and_from, ltb-true, and_parts}
use Rattle.std.proofs.lemmas.Option.{cond_some}
use Rattle.flex.specs.declared.vector.Vector.{Vector}
use Rattle.flex.specs.declared.geometry.Geometry.{Geometry}
use Rattle.flex.specs.Geometries.{size_of, vector_at, place_of, address_at, Within, Names, Numbered}
use Rattle.flex.proofs.Cases.{absent}

-- where a product is above a number, its second factor is above 0
right_positive : (a b n : ℕ) → n < a * b → 0 < b
right_positive a b n h = grind (arith, mul-zero a)

module _ (g : Geometry) where
  -- the place of a vector within is below the size
  place_below : (v : Vector) → Within g v → place_of g v < size_of g
  place_below v h =
      let row : v.cylinder * g.heads + v.head < g.heads * g.cylinders = mul-add-lt v.cylinder g.heads v.head g.cylinders h.cylinder h.head in
      let all : place_of g v < g.sectors * (g.heads * g.cylinders) = mul-add-lt _ g.sectors v.sector _ row h.sector in
      let e : g.sectors * (g.heads * g.cylinders) ≡ size_of g = mul_comm g.sectors _ ∙ ap (λ n. n * g.sectors) (mul_comm g.heads g.cylinders) in
      rw e at all

  pub names : (v : Vector) → Within g v → Names g v (place_of g v)
  names v h = record { within = h; below = place_below v h; place = refl }

  -- the quotients and remainders of an address
  split : ℕ → Vector
  split address = record { cylinder = address / g.sectors / g.heads; head = address / g.sectors % g.heads; sector = address % g.sectors }

  split_place : (v : Vector) → Within g v → split (place_of g v) ≡ v
  unfolding split
  split_place v h =
      let row : place_of g v / g.sectors ≡ v.cylinder * g.heads + v.head = div-mul-add _ g.sectors v.sector h.sector in
      let sector : place_of g v % g.sectors ≡ v.sector = mod-mul-add _ g.sectors v.sector h.sector in
      let cylinder : (v.cylinder * g.heads + v.head) / g.heads ≡ v.cylinder = div-mul-add _ g.heads v.head h.head in
      let head : (v.cylinder * g.heads + v.head) % g.heads ≡ v.head = mod-mul-add _ g.heads v.head h.head in
      rw (row, sector, cylinder, head)

  place_split : (address : ℕ) → place_of g (split address) ≡ address
  unfolding split
  place_split address =
      ap (λ n. n * g.sectors + address % g.sectors) (div-add-mod' (address / g.sectors) g.heads) ∙ div-add-mod' address g.sectors

  split_within : (address : ℕ) → address < size_of g → Within g (split address)
  unfolding split
  split_within address h =
      let s : 0 < g.sectors = right_positive _ _ address h in
      let q : address / g.sectors < g.cylinders * g.heads = div_below address g.sectors _ s h in
      let d : 0 < g.heads = right_positive _ _ _ q in
      record {
        cylinder = div_below _ g.heads _ d q;
        head = mod_below _ g.heads d;
        sector = mod_below address g.sectors s;
      }

  split_names : (address : ℕ) → address < size_of g → Names g (split address) address
  split_names address h = record { within = split_within address h; below = h; place = sym (place_split address) }

  to_vector : (v : Vector) (address : ℕ) → Names g v address → vector_at g address ≡ Some v
  unfolding split
  to_vector v address n =
      cond-true _ (Some (split address)) None (lt-ltb address (size_of g) n.below)
      ∙ ap (λ a. Some (split a)) n.place
      ∙ ap Some (split_place v n.within)

  pub to_address : (v : Vector) (address : ℕ) → Names g v address → address_at g v ≡ Some address
  to_address v address n =
      let c = lt-ltb _ _ n.within.cylinder in
      let d = lt-ltb _ _ n.within.head in
      let s = lt-ltb _ _ n.within.sector in
      cond-true _ (Some (place_of g v)) None (and_from _ _ c (and_from _ _ d s)) ∙ ap Some (sym n.place)

  -- a vector that has an address is within
  pub within_address : (v : Vector) (address : ℕ) → address_at g v ≡ Some address → Within g v × (address ≡ place_of g v)
  within_address v address e =
      let p = cond_some (ltb v.cylinder g.cylinders && (ltb v.head g.heads && ltb v.sector g.sectors)) (place_of g v) address e in
      let q = and_parts (ltb v.cylinder g.cylinders) _ p.0 in
      let r = and_parts (ltb v.head g.heads) _ q.1 in
      (record { cylinder = ltb-true _ _ q.0; head = ltb-true _ _ r.0; sector = ltb-true _ _ r.1 }, sym p.1)

  no_address : (v : Vector) → (Within g v → ⊥) → address_at g v ≡ None
  no_address v h = absent (address_at g v) (λ address e. h (within_address v address e).0)

  same_vector : (v w : Vector) (address : ℕ) → Names g v address → Names g w address → w ≡ v
  same_vector v w address n m =
      let p = to_vector v address n in
      let q = to_vector w address m in
      cc

  pub numbered : Numbered g
  numbered =
      record {
        one_vector = λ address h. (split address, split_names address h, λ w n. same_vector (split address) w address (split_names address h) n);
        one_address = λ v h. (place_of g v, names v h, λ other n. n.place);
        to_vector = to_vector;
        to_address = to_address;
        no_vector = λ address h. cond-false _ _ None (le-ltb address (size_of g) h);
        no_address = no_address;
      }
