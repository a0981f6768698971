-- Which lists of units are sound, by the test and by the law.
use Rattle.std.proofs.Common.{◌≡◌, ℕ, zero, suc, ◌-◌, ◌*◌, ◌<◌, ◌≤◌, Bool, true, ltb, leb, List, [], ◌∷◌, length, get_or, refl, ⊎_elim, arith}
use Rattle.std.proofs.lemmas.Nat.{mul-le}
use Rattle.std.proofs.lemmas.Bool.{lt-ltb, le-leb, and_from, and_parts, or_left, or_right, or_cases, ltb-true, leb-true, cases_lt, cases_order}
use Rattle.std.proofs.lemmas.List.Recursion.{and_at, and_from_places}
use Rattle.std.specs.List.{list_all}
use Rattle.store.specs.Counts.{most_blocks}
use Rattle.flex.specs.declared.unit.Unit.{Unit as DiscUnit}
use Rattle.flex.specs.Geometries.{size_of}
use Rattle.flex.specs.Units.{blank, past, up_to, counted, apart, inside, all_apart, counts, sound, Holds, Counted, Sound}

-- what all elements pass, each passes by its place, and the other way round
module _ {A : Type 0} (f : A → Bool) (d : A) (xs : List A) where
  pub passed_at : (n : ℕ) → list_all f xs ≡ true → n < length xs → f (get_or xs n d) ≡ true
  passed_at n e h = and_at (list_all f) f refl (λ _ _. refl) xs n d h e

  passed_by_all : ((n : ℕ) → n < length xs → f (get_or xs n d) ≡ true) → list_all f xs ≡ true
  passed_by_all h = and_from_places (list_all f) f refl (λ _ _. refl) xs d h

pub apart_at : (us : List DiscUnit) (n k : ℕ) → all_apart us ≡ true → n < k → k < length us → apart (get_or us n blank) (get_or us k blank) ≡ true
apart_at [] n k e h l = absurd (omega arith)
apart_at (u ∷ us) n zero e h l = absurd (omega arith)
apart_at (u ∷ us) zero (suc k) e h l = passed_at (apart u) blank us k (and_parts (list_all (apart u) us) _ e).0 (omega arith)
apart_at (u ∷ us) (suc n) (suc k) e h l = apart_at us n k (and_parts (list_all (apart u) us) _ e).1 (omega arith) (omega arith)

apart_from : (us : List DiscUnit) → ((n k : ℕ) → n < k → k < length us → apart (get_or us n blank) (get_or us k blank) ≡ true) → all_apart us ≡ true
apart_from [] h = refl
apart_from (u ∷ us) h =
    and_from (list_all (apart u) us) _ (passed_by_all (apart u) blank us (λ k l. h 0 (suc k) (omega arith) (omega arith))) (apart_from us (λ n k i l. h (suc n) (suc k) (omega arith) (omega arith)))

-- units apart share no block
pub apart_holds : (u v : DiscUnit) (block : ℕ) → apart u v ≡ true → Holds u block → Holds v block → ⊥
apart_holds u v block e h k =
    ⊎_elim (λ p. omega (arith, leb-true _ _ p)) (λ p. omega (arith, leb-true _ _ p)) (or_cases (leb (past u) v.first) (leb (past v) u.first) e)

-- the test of a unit's counts, and what it says
up_from : (most n : ℕ) → up_to most n ≡ true → (0 < n) × (n ≤ most)
up_from most n e = let p = and_parts (ltb 0 n) _ e in (ltb-true _ _ p.0, leb-true _ _ p.1)

up_by : (most n : ℕ) → (0 < n) × (n ≤ most) → up_to most n ≡ true
up_by most n h = and_from _ _ (lt-ltb _ _ h.0) (le-leb _ _ h.1)

pub counted_from : (u : DiscUnit) → counted u ≡ true → Counted u
counted_from u e =
    let p = and_parts (up_to 65535 u.geometry.cylinders) _ e in
    let q = and_parts (up_to 255 u.geometry.heads) _ p.1 in
    record { cylinders = up_from 65535 _ p.0; heads = up_from 255 _ q.0; sectors = up_from 255 _ q.1 }

counted_to : (u : DiscUnit) → Counted u → counted u ≡ true
counted_to u h = and_from _ _ (up_by 65535 _ h.cylinders) (and_from _ _ (up_by 255 _ h.heads) (up_by 255 _ h.sectors))

-- a unit within its counts has a block
nonempty : (u : DiscUnit) → Counted u → u.first < past u
nonempty u h =
    let g = u.geometry in
    let p : 1 * 1 ≤ g.cylinders * g.heads = mul-le 1 1 _ _ h.cylinders.0 h.heads.0 in
    let q : 1 * 1 ≤ size_of g = mul-le 1 1 _ _ p h.sectors.0 in
    omega arith

-- units that share no block are apart
holds_apart : (u v : DiscUnit) → u.first < past u → v.first < past v → ((block : ℕ) → Holds u block → Holds v block → ⊥) → apart u v ≡ true
holds_apart u v p q h =
    let left = leb (past u) v.first in
    let right = leb (past v) u.first in
    ⊎_elim
    (λ l. or_right left right (⊎_elim (λ o. absurd (h u.first (omega arith, omega arith) (omega arith, omega arith))) (λ o. le-leb _ _ o) (cases_lt u.first (past v))))
    (λ l. ⊎_elim (λ o. absurd (h v.first (omega arith, o) (omega arith, q))) (λ o. or_left left right (le-leb _ _ o)) (cases_lt v.first (past u)))
    (cases_lt v.first u.first)

module _ (us : List DiscUnit) (end : ℕ) where
  -- the parts of the test
  pub record Parts : Type 0 where
    pub some : 1 ≤ length us
    pub few : length us ≤ 15
    pub reachable : end ≤ most_blocks
    pub counts : list_all counted us ≡ true
    pub once : all_apart us ≡ true
    pub within : list_all (inside end) us ≡ true

  pub parts_from : sound us end ≡ true → Parts
  parts_from e =
      let p = and_parts (counts us end) _ e in
      let q = and_parts (all_apart us) _ p.1 in
      let a = and_parts (leb 1 (length us)) _ p.0 in
      let b = and_parts (leb (length us) 15) _ a.1 in
      let c = and_parts (leb end most_blocks) _ b.1 in
      record { some = leb-true _ _ a.0; few = leb-true _ _ b.0; reachable = leb-true _ _ c.0; counts = c.1; once = q.0; within = q.1 }

  parts_to : Parts → sound us end ≡ true
  parts_to p =
      and_from _ _
      (and_from _ _ (le-leb _ _ p.some) (and_from _ _ (le-leb _ _ p.few) (and_from _ _ (le-leb _ _ p.reachable) p.counts)))
      (and_from _ _ p.once p.within)

  pub law_from : Parts → Sound us end
  law_from p =
      record {
        some = p.some;
        few = p.few;
        reachable = p.reachable;
        counts = λ n l.
            let u = get_or us n blank in
            counted_from u (passed_at counted blank us n p.counts l);
        once = λ n k block l m h i.
            let u = get_or us n blank in
            let v = get_or us k blank in
            let before : n < k → ⊥ = λ lt. apart_holds u v block (apart_at us n k p.once lt m) h i in
            let after : k < n → ⊥ = λ lt. apart_holds v u block (apart_at us k n p.once lt l) i h in
            ⊎_elim (λ same. same) (λ o. absurd (⊎_elim before after o)) (cases_order n k);
        within = λ n block l h. omega (arith, leb-true _ _ (passed_at (inside end) blank us n p.within l));
      }

  pub sound_to : Sound us end → sound us end ≡ true
  sound_to s =
      let has : (n : ℕ) → n < length us → (get_or us n blank).first < past (get_or us n blank) = λ n l. nonempty (get_or us n blank) (s.counts n l) in
      parts_to
      record {
        some = s.some;
        few = s.few;
        reachable = s.reachable;
        counts =
            passed_by_all counted blank us (λ n l. counted_to (get_or us n blank) (s.counts n l));
        once =
            apart_from us (λ n k lt l.
            let m : n < length us = omega arith in
            holds_apart (get_or us n blank) (get_or us k blank) (has n m) (has k l) (λ block h i. omega (arith, s.once n k block m l h i)));
        within =
            passed_by_all (inside end) blank us (λ n l.
            let p = has n l in
            let last : past (get_or us n blank) - 1 < end = s.within n (past (get_or us n blank) - 1) l (omega arith, omega arith) in
            le-leb _ _ (omega arith));
      }

  pub sound_from : sound us end ≡ true → Sound us end
  sound_from e = law_from (parts_from e)
