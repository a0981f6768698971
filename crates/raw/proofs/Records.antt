-- Which record a block has: one of its own, in order, never the spare one of its track.
use Rattle.std.proofs.Common.{◌≡◌, ℕ, ◌+◌, ◌-◌, ◌*◌, ◌/◌, ◌%◌, ◌<◌, ◌≤◌, true, false, cond, eqb, List, length, get_or, leb, is_some, Some, None, sym, ap, ◌∙◌, inl, inr, add-mul, arith}
use Rattle.std.proofs.lemmas.Nat.{div-add-mod', div-mul-add, mod_below, mod-mul-add, mul-le}
use Rattle.std.proofs.lemmas.Bool.{cases_lt, cases_order, ne_eqb, lt-ltb, le-ltb, leb-true, leb-false}
use Rattle.std.specs.List.{position_or_len}
use Rattle.std.proofs.lemmas.List.Sums.{fails_before_first}
use Rattle.std.proofs.lemmas.List.Quantifiers.{position-Some}
use Rattle.std.proofs.lemmas.Bool.Decides.{nat_tests}
use Rattle.std.specs.Option.{unwrap_or}
use Rattle.raw.specs.Lengths.{raw_count, misplaced, raw_size}
use Rattle.raw.specs.Raw.{place_of, raw_record, is_spare, FirstMisplaced, Layout}
use Rattle.raw.specs.Lawful.{counted_raw}

-- places within one track
place_below : (s i r : ℕ) → i < r - 1 → place_of s i < r
place_below s i r h = grind (arith, nat_tests)

place_apart : (s i : ℕ) → place_of s i ≡ s → ⊥
place_apart s i e = grind (arith, nat_tests)

place_order : (s i j : ℕ) → i < j → place_of s i < place_of s j
place_order s i j h = grind (arith, nat_tests)

place_onto : (s p r : ℕ) → s < r → p < r → (p ≡ s → ⊥) → (i : ℕ) × (i < r - 1) × (place_of s i ≡ p)
place_onto s p r hs hp ne = elim (cases_lt p s) [
  | inl l ↦ (p, omega arith, ap (λ t. cond t p (p + 1)) (lt-ltb p s l))
  | inr l ↦ (p - 1, omega arith, ap (λ t. cond t (p - 1) (p - 1 + 1)) (le-ltb (p - 1) s (omega arith)) ∙ omega arith)
]

-- what is known of a block that is there
module _ (n : ℕ) (spares : List ℕ) (r b : ℕ) (h : b < raw_size n spares r) where
  pub records_two : 2 ≤ r
  records_two = let k = counted_raw n spares r b h in grind (arith, nat_tests)

module _ (spares : List ℕ) (r : ℕ) (two : 2 ≤ r) where
  abbrev record_of : ℕ → ℕ
  record_of = raw_record spares r

  abbrev per : ℕ
  per = r - 1

  place_in : (b : ℕ) → place_of (get_or spares (b / per) 0) (b % per) < r
  place_in b = place_below (get_or spares (b / per) 0) (b % per) r (mod_below b per (omega arith))

  pub record_order : (b c : ℕ) → b < c → record_of b < record_of c
  record_order b c l = elim (cases_order (b / per) (c / per)) [
    | inl e ↦
        let m : b % per < c % per = omega (arith, div-add-mod' b per, div-add-mod' c per, ap (λ q. q * per) e) in
        let p = place_order (get_or spares (c / per) 0) (b % per) (c % per) m in
        omega (arith, ap (λ q. q * r + place_of (get_or spares q 0) (b % per)) e)
    | inr o ↦ elim o [
      | inl q ↦ omega (arith, place_in b, mul-le (b / per + 1) r (c / per) r (omega arith) (omega arith), add-mul (b / per) 1 r)
      | inr q ↦ absurd (omega (arith, div-add-mod' b per, div-add-mod' c per, mod_below c per (omega arith), mul-le (c / per + 1) per (b / per) per (omega arith) (omega arith), add-mul (c / per) 1 per))
    ]
  ]

  pub record_apart : (b c : ℕ) → (b ≡ c → ⊥) → record_of b ≡ record_of c → ⊥
  record_apart b c ne e = elim (cases_order b c) [
    | inl f ↦ ne f
    | inr o ↦ elim o [ inl l ↦ omega (arith, record_order b c l) | inr l ↦ omega (arith, record_order c b l) ]
  ]

  -- a track and a place are got back from a record's number
  record_track : (b t s : ℕ) → s < r → record_of b ≡ t * r + s → (b / per ≡ t) × (place_of (get_or spares (b / per) 0) (b % per) ≡ s)
  record_track b t s h e = (
    sym (div-mul-add (b / per) r (place_of (get_or spares (b / per) 0) (b % per)) (place_in b)) ∙ ap (λ n. n / r) e ∙ div-mul-add t r s h,
    sym (mod-mul-add (b / per) r (place_of (get_or spares (b / per) 0) (b % per)) (place_in b)) ∙ ap (λ n. n % r) e ∙ mod-mul-add t r s h,
  )

  -- a block's record is not the spare one of the track that it is in, wherever that is
  pub no_spare : (b : ℕ) → is_spare spares r (record_of b) ≡ false
  no_spare b =
      let s = get_or spares (b / per) 0 in
      let q = div-mul-add (b / per) r (place_of s (b % per)) (place_in b) in
      let m = mod-mul-add (b / per) r (place_of s (b % per)) (place_in b) in
      ap (λ i. eqb (get_or spares i 0) (record_of b % r)) q ∙ ap (eqb s) m ∙ ne_eqb s (place_of s (b % per)) (λ e. place_apart s (b % per) (sym e))

  never_spare : (b t : ℕ) → get_or spares t 0 < r → record_of b ≡ t * r + get_or spares t 0 → ⊥
  never_spare b t h e =
      let f = record_track b t (get_or spares t 0) h e in
      place_apart (get_or spares t 0) (b % per) (sym (ap (λ q. place_of (get_or spares q 0) (b % per)) f.0) ∙ f.1)

  every_other : (t p : ℕ) → get_or spares t 0 < r → p < r → (p ≡ get_or spares t 0 → ⊥) → (b : ℕ) × (b / per ≡ t) × (record_of b ≡ t * r + p)
  every_other t p h l ne =
      let f = place_onto (get_or spares t 0) p r h l ne in
      let i = f.0 in
      let d = div-mul-add t per i f.1 in
      let m = mod-mul-add t per i f.1 in (
        t * per + i,
        d,
        ap (λ q. q * r + place_of (get_or spares q 0) ((t * per + i) % per)) d ∙ ap (λ q. t * r + place_of (get_or spares t 0) q) m ∙ ap (λ q. t * r + q) f.2,
      )

-- spare places in order: the first that is not in its track, or none
pub all_placed : (r : ℕ) (spares : List ℕ) → misplaced r spares ≡ None → (i : ℕ) → i < length spares → get_or spares i 0 < r
all_placed r spares e i h =
    let before = elim (cases_lt (position_or_len (leb r) spares) (length spares)) as (λ _. i < position_or_len (leb r) spares) [
      | inl l ↦ let f : Some (position_or_len (leb r) spares) ≡ None = rw (lt-ltb (position_or_len (leb r) spares) (length spares) l) at e in cc
      | inr l ↦ omega arith
    ] in
    leb-false r (get_or spares i 0) (fails_before_first (leb r) spares i 0 before)

pub first_misplaced : (r k : ℕ) (spares : List ℕ) → misplaced r spares ≡ Some k → FirstMisplaced spares r k
first_misplaced r k spares e =
    let f = position-Some (leb r) spares k 0 e in
    record { is_track = f.0; outside = leb-true r (get_or spares k 0) f.1; earlier = λ i h. leb-false r (get_or spares i 0) (f.2 i h) }

pub laid_out : (n : ℕ) (spares : List ℕ) (r : ℕ) → is_some (raw_count n (length spares) r) ≡ true → misplaced r spares ≡ None → Layout spares r (raw_size n spares r)
laid_out n spares r some none = record {
  in_order = λ b c l h. record_order spares r two b c l;
  never_spare = λ b t h l. never_spare spares r two b t (all_placed r spares none t l);
  every_other = λ t p h l ne. found t p h (every_other spares r two t p (all_placed r spares none t h) l ne);
}
  where
    two : 2 ≤ r
    two = grind (arith, nat_tests)

    counted : unwrap_or (raw_count n (length spares) r) 0 ≡ length spares * (r - 1)
    counted = grind (arith, nat_tests)

    size : raw_size n spares r ≡ length spares * (r - 1)
    size = rw none counted

    found : (t p : ℕ) → t < length spares → (b : ℕ) × (b / (r - 1) ≡ t) × (raw_record spares r b ≡ t * r + p) → (b : ℕ) × (b < raw_size n spares r) × (raw_record spares r b ≡ t * r + p)
    found t p h f =
        let b = f.0 in
        let l : b < length spares * (r - 1) = omega (arith, div-add-mod' b (r - 1), mod_below b (r - 1) (omega (arith, two)), ap (λ q. q * (r - 1)) f.1, add-mul t 1 (r - 1), mul-le (t + 1) (r - 1) (length spares) (r - 1) (omega arith) (omega arith)) in
        (b, omega (arith, size), f.2)
