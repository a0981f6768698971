-- One bit of a byte changed: it reads as it was set, and every other bit reads as before.
use Rattle.std.proofs.Common.{◌≡◌, ℕ, zero, suc, ◌-◌, ◌/◌, ◌%◌, ◌^◌, ◌<◌, Bool, true, false, cond, ◌&&◌, eqb, List, length, get_or, set, sym, refl, ap, ◌∙◌, inl, inr, arith}
use lib.Bits.{bit_and, bit_or, or_zero_r, and_zero_r}
use Rattle.std.proofs.lemmas.Nat.{and_shr, and_mod, or_shr, or_mod}
use Rattle.std.proofs.lemmas.List.{get_or-set_same, get_or-set_other, length-set}
use Rattle.std.proofs.lemmas.Bool.{and_parts, cases_eq, eqb-true, eq-eqb, ne_eqb}
use Rattle.flat.specs.Flat.{marked, with_mark, without_mark, OnlyMark}

-- a test that passes at each number below n passes at any of them
abbrev all_below : (ℕ → Bool) → ℕ → Bool
all_below f zero = true
all_below f (suc n) = f n && all_below f n

at_below : (f : ℕ → Bool) (n : ℕ) → all_below f n ≡ true → (i : ℕ) → i < n → f i ≡ true
at_below f zero t i h = absurd (omega arith)
at_below f (suc n) t i h = let p = and_parts (f n) (all_below f n) t in elim (cases_eq i n) [ inl e ↦ ap f e ∙ p.0 | inr ne ↦ at_below f n p.1 i (omega arith) ]

-- the bits of a byte with one bit set, and of one with one bit clear: a table of eight times eight
abbrev unit : ℕ → ℕ → ℕ
unit j k = cond (eqb j k) 1 0

one_bit : (j k : ℕ) → j < 8 → k < 8 → 2 ^ k / 2 ^ j % 2 ≡ unit j k
one_bit j k hj hk = eqb-true (2 ^ k / 2 ^ j % 2) (unit j k) (at_below (λ i. eqb (2 ^ k / 2 ^ i % 2) (unit i k)) 8 (at_below (λ k. all_below (λ i. eqb (2 ^ k / 2 ^ i % 2) (unit i k)) 8) 8 refl k hk) j hj)

other_bits : (j k : ℕ) → j < 8 → k < 8 → (255 - 2 ^ k) / 2 ^ j % 2 ≡ 1 - unit j k
other_bits j k hj hk = eqb-true ((255 - 2 ^ k) / 2 ^ j % 2) (1 - unit j k) (at_below (λ i. eqb ((255 - 2 ^ k) / 2 ^ i % 2) (1 - unit i k)) 8 (at_below (λ k. all_below (λ i. eqb ((255 - 2 ^ k) / 2 ^ i % 2) (1 - unit i k)) 8) 8 refl k hk) j hj)

module _ (v j k : ℕ) (hj : j < 8) (hk : k < 8) where
  or_bit : bit_or v (2 ^ k) / 2 ^ j % 2 ≡ bit_or (v / 2 ^ j % 2) (unit j k)
  or_bit = ap (λ n. n % 2) (or_shr v (2 ^ k) j) ∙ or_mod (v / 2 ^ j) (2 ^ k / 2 ^ j) 1 ∙ ap (bit_or (v / 2 ^ j % 2)) (one_bit j k hj hk)

  and_bit : bit_and v (255 - 2 ^ k) / 2 ^ j % 2 ≡ bit_and (v / 2 ^ j % 2) (1 - unit j k)
  and_bit = ap (λ n. n % 2) (and_shr v (255 - 2 ^ k) j) ∙ and_mod (v / 2 ^ j) ((255 - 2 ^ k) / 2 ^ j) 1 ∙ ap (bit_and (v / 2 ^ j % 2)) (other_bits j k hj hk)

or_one : (x : ℕ) → x < 2 → bit_or x 1 ≡ 1
or_one x h = elim (cases_eq x 0) [ inl e ↦ rw e refl | inr ne ↦ let e : x ≡ 1 = omega arith in rw e refl ]

and_one : (x : ℕ) → x < 2 → bit_and x 1 ≡ x
and_one x h = elim (cases_eq x 0) [ inl e ↦ rw e refl | inr ne ↦ let e : x ≡ 1 = omega arith in rw e refl ]

-- a map with one byte changed, by what its bits are now
module _ (damage : List ℕ) (b w : ℕ) (inside : b / 8 < length damage) where
  set_here : (x : ℕ) → w / 2 ^ (b % 8) % 2 ≡ x → marked (set damage (b / 8) w) b ≡ eqb x 1
  set_here x e = ap (λ n. eqb (n / 2 ^ (b % 8) % 2) 1) (get_or-set_same damage (b / 8) w 0 inside) ∙ ap (λ n. eqb n 1) e

  set_others : ((j : ℕ) → j < 8 → (j ≡ b % 8 → ⊥) → w / 2 ^ j % 2 ≡ get_or damage (b / 8) 0 / 2 ^ j % 2) → (i : ℕ) → (i ≡ b → ⊥) → marked (set damage (b / 8) w) i ≡ marked damage i
  set_others same i ne = elim (cases_eq (i / 8) (b / 8)) [
    | inl e ↦
        let d : (i % 8 ≡ b % 8 → ⊥) = λ f. ne (omega arith) in
        ap (λ n. eqb (get_or (set damage (b / 8) w) n 0 / 2 ^ (i % 8) % 2) 1) e
        ∙ ap (λ n. eqb (n / 2 ^ (i % 8) % 2) 1) (get_or-set_same damage (b / 8) w 0 inside)
        ∙ ap (λ n. eqb n 1) (same (i % 8) (omega arith) d)
        ∙ ap (λ n. eqb (get_or damage n 0 / 2 ^ (i % 8) % 2) 1) (sym e)
    | inr f ↦ ap (λ n. eqb (n / 2 ^ (i % 8) % 2) 1) (get_or-set_other damage (b / 8) (i / 8) w 0 f)
  ]

module _ (damage : List ℕ) (b : ℕ) (inside : b / 8 < length damage) where
  abbrev byte : ℕ
  byte = get_or damage (b / 8) 0

  pub marks_one : OnlyMark damage b true (with_mark damage b)
  marks_one = record {
    here =
        let s : unit (b % 8) (b % 8) ≡ 1 = rw (eq-eqb (b % 8) (b % 8) refl) refl in
        set_here damage b (bit_or byte (2 ^ (b % 8))) inside 1
        (or_bit byte (b % 8) (b % 8) (omega arith) (omega arith) ∙ ap (bit_or (byte / 2 ^ (b % 8) % 2)) s ∙ or_one (byte / 2 ^ (b % 8) % 2) (omega arith));
    others =
        set_others damage b (bit_or byte (2 ^ (b % 8))) inside
        (λ j h ne. let s : unit j (b % 8) ≡ 0 = rw (ne_eqb j (b % 8) ne) refl in or_bit byte j (b % 8) h (omega arith) ∙ ap (bit_or (byte / 2 ^ j % 2)) s ∙ or_zero_r (byte / 2 ^ j % 2));
    long = length-set damage (b / 8) (bit_or byte (2 ^ (b % 8)));
  }

  pub unmarks_one : OnlyMark damage b false (without_mark damage b)
  unmarks_one = record {
    here =
        let s : 1 - unit (b % 8) (b % 8) ≡ 0 = rw (eq-eqb (b % 8) (b % 8) refl) refl in
        set_here damage b (bit_and byte (255 - 2 ^ (b % 8))) inside 0
        (and_bit byte (b % 8) (b % 8) (omega arith) (omega arith) ∙ ap (bit_and (byte / 2 ^ (b % 8) % 2)) s ∙ and_zero_r (byte / 2 ^ (b % 8) % 2));
    others =
        set_others damage b (bit_and byte (255 - 2 ^ (b % 8))) inside
        (λ j h ne. let s : 1 - unit j (b % 8) ≡ 1 = rw (ne_eqb j (b % 8) ne) refl in and_bit byte j (b % 8) h (omega arith) ∙ ap (bit_and (byte / 2 ^ j % 2)) s ∙ and_one (byte / 2 ^ j % 2) (omega arith));
    long = length-set damage (b / 8) (bit_and byte (255 - 2 ^ (b % 8)));
  }
