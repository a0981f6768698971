-- Reading a word of hexadecimal digits letter by letter.
use Rattle.std.proofs.Common.{◌≡◌, ℕ, ◌+◌, ◌*◌, ◌<◌, ◌≤◌, List, [], ◌∷◌, ◌++◌, length, get_or, drop, Some, None, Option, sym, refl, ap, ◌∙◌, subst, append-nil, arith}
use Rattle.std.specs.Option.{option_map}
use Rattle.std.proofs.lemmas.List.{at_drop_more, at_drop_all}
use Rattle.std.proofs.lemmas.Bool.Decides.{nat_tests}
use Rattle.cuwajimo.specs.Words.{hex_digit, low_joined, pair_joined, hex_bytes}
use Rattle.cuwajimo.proofs.Parts.{appended, unmapped}

-- What the letters that are left stand for, after a first digit or after none.
abbrev pub pending : Option ℕ → List ℕ → Option (List ℕ)
pending None rest = hex_bytes rest
pending (Some high) [] = None
pending (Some high) (c ∷ rest) = low_joined high (hex_digit c) (hex_bytes rest)

-- A first digit fits four bits.
abbrev pub FitsHalf : Option ℕ → Type 0
FitsHalf None = Unit {0}
FitsHalf (Some high) = high < 16

-- What is read so far and what the letters that are left stand for come to what the whole word stands for, after what was there.
abbrev pub reads_on : List ℕ → Option ℕ → List ℕ → Option (List ℕ)
reads_on bytes high rest = option_map (λ more. bytes ++ more) (pending high rest)

first_half : (c low : ℕ) (rest : List ℕ) → hex_digit c ≡ Some low → hex_bytes (c ∷ rest) ≡ pending (Some low) rest
first_half c low [] e = refl
first_half c low (d ∷ rest) e = ap (λ o. pair_joined o (hex_digit d) (hex_bytes rest)) e

first_more : (bytes : List ℕ) (c low : ℕ) (rest : List ℕ) → hex_digit c ≡ Some low → reads_on bytes None (c ∷ rest) ≡ reads_on bytes (Some low) rest
first_more bytes c low rest e = ap (option_map (λ more. bytes ++ more)) (first_half c low rest e)

second_more :
    (bytes : List ℕ) (high c low : ℕ) (rest : List ℕ) → hex_digit c ≡ Some low
    → reads_on bytes (Some high) (c ∷ rest) ≡ reads_on (bytes ++ (16 * high + low) ∷ []) None rest
second_more bytes high c low rest e =
    ap (λ o. option_map (λ more. bytes ++ more) (low_joined high o (hex_bytes rest))) e ∙ appended bytes ((16 * high + low) ∷ []) (hex_bytes rest)

no_first : (c : ℕ) (rest : List ℕ) → hex_digit c ≡ None → hex_bytes (c ∷ rest) ≡ None
no_first c [] e = refl
no_first c (d ∷ rest) e = ap (λ o. pair_joined o (hex_digit d) (hex_bytes rest)) e

no_digit : (bytes : List ℕ) (high : Option ℕ) (c : ℕ) (rest : List ℕ) → hex_digit c ≡ None → reads_on bytes high (c ∷ rest) ≡ None
no_digit bytes None c rest e = ap (option_map (λ more. bytes ++ more)) (no_first c rest e)
no_digit bytes (Some high) c rest e = ap (λ o. option_map (λ more. bytes ++ more) (low_joined high o (hex_bytes rest))) e

pub digit_small : (c low : ℕ) → hex_digit c ≡ Some low → low < 16
digit_small c low e = grind (arith, nat_tests)

-- One letter of the word xs, at place i: what it leaves to read, where it is the first or the second digit of a byte.
module _ (xs : List ℕ) (i low : ℕ) (whole : Option (List ℕ)) (within : i < length xs) (is : hex_digit (get_or xs i 0) ≡ Some low) where
  pub first_turn :
      (bytes bytes' : List ℕ) (high high' : Option ℕ) → reads_on bytes high (drop i xs) ≡ whole → high ≡ None → bytes' ≡ bytes → high' ≡ Some low
      → FitsHalf high' × (reads_on bytes' high' (drop (i + 1) xs) ≡ whole)
  first_turn bytes bytes' high high' so_far was same now = (
    subst FitsHalf (sym now) (digit_small (get_or xs i 0) low is),
    ap (λ (b : List ℕ). reads_on b high' (drop (i + 1) xs)) same
        ∙ ap (λ (h : Option ℕ). reads_on bytes h (drop (i + 1) xs)) now
        ∙ sym (first_more bytes (get_or xs i 0) low (drop (i + 1) xs) is)
        ∙ sym (at_drop_more (reads_on bytes None) xs i 0 within)
        ∙ ap (λ (h : Option ℕ). reads_on bytes h (drop i xs)) (sym was)
        ∙ so_far,
  )

  pub second_turn :
      (bytes bytes' : List ℕ) (high high' : Option ℕ) (tens : ℕ) → reads_on bytes high (drop i xs) ≡ whole → high ≡ Some tens
      → bytes' ≡ bytes ++ (16 * tens + low) ∷ [] → high' ≡ None → FitsHalf high' × (reads_on bytes' high' (drop (i + 1) xs) ≡ whole)
  second_turn bytes bytes' high high' tens so_far was more now = (
    subst FitsHalf (sym now) tt,
    ap (λ (b : List ℕ). reads_on b high' (drop (i + 1) xs)) more
        ∙ ap (λ (h : Option ℕ). reads_on (bytes ++ (16 * tens + low) ∷ []) h (drop (i + 1) xs)) now
        ∙ sym (second_more bytes tens (get_or xs i 0) low (drop (i + 1) xs) is)
        ∙ sym (at_drop_more (reads_on bytes (Some tens)) xs i 0 within)
        ∙ ap (λ (h : Option ℕ). reads_on bytes h (drop i xs)) (sym was)
        ∙ so_far,
  )

-- The word's end, or a letter that is no digit.
module _ (xs start bytes : List ℕ) (high : Option ℕ) (i : ℕ) (so_far : reads_on bytes high (drop i xs) ≡ reads_on start None xs) where
  pub refused_letter : i < length xs → hex_digit (get_or xs i 0) ≡ None → hex_bytes xs ≡ None
  refused_letter within none =
      unmapped start (hex_bytes xs)
      (sym so_far ∙ at_drop_more (reads_on bytes high) xs i 0 within ∙ no_digit bytes high (get_or xs i 0) (drop (i + 1) xs) none)

  pub refused_half : (half : ℕ) → length xs ≤ i → high ≡ Some half → hex_bytes xs ≡ None
  refused_half half past is =
      unmapped start (hex_bytes xs)
      (sym so_far ∙ at_drop_all (reads_on bytes high) xs i past ∙ ap (λ (h : Option ℕ). reads_on bytes h []) is)

  pub read_all : length xs ≤ i → high ≡ None → reads_on start None xs ≡ Some bytes
  read_all past is =
      sym so_far ∙ at_drop_all (reads_on bytes high) xs i past ∙ ap (λ (h : Option ℕ). reads_on bytes h []) is ∙ ap Some (append-nil bytes)
