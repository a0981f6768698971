-- What the words of a line stand for. A word is the list of its bytes.
use Rattle.std.specs.Prelude.{◌≡◌, ℕ, ◌+◌, ◌-◌, ◌*◌, ◌⊎◌, Bool, cond, ◌&&◌, List, [], ◌∷◌, ◌++◌, length, Some, None, Ok, Err, Option, Result, nat_le, nat_lt}
use Rattle.std.specs.Option.{option_map}
use Rattle.std.specs.Str.{all_ascii_digits}
use Rattle.std.specs.Str.Parse.{without_leading_plus}
use Rattle.cuwajimo.specs.declared.trouble.Trouble.{Trouble}
use Rattle.cuwajimo.specs.Troubles.{IfLine}

-- A word is a decimal number, however large, if it is one decimal digit or more. A plus sign may stand before them.
abbrev pub is_decimal : List ℕ → Bool
is_decimal word = nat_lt 0 (length (without_leading_plus word)) && all_ascii_digits (without_leading_plus word)

-- The number that decimal digits write, after a number that stands before them.
abbrev pub value_after : ℕ → List ℕ → ℕ
value_after n [] = n
value_after n (c ∷ cs) = value_after (10 * n + (c - 48)) cs

-- The number that a word writes, if it is a decimal number below the limit.
abbrev pub number_below : ℕ → List ℕ → Option ℕ
number_below limit word =
    cond (is_decimal word && nat_lt (value_after 0 (without_leading_plus word)) limit) (Some (value_after 0 (without_leading_plus word))) None

-- The same of a word that may be missing.
abbrev pub number_in : ℕ → Option (List ℕ) → Option ℕ
number_in limit None = None
number_in limit (Some word) = number_below limit word

-- What a hexadecimal digit stands for: 0 to 9, a to f, A to F.
abbrev pub hex_digit : ℕ → Option ℕ
hex_digit c = cond (nat_le 48 c && nat_le c 57) (Some (c - 48)) (cond (nat_le 97 c && nat_le c 102) (Some (c - 87)) (cond (nat_le 65 c && nat_le c 70) (Some (c - 55)) None))

-- A byte before some more, made of its higher digit and the lower one; none where the lower digit or the other bytes are missing.
abbrev pub low_joined : ℕ → Option ℕ → Option (List ℕ) → Option (List ℕ)
low_joined high None rest = None
low_joined high (Some low) rest = option_map (λ bytes. (16 * high + low) ∷ bytes) rest

-- A first byte before some more, where there are both: a byte has two digits, the higher one first.
abbrev pub pair_joined : Option ℕ → Option ℕ → Option (List ℕ) → Option (List ℕ)
pair_joined None low rest = None
pair_joined (Some high) low rest = low_joined high low rest

-- The bytes that a word of hexadecimal digits stands for, two digits a byte; none where a letter is no digit or one is left over.
abbrev pub hex_bytes : List ℕ → Option (List ℕ)
hex_bytes [] = Some []
hex_bytes (a ∷ []) = None
hex_bytes (a ∷ b ∷ rest) = pair_joined (hex_digit a) (hex_digit b) (hex_bytes rest)

-- What adding a word's bytes to some that were there leaves: those bytes after them, or a trouble, which is either want of memory
-- or a word that stands for no bytes.
abbrev pub HexAdded : List ℕ → List ℕ → List ℕ → Result (Unit {0}) Trouble → Type 0
HexAdded word before after (Ok t) = option_map (λ bytes. before ++ bytes) (hex_bytes word) ≡ Some after
HexAdded word before after (Err e) = IfLine e (hex_bytes word ≡ None)

-- Two parts one after the other, where there are both.
abbrev pub parts_joined : Option (List ℕ) → Option (List ℕ) → Option (List ℕ)
parts_joined None rest = None
parts_joined (Some part) rest = option_map (λ more. part ++ more) rest

-- What some words stand for, one word's part after the other's; none where a word stands for nothing.
abbrev pub all_parts : (List ℕ → Option (List ℕ)) → List (List ℕ) → Option (List ℕ)
all_parts part_of [] = Some []
all_parts part_of (word ∷ words) = parts_joined (part_of word) (all_parts part_of words)

-- The bytes that some words of hexadecimal digits stand for.
abbrev pub all_bytes : List (List ℕ) → Option (List ℕ)
all_bytes words = all_parts hex_bytes words

-- The number that a word writes, alone.
abbrev pub one_number : ℕ → List ℕ → Option (List ℕ)
one_number limit word = option_map (λ n. n ∷ []) (number_below limit word)

-- The numbers that some words write, each below the limit.
abbrev pub all_numbers : ℕ → List (List ℕ) → Option (List ℕ)
all_numbers limit words = all_parts (one_number limit) words

-- A word that may be missing is there, and is one of some names.
abbrev pub IsOneOf : List (List ℕ) → Option (List ℕ) → Type 0
IsOneOf [] word = ⊥
IsOneOf (name ∷ names) word = (word ≡ Some name) ⊎ IsOneOf names word
