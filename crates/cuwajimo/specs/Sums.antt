-- The sum by which the program shows bytes.
use Rattle.std.specs.Prelude.{ℕ, ◌-◌, ◌*◌, ◌%◌, ◌^◌, false, List, [], ◌∷◌, ◌++◌, length, replicate, bit_xor}
use Rattle.std.specs.Fmt.{digits}
use Rattle.cuwajimo.specs.declared.fnv.Sum.{Sum}

-- One more byte: xor, then times the FNV prime, in 64 bits.
abbrev pub fnv_step : ℕ → ℕ → ℕ
fnv_step h b = (bit_xor h b * 0x100000001b3) % 2 ^ 64

-- The hash after some more bytes, taken in one after the other, from a hash h on.
abbrev pub fnv_from : ℕ → List ℕ → ℕ
fnv_from h [] = h
fnv_from h (b ∷ bs) = fnv_from (fnv_step h b) bs

-- The 64-bit FNV-1a hash, from the FNV offset basis on.
abbrev pub fnv : List ℕ → ℕ
fnv bytes = fnv_from 0xcbf29ce484222325 bytes

-- A number in hexadecimal digits, at least so many of them, with zeros in front.
abbrev pub hex_digits : ℕ → ℕ → List ℕ
hex_digits least n = replicate (least - length (digits 16 false n)) 48 ++ digits 16 false n

-- The sum that shows some bytes: their hash.
abbrev pub sum_of : List ℕ → Sum
sum_of bytes = record { 0 = fnv bytes }
