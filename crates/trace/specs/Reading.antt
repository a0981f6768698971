-- Taking parts off the front of bytes: none where there are too few.
use Rattle.std.specs.Prelude.{ℕ, cond, List, length, take, drop, Some, None, Option, option_and_then, nat_le}
use Rattle.std.specs.Borrow.{Bor}
use Rattle.std.specs.Int.{w16, w32, from_be_bytes}
use Rattle.std.specs.Option.{option_map}

-- What the first step gives is handed to the second; where it gives none, none comes of both.
infixl 10 ◌>>=◌
abbrev pub ◌>>=◌ : {A B : Type 0} → Option A → (A → Option B) → Option B
o >>= f = option_and_then f o

-- So many bytes, and those after them.
abbrev pub split : ℕ → List ℕ → Option (List ℕ × List ℕ)
split n bytes = cond (nat_le n (length bytes)) (Some (take n bytes, drop n bytes)) None

-- A number of two bytes, and the bytes after it; its most significant byte comes first.
abbrev pub u16_in : List ℕ → Option (ℕ × List ℕ)
u16_in bytes = option_map (λ p. (from_be_bytes w16 p.0, p.1)) (split 2 bytes)

-- And one of four bytes.
abbrev pub u32_in : List ℕ → Option (ℕ × List ℕ)
u32_in bytes = option_map (λ p. (from_be_bytes w32 p.0, p.1)) (split 4 bytes)

-- What a function of the code hands over, with the bytes that are left.
abbrev pub shown : {X : Type 0} → Option (X × Bor (List ℕ)) → Option (X × List ℕ)
shown o = option_map (λ p. (p.0, p.1.now)) o
