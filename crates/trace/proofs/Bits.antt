-- The bits of the units whose locks are held, one more at each turn.
use Rattle.std.proofs.Common.{◌≡◌, ℕ, zero, suc, ◌+◌, ◌*◌, ◌%◌, ◌^◌, ◌<◌, ◌≤◌, Bool, true, false, cond, List, [], ◌∷◌, take, slice_index_or, arith, add-one, lit<}
use Rattle.std.proofs.Math.Nat.{pow-suc, pow-le-pow_right, mod-eq_of_lt}
use Rattle.trace.specs.Answers.{unit_bits}

abbrev pub bit : Bool → ℕ
bit b = cond b 1 0

bits_suc : (xs : List Bool) (i : ℕ) → unit_bits (take (suc i) xs) ≡ unit_bits (take i xs) + bit (slice_index_or xs i false) * 2 ^ i
bits_suc [] zero = omega arith
bits_suc [] (suc i) = omega arith
bits_suc (x ∷ xs) zero = omega arith
bits_suc (x ∷ xs) (suc i) =
    let more = bits_suc xs i in
    let p : 2 ^ suc i ≡ 2 ^ i * 2 = pow-suc 2 i in
    rw (more, p) (omega arith)

small_bit : (held : Bool) → bit held ≤ 1
small_bit true = omega arith
small_bit false = omega arith

-- a bit of 16 is not cut off, and leaves room for the next
fits : (i bits b : ℕ) → b ≤ 1 → bits < 2 ^ i → 2 ^ i ≤ 2 ^ 14 → (b * 2 ^ i % 65536 ≡ b * 2 ^ i) × (bits + b * 2 ^ i < 2 * 2 ^ i)
fits i bits b few small most = (mod-eq_of_lt (grind arith), grind arith)

-- one more unit's bit
pub one_more :
    (xs : List Bool) (i bits b : ℕ) → i < 15 → b ≡ bit (slice_index_or xs i false) → bits ≡ unit_bits (take i xs) → bits < 2 ^ i
    → (bits + b * 2 ^ i % 65536 ≡ unit_bits (take (i + 1) xs)) × (bits + b * 2 ^ i % 65536 < 2 ^ (i + 1))
one_more xs i bits b within is so_far small =
    let few : b ≤ 1 = omega (arith, small_bit (slice_index_or xs i false)) in
    let twice : 2 ^ suc i ≡ 2 ^ i * 2 = pow-suc 2 i in
    let low : i ≤ 14 = omega arith in
    let most : 2 ^ i ≤ 2 ^ 14 = pow-le-pow_right (lit< tt) low in
    let f = fits i bits b few small most in
    let more : unit_bits (take (suc i) xs) ≡ unit_bits (take i xs) + b * 2 ^ i = rw is (bits_suc xs i) in
    rw (add-one, f.0) (omega (arith, so_far, is), omega arith)
