-- The bytes that a script asks for in short.
use Rattle.std.specs.Prelude.{ℕ, ◌+◌, ◌*◌, ◌%◌, cond, List, map, length, ◌==◌, slice_index}
use Rattle.std.specs.List.{range_with_len}

-- The byte at a place of some bytes that are repeated without end, 0 where there are none.
abbrev pub repeated_at : List ℕ → ℕ → ℕ
repeated_at bytes place = cond (length bytes == 0) 0 (slice_index bytes (place % length bytes))

-- A buffer of so many bytes that repeats some.
abbrev pub repeating : List ℕ → ℕ → List ℕ
repeating bytes size = map (repeated_at bytes) (range_with_len 0 size)

-- Byte i of block b in pattern p is (p + 7 x b + i) mod 256.
abbrev pub pattern_byte : ℕ → ℕ → ℕ → ℕ
pattern_byte p b i = (p + 7 * b + i) % 256

-- Block b in pattern p, from byte 0 on; a block has 256 bytes.
abbrev pub pattern_block : ℕ → ℕ → List ℕ
pattern_block p b = map (pattern_byte p b) (range_with_len 0 256)
