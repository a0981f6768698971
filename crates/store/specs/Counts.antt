-- How many blocks there may be. It stands by itself, since unit maps keep to it too, which know nothing of what a block is.
use Rattle.std.specs.Prelude.{ℕ}

-- The most blocks that a store has.
abbrev pub most_blocks : ℕ
most_blocks = 4194304
