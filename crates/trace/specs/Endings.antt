-- How a trace ends, and the number that tells it.
use Rattle.std.specs.Prelude.{ℕ, ◌+◌, ◌*◌, ◌^◌, Bool, true, false}
use Rattle.trace.specs.declared.ending.How.{How}
use Rattle.trace.specs.declared.ending.How.TheVariants as hows

-- The number that tells how a trace ended: 0 where every call was made.
abbrev pub how_code : How → ℕ
how_code hows.Whole = 0
how_code hows.NoHead = 1
how_code hows.NoImage = 2
how_code hows.NoMap = 3
how_code hows.NoCall = 4
how_code hows.NoRoom = 5

-- The upper 8 bits of 64 say how it ended, the lower 56 how many bytes of the output were written.
abbrev pub packed : How → ℕ → ℕ
packed how written = how_code how * 2 ^ 56 + written

-- Nothing was played: no device was built, so neither the image's memory nor the output was touched.
abbrev pub unplayed : How → Bool
unplayed hows.Whole = false
unplayed hows.NoHead = true
unplayed hows.NoImage = true
unplayed hows.NoMap = true
unplayed hows.NoCall = false
unplayed hows.NoRoom = false
