-- What is told of a block of a pile.
use Rattle.std.specs.Prelude.{ℕ, List, ◌++◌, Some, None, codes, decimal, Option}
use Rattle.std.specs.List.{slice_get}
use Rattle.store.specs.declared.fault.Protection.{Protection}
use Rattle.store.specs.declared.fault.Protection.TheVariants as protections
use Rattle.store.specs.Blocks.{Block, Contents, sound, damaged}
use Rattle.cuwajimo.specs.declared.pile.BlockSaid.{BlockSaid}
use Rattle.cuwajimo.specs.declared.pile.Shown.{Shown}
use Rattle.cuwajimo.specs.declared.pile.Shown.TheVariants as shows
use Rattle.cuwajimo.specs.Sums.{hex_digits, sum_of}

-- A sound block tells the hash of its bytes, and each block that there is its protection.
abbrev pub shown_of : Contents → Protection → Shown
shown_of (sound bytes) protection = shows.Sound (sum_of bytes) protection
shown_of damaged protection = shows.Damaged protection

-- What is told at a number: of the block there by its contents and protection; where there is no block, that the number is beyond.
abbrev pub shown_if : Option Block → Shown
shown_if None = shows.Beyond
shown_if (Some block) = shown_of block.contents block.protection

-- What is told of block n of some blocks; of a number not below their count, that it is beyond.
abbrev pub shown_at : List Block → ℕ → Shown
shown_at blocks n = shown_if (slice_get blocks n)

-- The word for a protection.
abbrev pub protection_word : Protection → List ℕ
protection_word protections.Open = codes "open"
protection_word protections.Protected = codes "protected"

-- The words for what is told: beyond; sound, with the hash in 16 hexadecimal digits, or damaged, and then the protection.
abbrev pub shown_words : Shown → List ℕ
shown_words shows.Beyond = codes "beyond"
shown_words (shows.Sound sum protection) = codes "sound " ++ (hex_digits 16 sum.0 ++ (codes ", " ++ protection_word protection))
shown_words (shows.Damaged protection) = codes "damaged, " ++ protection_word protection

-- The line of a block: its number, and what is told of it.
abbrev pub block_said : BlockSaid → List ℕ
block_said said = codes "block " ++ (decimal said.block ++ (codes ": " ++ shown_words said.shown))
