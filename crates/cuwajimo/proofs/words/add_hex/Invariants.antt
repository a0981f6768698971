use Rattle.std.proofs.Common.{◌≡◌, drop, None, vec_items}
use Rattle.cuwajimo.proofs.Hexadecimal.{FitsHalf, reads_on}
use Rattle.cuwajimo.proofs.words.add_hex.Given as goal

abbrev pub invariant-loop-letter : goal.invariant-loop-letter
invariant-loop-letter l =
    FitsHalf l.high
    × (reads_on (vec_items l.bytes) l.high (drop l.letter-index l.word) ≡ reads_on (vec_items l.initial.bytes) None l.word)
