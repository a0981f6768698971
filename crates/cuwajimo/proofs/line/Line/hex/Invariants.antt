use Rattle.std.proofs.Common.{◌≡◌, drop, vec_items}
use Rattle.cuwajimo.specs.Lines.{texts}
use Rattle.cuwajimo.specs.Words.{hex_bytes, all_bytes}
use Rattle.cuwajimo.proofs.Parts.{parts_on}
use Rattle.cuwajimo.proofs.line.Line.hex.Given as goal

abbrev pub invariant-loop-word : goal.invariant-loop-word
invariant-loop-word l = parts_on hex_bytes (vec_items l.bytes) (drop l.word-index (texts l.word-items)) ≡ all_bytes (texts l.word-items)
