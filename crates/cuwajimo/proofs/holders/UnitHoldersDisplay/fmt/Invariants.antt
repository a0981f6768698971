use Rattle.std.proofs.Common.{take, flat_map}
use Rattle.std.specs.List.{enumerate_from}
use Rattle.std.specs.Fmt.{HasWritten, IsPlainFormatter}
use Rattle.cuwajimo.specs.Holders.{held_words}
use Rattle.cuwajimo.proofs.holders.UnitHoldersDisplay.fmt.Given as goal

abbrev pub invariant-loop-unit : goal.invariant-loop-unit
invariant-loop-unit g l =
    IsPlainFormatter l.initial.f → HasWritten g.W.Write.write_str_gives l.initial.f (flat_map held_words (take l.unit-counter (enumerate_from 0 l.self.0.now))) l.f
