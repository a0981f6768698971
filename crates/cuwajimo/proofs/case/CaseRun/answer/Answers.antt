use Rattle.std.proofs.Common.{subst}
use Rattle.std.specs.Io.KnownBytes.{Appends}
use Rattle.cuwajimo.specs.declared.holders.Holders.{Holders}
use Rattle.cuwajimo.specs.Holders.{holders_words}
use Rattle.cuwajimo.specs.Printed.{line}
use Rattle.cuwajimo.proofs.case.CaseRun.answer.Goals as goal

pub returns-in_ok-writeln-in-Locks-clause-printed : goal.returns-in_ok-writeln-in-Locks-clause-printed
returns-in_ok-writeln-in-Locks-clause-printed g c =
    rw c.in-Locks.is
    (subst (λ (h : Holders). Appends (g.W.Write.contents c.args.out.now) (g.W.Write.contents c.writeln.new.self) (line (holders_words h))) c.of-holders.ensures
    c.in_ok-writeln-in-Locks.ensures.bytes)
