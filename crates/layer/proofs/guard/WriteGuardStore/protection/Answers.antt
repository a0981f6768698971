use Rattle.std.proofs.Common.{rules}
use Rattle.layer.proofs.GuardFacts.{guard_protection}
use Rattle.layer.proofs.guard.WriteGuardStore.protection.Goals as goal

pub returns-in_err-below : goal.returns-in_err-below
returns-in_err-below g c =
    let s = c.args.self.now in
    let e = rw (← c.protection.ensures, c.in_err-below.was) at (guard_protection (g.S.ReadStore.blocks s.below) s.run c.args.block) in
    search rules

pub returns-then-covered : goal.returns-then-covered
returns-then-covered g c =
    let s = c.args.self.now in
    rw (← c.protection.ensures, c.in_ok-below.was, ← c.contains-covered.ensures, c.if-covered.true) at (guard_protection (g.S.ReadStore.blocks s.below) s.run c.args.block)

pub returns-else-covered : goal.returns-else-covered
returns-else-covered g c =
    let s = c.args.self.now in
    rw (← c.protection.ensures, c.in_ok-below.was, ← c.contains-covered.ensures, c.if-covered.false) at (guard_protection (g.S.ReadStore.blocks s.below) s.run c.args.block)
