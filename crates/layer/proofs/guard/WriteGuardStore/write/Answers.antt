use Rattle.std.proofs.Common.{Err, sym, ap, ◌∙◌, subst, arith}
use Rattle.store.specs.Blocks.{protections_of}
use Rattle.store.proofs.Writes.{protections_written}
use Rattle.layer.specs.Guards.{guard, RunStays}
use Rattle.layer.proofs.GuardFacts.{past_write, past_written, run_write, run_written, free_write, free_written, free_stays}
use Rattle.layer.proofs.guard.WriteGuardStore.write.Goals as goal

pub returns-then-block-size-clause-answer : goal.returns-then-block-size-clause-answer
returns-then-block-size-clause-answer g c =
    let s = c.args.self.now in ap Err c.at-then-block-size.ensures ∙ past_write (g.S.ReadStore.blocks s.below) s.run c.args.block c.args.bytes.now c.if-bytes-ne-BLOCK_BYTES.false (omega (arith, c.size.ensures))

pub returns-then-block-size-clause-after : goal.returns-then-block-size-clause-after
returns-then-block-size-clause-after g c =
    let s = c.args.self.now in past_written (g.S.ReadStore.blocks s.below) s.run c.args.block c.args.bytes.now c.if-bytes-ne-BLOCK_BYTES.false (omega (arith, c.size.ensures))

pub returns-then-contains-clause-answer : goal.returns-then-contains-clause-answer
returns-then-contains-clause-answer g c =
    let s = c.args.self.now in ap Err c.at-then-contains.ensures ∙ run_write (g.S.ReadStore.blocks s.below) s.run c.args.block c.args.bytes.now c.if-bytes-ne-BLOCK_BYTES.false (omega (arith, c.size.ensures)) (sym c.if-contains.ensures)

pub returns-then-contains-clause-after : goal.returns-then-contains-clause-after
returns-then-contains-clause-after g c =
    let s = c.args.self.now in run_written (g.S.ReadStore.blocks s.below) s.run c.args.block c.args.bytes.now c.if-bytes-ne-BLOCK_BYTES.false (omega (arith, c.size.ensures)) (sym c.if-contains.ensures)

pub returns-clause-answer : goal.returns-clause-answer
returns-clause-answer g c =
    let s = c.args.self.now in c.write.ensures.answer ∙ free_write (g.S.ReadStore.blocks s.below) s.run c.args.block c.args.bytes.now c.if-bytes-ne-BLOCK_BYTES.false (sym c.if-contains.ensures)

pub returns-clause-after : goal.returns-clause-after
returns-clause-after g c =
    let s = c.args.self.now in
    ap (λ l. guard l s.run) c.write.ensures.after ∙ free_written (g.S.ReadStore.blocks s.below) s.run c.args.block c.args.bytes.now c.if-bytes-ne-BLOCK_BYTES.false (sym c.if-contains.ensures)

pub returns-clause-stays : goal.returns-clause-stays
returns-clause-stays g c =
    let s = c.args.self.now in
    let bs = g.S.ReadStore.blocks s.below in
    subst (λ l. RunStays bs l s.run) (sym c.write.ensures.after) (free_stays bs s.run c.args.block c.args.bytes.now c.if-bytes-ne-BLOCK_BYTES.false (sym c.if-contains.ensures))

pub returns-clause-base : goal.returns-clause-base
returns-clause-base g c =
    let s = c.args.self.now in
    let e = ap protections_of c.write.ensures.after ∙ protections_written (g.S.ReadStore.blocks s.below) c.args.block c.args.bytes.now in
    rw (c.write.ensures.base, e)
