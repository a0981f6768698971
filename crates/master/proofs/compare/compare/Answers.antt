use Rattle.std.proofs.Common.{ℕ, List, Some, None, sym, subst₂, arith, inl, inr}
use Rattle.std.proofs.lemmas.Bool.{cases_lt}
use Rattle.store.specs.Blocks.{Block}
use Rattle.store.specs.Laws.{ReadsAlike}
use Rattle.master.proofs.CompareFacts.{is_first, law_of, alike_past}
use Rattle.master.proofs.compare.compare.Goals as goal

-- the block at which the loop ends does not read alike
not_here : (g : _) (c : goal.Then-not-is_alike g) → ReadsAlike (g.A.ReadStore.blocks c.args.a.now) (g.B.ReadStore.blocks c.args.b.now) c.loop-block.block → ⊥
not_here g c r =
    let was = subst₂ (λ (xs ys : List Block). ReadsAlike xs ys c.loop-block.block) (sym c.loop-block.invariant.one) (sym c.loop-block.invariant.other) r in
    let t = c.is_alike.ensures.answer.1 was in
    let f = c.if-not-is_alike.true in
    cc

pub returns-then-not-is_alike-clause-answer : goal.returns-then-not-is_alike-clause-answer
returns-then-not-is_alike-clause-answer g c =
    is_first (g.A.ReadStore.blocks c.args.a.now) (g.B.ReadStore.blocks c.args.b.now) (Some c.loop-block.block) (c.loop-block.invariant.alike, not_here g c)

pub returns-then-not-is_alike-clause-law : goal.returns-then-not-is_alike-clause-law
returns-then-not-is_alike-clause-law g c =
    law_of (g.A.ReadStore.blocks c.args.a.now) (g.B.ReadStore.blocks c.args.b.now) (Some c.loop-block.block) (c.loop-block.invariant.alike, not_here g c)

-- where it ends by itself, no block is left
none_left : (g : _) (c : goal.After-loop-block g) → (i : ℕ) → ReadsAlike (g.A.ReadStore.blocks c.args.a.now) (g.B.ReadStore.blocks c.args.b.now) i
none_left g c i = elim (cases_lt i c.loop-block.block) [
  | inl h ↦ c.loop-block.invariant.alike i h
  | inr h ↦
      alike_past (g.A.ReadStore.blocks c.args.a.now) (g.B.ReadStore.blocks c.args.b.now) i
      (omega (arith, c.loop-block-test.false, c.max-block-end.ensures, c.size.ensures))
      (omega (arith, c.loop-block-test.false, c.max-block-end.ensures, c.size-2.ensures))
]

pub returns-clause-answer : goal.returns-clause-answer
returns-clause-answer g c = is_first (g.A.ReadStore.blocks c.args.a.now) (g.B.ReadStore.blocks c.args.b.now) None (none_left g c)

pub returns-clause-law : goal.returns-clause-law
returns-clause-law g c = law_of (g.A.ReadStore.blocks c.args.a.now) (g.B.ReadStore.blocks c.args.b.now) None (none_left g c)
