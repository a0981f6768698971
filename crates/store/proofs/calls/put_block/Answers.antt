-- What the store answered and now means is what the definitions give, and of those the law is shown.
use Rattle.store.proofs.Writes.{write_law}
use Rattle.store.proofs.calls.put_block.Goals as goal

pub returns-clause-law : goal.returns-clause-law
returns-clause-law g c = rw (c.write.ensures.after, c.write.ensures.answer) (write_law (g.S.ReadStore.blocks c.args.store.now) c.args.block c.args.bytes.now)
