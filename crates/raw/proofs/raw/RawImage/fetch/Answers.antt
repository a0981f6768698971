-- What the record's flag and data give is what the store's definitions ask.
use Rattle.std.proofs.Common.{rules}
use Rattle.raw.proofs.RawBlocks.{raw_reads}
use Rattle.raw.proofs.raw.RawImage.fetch.Goals as goal

pub returns-then-self-at-ne-SOUND : goal.returns-then-self-at-ne-SOUND
returns-then-self-at-ne-SOUND c = let s = c.args.self.now in let e = raw_reads s.bytes.now s.spares.now s.records s.protection c.args.block c.args.buffer.now in search rules

pub returns : goal.returns
returns c = let s = c.args.self.now in let e = raw_reads s.bytes.now s.spares.now s.records s.protection c.args.block c.args.buffer.now in search rules
