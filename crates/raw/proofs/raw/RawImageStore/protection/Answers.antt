use Rattle.std.proofs.Common.{rules}
use Rattle.raw.proofs.RawBlocks.{raw_protects}
use Rattle.raw.proofs.raw.RawImageStore.protection.Goals as goal

pub returns-then-block-count : goal.returns-then-block-count
returns-then-block-count c = let s = c.args.self.now in let e = raw_protects s.bytes.now s.spares.now s.records s.protection c.args.block in search rules

pub returns : goal.returns
returns c = let s = c.args.self.now in let e = raw_protects s.bytes.now s.spares.now s.records s.protection c.args.block in search rules
