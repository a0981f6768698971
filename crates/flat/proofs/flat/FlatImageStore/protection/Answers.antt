use Rattle.std.proofs.Common.{rules}
use Rattle.flat.proofs.FlatBlocks.{flat_protects}
use Rattle.flat.proofs.flat.FlatImageStore.protection.Goals as goal

pub returns-then-block-count : goal.returns-then-block-count
returns-then-block-count c = let s = c.args.self.now in let e = flat_protects s.bytes.now s.damage.now s.protection c.args.block in search rules

pub returns : goal.returns
returns c = let s = c.args.self.now in let e = flat_protects s.bytes.now s.damage.now s.protection c.args.block in search rules
