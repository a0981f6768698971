use Rattle.std.proofs.Common.{rules}
use Rattle.flat.proofs.FlatBlocks.{length_flat}
use Rattle.flat.proofs.flat.FlatImage.count.Goals as goal

pub returns : goal.returns
returns c = let s = c.args.self.now in let l = length_flat s.bytes.now s.damage.now s.protection in search rules
