use Rattle.std.proofs.Common.{rules}
use Rattle.raw.proofs.RawBlocks.{length_raw}
use Rattle.raw.proofs.raw.RawImage.count.Goals as goal

pub returns : goal.returns
returns c = let s = c.args.self.now in let l = length_raw s.bytes.now s.spares.now s.records s.protection in search rules
