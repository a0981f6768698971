use Rattle.std.proofs.Common.{rules}
use Rattle.master.proofs.MasterBlocks.{length_master}
use Rattle.master.proofs.master.Master.count.Goals as goal

pub returns-then-may_have-clause-blocks : goal.returns-then-may_have-clause-blocks
returns-then-may_have-clause-blocks c = let l = length_master c.args.self.now.bytes.now in search rules
