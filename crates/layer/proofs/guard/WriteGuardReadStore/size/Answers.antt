use Rattle.layer.specs.Guards.{length_guard}
use Rattle.layer.proofs.guard.WriteGuardReadStore.size.Goals as goal

pub returns : goal.returns
returns g c = let s = c.args.self.now in let e = length_guard (g.S.ReadStore.blocks s.below) s.run in cc
