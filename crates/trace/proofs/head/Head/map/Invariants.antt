use Rattle.std.proofs.Common.{◌≡◌, length, take, map}
use Rattle.trace.specs.Heads.{unit_of}
use Rattle.trace.proofs.head.Head.map.Given as goal

abbrev pub invariant-loop-place : goal.invariant-loop-place
invariant-loop-place l = (length l.units ≡ 15) × (take l.place l.units ≡ map unit_of (take l.place l.self.units.now))
