use Rattle.std.proofs.Common.{◌≡◌, ℕ, ◌-◌, ◌<◌, None}
use Rattle.desk.specs.Desks.{held}
use Rattle.desk.specs.Worlds.{all_given_back, world}
use Rattle.desk.proofs.session.Session.power_off.Given as goal

-- What is still to be given back leads to where all does; each host so far has no ticket; and the store stands on what it stood on.
abbrev pub invariant-loop-host : goal.invariant-loop-host
invariant-loop-host g l = record {
  so_far : all_given_back (world g.S.ReadStore.blocks l.self) (8 - l.host) l.host ≡ all_given_back (world g.S.ReadStore.blocks l.initial.self) 8 0;
  none : (h : ℕ) → h < l.host → held l.self.desk h ≡ None;
  base : g.S.ReadStore.base_of l.self.device.store ≡ g.S.ReadStore.base_of l.initial.self.device.store;
}
