use Rattle.std.proofs.Common.{◌≡◌, List, ◌++◌}
use Rattle.cache.specs.declared.slot.Slot.{Slot}
use Rattle.cache.proofs.CacheFacts.{put_all, WholeSlots}
use Rattle.cache.proofs.cache.CacheStore.settle.Given as goal

-- The slots that were gone over, which are the last, are written back.
abbrev pub invariant-loop-slot : goal.invariant-loop-slot
invariant-loop-slot g l =
    (ss : List Slot)
    × (l.slot-iterator.iter.rest.now ++ ss ≡ l.fn.self.slots)
    × (g.S.ReadStore.blocks l.self.1.0 ≡ put_all (g.S.ReadStore.blocks l.fn.self.below) ss)
    × WholeSlots ss
    × (g.S.ReadStore.base_of l.self.1.0 ≡ g.S.ReadStore.base_of l.fn.self.below)
