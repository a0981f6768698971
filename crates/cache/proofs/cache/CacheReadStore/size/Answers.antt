use Rattle.std.proofs.Common.{sym, ◌∙◌}
use Rattle.cache.specs.Caches.{length_cached}
use Rattle.cache.proofs.cache.CacheReadStore.size.Goals as goal

pub returns : goal.returns
returns g c = let s = c.args.self.now in c.size.ensures ∙ sym (length_cached (g.S.ReadStore.blocks s.below) s.slots)
