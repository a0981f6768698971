use Rattle.std.proofs.Common.{◌∙◌}
use Rattle.cache.proofs.CacheFacts.{cached_protection}
use Rattle.cache.proofs.cache.CacheStore.protection.Goals as goal

pub returns : goal.returns
returns g c = let s = c.args.self.now in c.protection.ensures ∙ cached_protection (g.S.ReadStore.blocks s.below) s.slots c.args.block
