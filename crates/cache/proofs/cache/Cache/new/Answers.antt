use Rattle.cache.proofs.CacheFacts.{cached_vacant}
use Rattle.cache.proofs.cache.Cache.new.Goals as goal

pub returns-clause-same : goal.returns-clause-same
returns-clause-same g c = cached_vacant (g.S.ReadStore.blocks c.args.below)
