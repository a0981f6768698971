use Rattle.cache.proofs.CacheFacts.{kept_place}
use Rattle.cache.proofs.cache.Cache.keeps.Goals as goal

pub returns : goal.returns
returns g c = let e = kept_place c.args.self.now.slots c.args.block in cc
