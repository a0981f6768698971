use Rattle.std.proofs.Common.{◌≡◌, cond, length, is_ok, sym, ap, ◌∙◌, rules}
use Rattle.cache.specs.Caches.{held, keeping}
use Rattle.cache.proofs.CacheFacts.{admitted, admitted_write, refused_write}
use Rattle.cache.proofs.cache.CacheStore.write.Goals as goal

pub returns-in_err-protection : goal.returns-in_err-protection
returns-in_err-protection g c =
    let s = c.args.self.now in
    let b = c.args.block in
    let long : length c.args.bytes.now ≡ 256 = search rules in
    let answer = ap (λ r. admitted r b) (sym c.in_err-protection.was ∙ c.protection.ensures) ∙ admitted_write (g.S.ReadStore.blocks s.below) s.slots b c.args.bytes.now long in
    let refused = refused_write (held g.S.ReadStore.blocks s) b c.args.bytes.now _ answer in
    search rules

pub returns-in_err-permit : goal.returns-in_err-permit
returns-in_err-permit g c =
    let s = c.args.self.now in
    let b = c.args.block in
    let long : length c.args.bytes.now ≡ 256 = search rules in
    let answer = sym c.in_err-permit.was
    ∙ c.permit.ensures
    ∙ ap (λ r. admitted r b) (sym c.in_ok-protection.was ∙ c.protection.ensures)
    ∙ admitted_write (g.S.ReadStore.blocks s.below) s.slots b c.args.bytes.now long in
    let refused = refused_write (held g.S.ReadStore.blocks s) b c.args.bytes.now _ answer in
    search rules

pub returns : goal.returns
returns g c =
    let s = c.args.self.now in
    let h = held g.S.ReadStore.blocks s in
    let b = c.args.block in
    let long : length c.args.bytes.now ≡ 256 = search rules in
    let answer = sym c.in_ok-permit.was
    ∙ c.permit.ensures
    ∙ ap (λ r. admitted r b) (sym c.in_ok-protection.was ∙ c.protection.ensures)
    ∙ admitted_write (g.S.ReadStore.blocks s.below) s.slots b c.args.bytes.now long in
    let kept = ap (λ r. cond (is_ok r) (keeping h b c.args.bytes.now) h) answer in
    search rules
