use Rattle.std.proofs.Common.{◌≡◌, List, length, get_or, set, None, sym, ap, refl, ◌∙◌, subst, arith, rules}
use Rattle.std.proofs.lemmas.List.{set-get_or}
use Rattle.cache.specs.declared.slot.Slot.{Slot}
use Rattle.cache.specs.Once.{Once}
use Rattle.cache.specs.Caches.{held, no_slot, without_block}
use Rattle.cache.proofs.CacheFacts.{same_held}
use Rattle.cache.proofs.OnceFacts.{flushed, once_vacant}
use Rattle.cache.proofs.cache.Cache.flush.Goals as goal

-- the slots are lent for their bytes, and come back as they were
pub invariant_of-self : goal.invariant_of-self
invariant_of-self g c =
    let s = c.args.self.now in
    let p = c.args.place in
    let once = once_vacant s.slots p (get_or s.slots p no_slot).bytes s.once in
    record { once = subst (λ (l : List Slot). Once (set l p (record { block = None; bytes = (get_or l p no_slot).bytes }))) (sym (set-get_or s.slots p no_slot)) once }

pub returns-in-Some-clause-held : goal.returns-in-Some-clause-held
returns-in-Some-clause-held g c =
    let s = c.args.self.now in
    let p = c.args.place in
    let bs = g.S.ReadStore.blocks s.below in
    let eight : length c.args.self.now.slots ≡ 8 = search rules in
    let back = ap (λ (l : List Slot). set l p (record { block = None; bytes = (get_or l p no_slot).bytes })) (set-get_or s.slots p no_slot) in
    let f = flushed bs s.slots p c.in-Some.block s.once (omega (arith, eight, c.requires)) c.in-Some.is in
    same_held (back ∙ f.0) (c.write.ensures.after ∙ f.1) refl ∙ ap (without_block (held g.S.ReadStore.blocks s)) (sym c.in-Some.is)
