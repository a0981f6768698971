use Rattle.std.proofs.Common.{◌≡◌, ◌++◌, [], ◌∷◌, length, Some, sym, refl, ap, ◌∙◌, subst, rules}
use Rattle.std.proofs.lemmas.List.{append_assoc, nil_from_length}
use Rattle.cache.specs.Caches.{put_slot, cached, WholeBytes}
use Rattle.cache.proofs.CacheFacts.{put_all, WholeSlots, same_held, put_all_cached, settled_same}
use Rattle.store.specs.Blocks.{written}
use Rattle.cache.proofs.cache.CacheStore.settle.Goals as goal

pub loop-slot-init : goal.loop-slot-init
loop-slot-init g c =
    let rest : c.into_iter-slot-iterator.result.iter.rest.now ++ [] ≡ c.args.self.now.slots = search rules in
    ([], rest, refl, tt, refl)

pub loop-slot-preserved-in-Some-block : goal.loop-slot-preserved-in-Some-block
loop-slot-preserved-in-Some-block g c =
    let slot = c.in-Some.slot.now in
    let bs = g.S.ReadStore.blocks c.args.self.now.below in
    let inv = c.loop-slot.invariant in
    let whole : length c.in-Some.slot.now.bytes ≡ 256 = search rules in
    let step : c.loop-slot.slot-iterator.iter.rest.now ≡ c.next.new.self.iter.rest.now ++ (c.in-Some.slot.now ∷ []) = search rules in
    let kept : c.in-Some.slot.now.block ≡ Some c.in-Some-block.block = search rules in (
      slot ∷ inv.0,
      sym (append_assoc c.next.new.self.iter.rest.now (slot ∷ []) inv.0) ∙ ap (λ l. l ++ inv.0) (sym step) ∙ inv.1,
      c.write.ensures.after ∙ ap (λ l. written l c.in-Some-block.block slot.bytes) inv.2 ∙ ap (λ o. put_slot (put_all bs inv.0) o slot.bytes) (sym kept),
      (subst (λ o. WholeBytes o slot.bytes) (sym kept) whole, inv.3),
      c.write.ensures.base ∙ inv.4,
    )

pub loop-slot-preserved : goal.loop-slot-preserved
loop-slot-preserved g c =
    let slot = c.in-Some.slot.now in
    let bs = g.S.ReadStore.blocks c.args.self.now.below in
    let inv = c.loop-slot.invariant in
    let step : c.loop-slot.slot-iterator.iter.rest.now ≡ c.next.new.self.iter.rest.now ++ (c.in-Some.slot.now ∷ []) = search rules in (
      slot ∷ inv.0,
      sym (append_assoc c.next.new.self.iter.rest.now (slot ∷ []) inv.0) ∙ ap (λ l. l ++ inv.0) (sym step) ∙ inv.1,
      inv.2 ∙ ap (λ o. put_slot (put_all bs inv.0) o slot.bytes) (sym c.in_default.is),
      (subst (λ o. WholeBytes o slot.bytes) (sym c.in_default.is) tt, inv.3),
      inv.4,
    )

pub returns : goal.returns
returns g c =
    let s = c.args.self.now in
    let bs = g.S.ReadStore.blocks s.below in
    let inv = c.loop-slot.invariant in
    let none : length c.loop-slot.slot-iterator.iter.rest.now ≡ 0 = search rules in
    let all : inv.0 ≡ s.slots = ap (λ l. l ++ inv.0) (sym (nil_from_length _ none)) ∙ inv.1 in
    let below = c.settle.ensures.same ∙ inv.2 ∙ ap (put_all bs) all ∙ put_all_cached bs s.slots (subst WholeSlots all inv.3) in
    let same = ap (λ l. cached l s.slots) below ∙ settled_same bs s.slots in
    record { same = same; settled = (c.settle.ensures.settled, below ∙ sym same); held = same_held refl below refl; base = c.settle.ensures.base ∙ inv.4 }
