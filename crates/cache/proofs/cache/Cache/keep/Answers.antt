use Rattle.std.proofs.Common.{◌≡◌, length, set, sym, ap, ◌∙◌, subst, rules}
use Rattle.cache.specs.declared.slot.Slot.{Slot}
use Rattle.cache.specs.Caches.{held, means, put_at, with_room, Held, KeptLate}
use Rattle.cache.proofs.CacheFacts.{keeping_written}
use Rattle.cache.proofs.KeptLate.{keeping_late}
use Rattle.cache.proofs.OnceFacts.{room_once}
use Rattle.cache.specs.Once.{Once}
use Rattle.cache.proofs.cache.Cache.keep.Goals as goal

pub returns : goal.returns
returns g c =
    let s = c.args.self.now in
    let h = held g.S.ReadStore.blocks s in
    let roomy = c.room-place.new.self in
    let p = c.room-place.result in
    let b = c.args.block in
    let bytes = c.args.bytes.now in
    let whole : length c.args.bytes.now ≡ 256 = search rules in
    let eight : length c.args.self.now.slots ≡ 8 = search rules in
    let put = ap (λ (x : Slot). record { slots = set roomy.slots p x; below = g.S.ReadStore.blocks roomy.below; turn = roomy.turn }) c.fill.ensures
    ∙ ap (λ k. put_at k p b bytes) c.room-place.ensures.held
    ∙ ap (λ q. put_at (with_room h b) q b bytes) c.room-place.ensures.place in
    record {
      held = put;
      after = ap means put ∙ keeping_written h b bytes whole eight;
      late = subst (λ k. KeptLate h k b bytes) (sym put) (keeping_late h b bytes whole eight);
      base = c.room-place.ensures.base;
    }

pub invariant_of-self : goal.invariant_of-self
invariant_of-self g c =
    let s = c.args.self.now in
    let h = held g.S.ReadStore.blocks s in
    let roomy = c.room-place.new.self in
    let p = c.room-place.result in
    let room = room_once h c.args.block s.once roomy.slots p c.args.bytes.now roomy.once (ap (λ (k : Held). k.slots) c.room-place.ensures.held) c.room-place.ensures.place in
    record { once = subst (λ (x : Slot). Once (set roomy.slots p x)) (sym c.fill.ensures) room }
