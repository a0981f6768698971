use Rattle.std.proofs.Common.{◌≡◌, true, false, cond, ◌&&◌, length, get_or, is_ok, Some, Ok, sym, refl, ap, ◌∙◌, inl, rules}
use Rattle.std.specs.List.{slice_get}
use Rattle.std.proofs.lemmas.Bool.{false≢true, not-true, not-false}
use Rattle.store.specs.Blocks.{read_answer, read_buffer, written, is_open_at}
use Rattle.cache.specs.Caches.{held, means, keeping, no_slot, cached}
use Rattle.cache.proofs.SlotFacts.{first_place, first_kept, none_kept}
use Rattle.cache.proofs.CacheFacts.{compared_open, shut_same, open_kept, unkept_same, keeping_again, read_anew, read_keeps, same_read, open_read}
use Rattle.cache.proofs.cache.CacheReadStore.read.Goals as goal

pub returns-then-ne : goal.returns-then-ne
returns-then-ne g c =
    let s = c.args.self.now in
    let bs = g.S.ReadStore.blocks s.below in
    let h = held g.S.ReadStore.blocks s in
    let b = c.args.block in
    let buffer = c.args.buffer.now in
    let lent : c.in_ok-buffer.buffer.now ≡ c.args.buffer.now = search rules in
    let shut : is_open_at (slice_get bs b) ≡ false = not-true _ (sym (compared_open _ _ refl refl (slice_get bs b) b) ∙ sym (rw c.protection.ensures at c.ne.ensures) ∙ c.if-ne.true) in
    let alike = same_read bs (means h) b buffer (sym (shut_same bs s.slots b shut)) in
    record {
      answer = c.read.ensures.answer ∙ ap (read_answer bs b) lent ∙ alike.0;
      buffer = c.read.ensures.buffer ∙ ap (read_buffer bs b) lent ∙ alike.1;
      same = ap (λ l. cached l s.slots) c.read.ensures.same;
      held =
          ap (λ l. record { slots = s.slots; below = l; turn = s.turn }) c.read.ensures.same
          ∙ sym (ap (λ t. cond (t && is_ok (read_answer (means h) b buffer)) (keeping h b (read_buffer (means h) b buffer)) h) shut);
      late = λ _ free. absurd (false≢true (sym shut ∙ free));
      base = c.read.ensures.base;
    }

pub returns-in-Some : goal.returns-in-Some
returns-in-Some g c =
    let s = c.args.self.now in
    let bs = g.S.ReadStore.blocks s.below in
    let h = held g.S.ReadStore.blocks s in
    let b = c.args.block in
    let long : length c.args.buffer.now ≡ 256 = search rules in
    let p = c.in-Some.place in
    let bytes = (get_or c.args.self.now.slots c.in-Some.place no_slot).bytes in
    let buffer = c.args.buffer.now in
    let lent : c.in_ok-buffer.buffer.now ≡ c.args.buffer.now = search rules in
    let own = sym c.in-Some.ensures.place in
    let free : is_open_at (slice_get bs b) ≡ true = not-false _ (sym (compared_open _ _ refl refl (slice_get bs b) b) ∙ sym (rw c.protection.ensures at c.ne.ensures) ∙ c.if-ne.false) in
    let whole : length (get_or c.args.self.now.slots c.in-Some.place no_slot).bytes ≡ 256 = search rules in
    let kept_here = first_kept s.slots b p (first_place s.slots (Some b) p own) in
    let here = open_kept bs s.slots b bytes free kept_here whole in
    let got = open_read (means h) b buffer bytes long here in
    record {
      answer = got.0;
      buffer = got.1;
      same = refl;
      held = sym (keeping_again h b p own) ∙ read_keeps h b buffer free (Ok tt) bytes got.0 got.1;
      late = λ _ _. record { own = kept_here; rest = inl (refl, λ i ne. refl); counts = λ _ all. all };
      base = refl;
    }

pub returns : goal.returns
returns g c =
    let s = c.args.self.now in
    let bs = g.S.ReadStore.blocks s.below in
    let h = held g.S.ReadStore.blocks s in
    let b = c.args.block in
    let long : length c.args.buffer.now ≡ 256 = search rules in
    let buffer = c.args.buffer.now in
    let lent : c.in_ok-buffer.buffer.now ≡ c.args.buffer.now = search rules in
    let missing = none_kept s.slots b (sym c.in_default.ensures.place) in
    let free : is_open_at (slice_get bs b) ≡ true = not-false _ (sym (compared_open _ _ refl refl (slice_get bs b) b) ∙ sym (rw c.protection.ensures at c.ne.ensures) ∙ c.if-ne.false) in
    let alike = same_read bs (means h) b buffer (sym (unkept_same bs s.slots b missing)) in
    let answer = c.fetch.ensures.answer ∙ ap (read_answer bs b) lent ∙ alike.0 in
    let got = c.fetch.ensures.buffer ∙ ap (read_buffer bs b) lent ∙ alike.1 in
    record {
      answer = answer;
      buffer = got;
      same =
          c.fetch.ensures.after
          ∙ ap (λ r. cond (is_ok r) (written (means h) b c.fetch.new.buffer) (means h)) (c.fetch.ensures.answer ∙ ap (read_answer bs b) lent)
          ∙ ap (λ x. cond (is_ok (read_answer bs b buffer)) (written (means h) b x) (means h)) (c.fetch.ensures.buffer ∙ ap (read_buffer bs b) lent)
          ∙ read_anew bs s.slots b buffer long free missing;
      held = c.fetch.ensures.held ∙ read_keeps h b buffer free c.fetch.result c.fetch.new.buffer answer got;
      late = λ ok _. c.fetch.ensures.late ok;
      base = c.fetch.ensures.base;
    }
