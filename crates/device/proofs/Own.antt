-- What the others do leaves a host's own view: its record, its blocks, and its mail under the device's lock.
use Rattle.std.proofs.Common.{◌≡◌, ℕ, ◌<◌, Bool, true, false, ◌≢◌, ◌⊎◌, List, length, Some, None, Option, sym, refl, ap, ◌∙◌, subst, subst₂, inl, inr, arith}
use Rattle.std.proofs.lemmas.List.{get_or-set_same, get_or-set_other}
use Rattle.std.specs.List.{slice_get}
use Rattle.message.specs.declared.message.Message.{Message}
use Rattle.flex.specs.declared.unit_map.UnitMap.{UnitMap}
use Rattle.host.specs.declared.mail.Mail.{Mail}
use Rattle.host.specs.declared.record.Host.{Host}
use Rattle.host.specs.declared.want.Want.{Want}
use Rattle.host.specs.Hosts.{stands, another}
use Rattle.host.specs.Waits.{silent, judged_wait, settled_by, settled}
use Rattle.device.specs.Calls.{Call, by}
use Rattle.transfer.specs.Segments.{span}
use Rattle.device.specs.Device.{State, host_of, mail_of, fixed, asked, in_way, start, reach, answer, next}
use Rattle.device.specs.Isolation.{Guards, Own, KeepsAt, is_notice}
use Rattle.device.proofs.Tests.{clash, one_of}
use Rattle.device.proofs.Apart.{Grown}
use Rattle.device.proofs.Served.{earned}
use Rattle.transfer.proofs.Spans.{span_alike}
use Rattle.device.proofs.Steps.{fixed_next, map_next, host_other, host_own, hosts_kept, block_kept, did_grown, mail_next, posted_by}
use Rattle.device.proofs.States.{Sound, sound_next}
use Rattle.device.proofs.Holding.{Held, did_held, gives_across}
use Rattle.device.proofs.Keeping.{Home, Like, like_trans, like_sym, like_device, guards_like, kept, clear_way, free_way, other_span, own_span}
use Rattle.device.proofs.Congruence.{same_map, asked_alike, did_alike, answer_alike, block_alike}

-- The same to the host h, whose locks are those of x.
pub record Alike (h : ℕ) (x : Host) (s t : State) : Type 0 where
  pub left : Sound s
  pub right : Sound t
  pub fixed : fixed s ≡ fixed t
  pub here : (h < length s.hosts) × (h < length t.hosts)
  pub same : host_of s h ≡ host_of t h
  pub home : Home (host_of s h)
  pub like : Like x (host_of s h)
  pub blocks : (b : ℕ) → Guards s.map x b → slice_get s.blocks b ≡ slice_get t.blocks b
  pub mail : x.locks.device ≡ true → mail_of s h ≡ mail_of t h

pub alike_sym : (h : ℕ) (x : Host) (s t : State) → Alike h x s t → Alike h x t s
alike_sym h x s t r = record {
  left = r.right;
  right = r.left;
  fixed = sym r.fixed;
  here = (r.here.1, r.here.0);
  same = sym r.same;
  home = subst Home r.same r.home;
  like = subst (Like x) r.same r.like;
  blocks = λ b g. sym (r.blocks b (subst (λ (m : UnitMap). Guards m x b) (sym (same_map s t r.fixed)) g));
  mail = λ d. sym (r.mail d);
}

settled_clear : (hs ks : List Host) (g : ℕ) (o : Option Want) (m : Mail) → ((w : Want) → another (stands w) g hs ≡ false) → ((w : Want) → another (stands w) g ks ≡ false) → settled_by hs g o m ≡ settled_by ks g o m
settled_clear hs ks g None m p q = refl
settled_clear hs ks g (Some w) m p q = ap (λ (b : Bool). judged_wait b w m) (p w ∙ sym (q w))

-- Under the device's lock nothing is waited for.
no_wait : (s : State) (h : ℕ) → Sound s → (host_of s h).locks.device ≡ true → (mail_of s h).wait ≡ None
no_wait s h i d = go (mail_of s h).wait refl
  where
    go : (o : Option Want) → (mail_of s h).wait ≡ o → o ≡ None
    go None e = refl
    go (Some w) e = clash (another (stands w) h s.hosts) (i.waits h w e) (free_way s h i d w)

pub mail_own : (s : State) (c : Call) → by c < length s.mail → mail_of (next s c) (by c) ≡ settled (next s c).hosts (by c) (posted_by s c)
mail_own s c l = mail_next s c (by c) ∙ ap (settled (next s c).hosts (by c)) (get_or-set_same s.mail (by c) (posted_by s c) silent l)

pub mail_other : (s : State) (c : Call) (h : ℕ) → h ≢ by c → mail_of (next s c) h ≡ settled (next s c).hosts h (mail_of s h)
mail_other s c h n = mail_next s c h ∙ ap (settled (next s c).hosts h) (get_or-set_other s.mail (by c) h (posted_by s c) silent n)

-- What it asks for in a call is its own, if it keeps to its units there.
-- So its locks stay, and it stays at home.
pub kept_at : (s : State) (c : Call) → by c < length s.hosts → Home (host_of s (by c)) → KeepsAt s (by c) c → Home (host_of (next s c) (by c)) × Like (host_of s (by c)) (host_of (next s c) (by c))
kept_at s c l home k =
    let e = sym (host_own s c l) in
    kept
    (host_of s (by c))
    (host_of (next s c) (by c))
    (in_way s c)
    (asked s c)
    (subst (Grown (earned (in_way s c) (asked s c)) (host_of s (by c))) e (did_grown s c))
    (subst (Held (host_of s (by c))) e (did_held s c k.held))
    home
    k.own

-- A call of the host's own, on both sides.
module _ (s t : State) (c : Call) (x : Host) (r : Alike (by c) x s t) (own : ((host_of s (by c)).locks.device ≡ true) ⊎ Own (host_of s (by c)) (asked s c)) where
  asked_own : asked s c ≡ asked t c
  asked_own = asked_alike s t c r.fixed r.same

  way_left : in_way s c ≡ false
  way_left = clear_way s (by c) r.left r.home (asked s c) own

  way_right : in_way t c ≡ false
  way_right =
      clear_way
      t
      (by c)
      r.right
      (subst Home r.same r.home)
      (asked t c)
      (subst₂ (λ (y : Host) (o : Option Message). (y.locks.device ≡ true) ⊎ Own y o) r.same asked_own own)

  way_own : in_way s c ≡ in_way t c
  way_own = way_left ∙ sym way_right

  span_own : span s.blocks (start s (by c)) (reach s (by c)) ≡ span t.blocks (start s (by c)) (reach s (by c))
  span_own =
      span_alike s.blocks t.blocks (start s (by c)) (reach s (by c)) (λ b p q. r.blocks b (guards_like s.map (host_of s (by c)) x b (like_sym x (host_of s (by c)) r.like) (own_span s (by c) r.left r.home b p q)))

  same_after : host_of (next s c) (by c) ≡ host_of (next t c) (by c)
  same_after = host_own s c r.here.0 ∙ (did_alike s t c r.fixed way_own r.same span_own).0 ∙ sym (host_own t c r.here.1)

  -- Its answer is the same.
  pub answer_own : (is_notice c ≡ false) ⊎ (x.locks.device ≡ true) → answer s c ≡ answer t c
  answer_own n = answer_alike s t c r.fixed way_own r.same span_own (one_of n (λ e. inl e) (λ d. inr (r.mail d)))

  -- And so is its mail, under the device's lock.
  mail_after : x.locks.device ≡ true → (host_of (next s c) (by c)).locks.device ≡ true → mail_of (next s c) (by c) ≡ mail_of (next t c) (by c)
  mail_after d ds =
      let dt = subst (λ (y : Host). y.locks.device ≡ true) same_after ds in
      let m : posted_by s c ≡ posted_by t c = let a = way_own in let e = asked_own in let i = r.same in let l = r.mail d in cc in
      let ls : by c < length s.mail = omega (arith, r.left.mailed, r.here.0) in
      let lt : by c < length t.mail = omega (arith, r.right.mailed, r.here.1) in
      mail_own s c ls ∙
      settled_clear (next s c).hosts (next t c).hosts (by c) (posted_by s c).wait (posted_by s c) (free_way (next s c) (by c) (sound_next s c r.left) ds) (free_way (next t c) (by c) (sound_next t c r.right) dt) ∙
      ap (settled (next t c).hosts (by c)) m ∙
      sym (mail_own t c lt)

  pub own_step : KeepsAt s (by c) c → Alike (by c) x (next s c) (next t c)
  own_step k =
      let K = kept_at s c r.here.0 r.home k in
      let like = like_trans x (host_of s (by c)) (host_of (next s c) (by c)) r.like K.1 in
      record {
        left = sound_next s c r.left;
        right = sound_next t c r.right;
        fixed = fixed_next s c ∙ r.fixed ∙ sym (fixed_next t c);
        here = (rw (hosts_kept s c) r.here.0, rw (hosts_kept t c) r.here.1);
        same = same_after;
        home = K.0;
        like = like;
        blocks = λ b g. block_alike s t c r.fixed way_own r.same span_own b (r.blocks b (subst (λ (m : UnitMap). Guards m x b) (map_next s c) g));
        mail = λ d. mail_after d (like_device x (host_of (next s c) (by c)) like d);
      }

-- It keeps to its units on one side if on the other.
pub keeps_across : (s t : State) (c : Call) (x : Host) → Alike (by c) x s t → KeepsAt t (by c) c → KeepsAt s (by c) c
keeps_across s t c x r k =
    let own = subst₂ (λ (y : Host) (o : Option Message). (y.locks.device ≡ true) ⊎ Own y o) (sym r.same) (sym (asked_alike s t c r.fixed r.same)) k.own in
    record { own = own; held = λ g. k.held (gives_across s t c (λ n. answer_own s t c x r own (inl n)) (asked_alike s t c r.fixed r.same) r.same g) }

-- A call of another's, on one side.
pub other_step : (s t : State) (c : Call) (h : ℕ) (x : Host) → h ≢ by c → Alike h x s t → Alike h x (next s c) t
other_step s t c h x n r =
    let e = host_other s c h n in
    record {
      left = sound_next s c r.left;
      right = r.right;
      fixed = fixed_next s c ∙ r.fixed;
      here = (rw (hosts_kept s c) r.here.0, r.here.1);
      same = e ∙ r.same;
      home = subst Home (sym e) r.home;
      like = subst (Like x) (sym e) r.like;
      blocks = λ b g.
          let mine = subst (λ (m : UnitMap). Guards m x b) (map_next s c) g in
          block_kept s c b (λ p q. other_span s h (by c) r.left (λ d. n (sym d)) b p q (guards_like s.map x (host_of s h) b r.like mine)) ∙ r.blocks b mine;
      mail = λ d.
          let w = no_wait s h r.left (like_device x (host_of s h) r.like d) in
          mail_other s c h n ∙ ap (λ (o : Option Want). settled_by (next s c).hosts h o (mail_of s h)) w ∙ r.mail d;
    }
