-- What a host does at home leaves the others as they are: their answers, their records, and every block that it does not guard.
use Rattle.std.proofs.Common.{◌≡◌, ℕ, false, ◌+◌, ◌<◌, ◌≤◌, ◌≢◌, List, length, get_or, set, Some, None, Option, sym, refl, ap, ◌∙◌, subst, inl, arith}
use Rattle.std.proofs.lemmas.Bool.{cases_eq}
use Rattle.std.specs.List.{slice_get}
use Rattle.message.specs.declared.message.Message.{Message}
use Rattle.flex.specs.declared.unit_map.UnitMap.{UnitMap}
use Rattle.host.specs.declared.record.Host.{Host}
use Rattle.host.specs.declared.want.Want.{Want}
use Rattle.host.specs.Hosts.{blank, host_at, stands}
use Rattle.host.specs.Messages.{wanted}
use Rattle.device.specs.Calls.{Call, by}
use Rattle.transfer.specs.Segments.{span}
use Rattle.device.specs.Device.{State, host_of, fixed, blocked, asked, in_way, start, reach, answer, next}
use Rattle.device.specs.Isolation.{Guards, KeepsAt, is_notice}
use Rattle.device.proofs.Tests.{one_of}
use Rattle.device.proofs.Standing.{any_none, another_same, stands_blank}
use Rattle.transfer.proofs.Spans.{span_alike, set_alike}
use Rattle.device.proofs.Steps.{did, fixed_next, map_next, host_other, hosts_next, hosts_kept, block_kept}
use Rattle.device.proofs.States.{Sound, sound_next}
use Rattle.device.proofs.Keeping.{Home, Like, like_trans, like_sym, guards_like, other_span, own_span}
use Rattle.device.proofs.Congruence.{asked_alike, did_alike, answer_alike, block_alike}
use Rattle.device.proofs.Own.{kept_at}

-- At home, what a host does under its locks is in nobody's way that the locks are not in already.
stands_like : (w : Want) (x y : Host) → Like x y → Home x → Home y → stands w x ≡ stands w y
unfolding stands
stands_like w x y l h k = grind (arith, any_none)

-- The same to all but the host h, whose locks are those of x.
pub record Foreign (h : ℕ) (x : Host) (s t : State) : Type 0 where
  pub left : Sound s
  pub right : Sound t
  pub fixed : fixed s ≡ fixed t
  pub here : h < length s.hosts
  pub number : length s.hosts ≡ length t.hosts
  pub same : (g : ℕ) → g ≢ h → host_of s g ≡ host_of t g
  pub home : Home (host_of s h) × Home (host_of t h)
  pub like : Like x (host_of s h) × Like x (host_of t h)
  pub blocks : (b : ℕ) → (Guards s.map x b → ⊥) → slice_get s.blocks b ≡ slice_get t.blocks b

-- A call of its own, on one side.
pub mine_step : (s t : State) (c : Call) (x : Host) → Foreign (by c) x s t → KeepsAt s (by c) c → Foreign (by c) x (next s c) t
mine_step s t c x r k =
    let K = kept_at s c r.here r.home.0 k in
    record {
      left = sound_next s c r.left;
      right = r.right;
      fixed = fixed_next s c ∙ r.fixed;
      here = rw (hosts_kept s c) r.here;
      number = hosts_kept s c ∙ r.number;
      same = λ g n. host_other s c g n ∙ r.same g n;
      home = (K.0, r.home.1);
      like = (like_trans x (host_of s (by c)) (host_of (next s c) (by c)) r.like.0 K.1, r.like.1);
      blocks = λ b g.
          let not_mine : Guards s.map x b → ⊥ = λ m. g (subst (λ (u : UnitMap). Guards u x b) (sym (map_next s c)) m) in
          block_kept s c b (λ p q. not_mine (guards_like s.map (host_of s (by c)) x b (like_sym x (host_of s (by c)) r.like.0) (own_span s (by c) r.left r.home.0 b p q))) ∙ r.blocks b not_mine;
    }

-- A call of another's, on both sides.
module _ (s t : State) (c : Call) (h : ℕ) (x : Host) (n : by c ≢ h) (r : Foreign h x s t) where
  caller : host_of s (by c) ≡ host_of t (by c)
  caller = r.same (by c) n

  stands_same : (w : Want) (g : ℕ) → stands w (host_of s g) ≡ stands w (host_of t g)
  stands_same w g =
      one_of
      (cases_eq g h)
      (λ e. rw e (stands_like w (host_of s h) (host_of t h) (like_trans (host_of s h) x (host_of t h) (like_sym x (host_of s h) r.like.0) r.like.1) r.home.0 r.home.1))
      (λ m. ap (stands w) (r.same g m))

  blocked_same : (o : Option Message) → blocked s.hosts (by c) o ≡ blocked t.hosts (by c) o
  blocked_same None = refl
  blocked_same (Some m) = another_same (stands (wanted m)) (stands_blank (wanted m)) (by c) s.hosts t.hosts (λ g _. stands_same (wanted m) g)

  way_same : in_way s c ≡ in_way t c
  way_same = blocked_same (asked s c) ∙ ap (blocked t.hosts (by c)) (asked_alike s t c r.fixed caller)

  -- The caller's span is none of the host's.
  not_guarded : (b : ℕ) → start s (by c) ≤ b → b < start s (by c) + reach s (by c) → Guards s.map x b → ⊥
  not_guarded b p q g = other_span s h (by c) r.left n b p q (guards_like s.map x (host_of s h) b r.like.0 g)

  span_same : span s.blocks (start s (by c)) (reach s (by c)) ≡ span t.blocks (start s (by c)) (reach s (by c))
  span_same = span_alike s.blocks t.blocks (start s (by c)) (reach s (by c)) (λ b p q. r.blocks b (not_guarded b p q))

  -- Its answer is the same, but to a notice call.
  pub answer_theirs : is_notice c ≡ false → answer s c ≡ answer t c
  answer_theirs q = answer_alike s t c r.fixed way_same caller span_same (inl q)

  host_same : (g : ℕ) → g ≢ h → host_of (next s c) g ≡ host_of (next t c) g
  host_same g m =
      ap (λ (l : List Host). host_at l g) (hosts_next s c) ∙
      set_alike s.hosts t.hosts (by c) (did s c).host blank g r.number (r.same g m) ∙
      ap (λ (y : Host). get_or (set t.hosts (by c) y) g blank) (did_alike s t c r.fixed way_same caller span_same).0 ∙
      sym (ap (λ (l : List Host). host_at l g) (hosts_next t c))

  pub theirs_step : Foreign h x (next s c) (next t c)
  theirs_step =
      let hs = host_other s c h (λ e. n (sym e)) in
      let ht = host_other t c h (λ e. n (sym e)) in
      record {
        left = sound_next s c r.left;
        right = sound_next t c r.right;
        fixed = fixed_next s c ∙ r.fixed ∙ sym (fixed_next t c);
        here = rw (hosts_kept s c) r.here;
        number = hosts_kept s c ∙ r.number ∙ sym (hosts_kept t c);
        same = host_same;
        home = (subst Home (sym hs) r.home.0, subst Home (sym ht) r.home.1);
        like = (subst (Like x) (sym hs) r.like.0, subst (Like x) (sym ht) r.like.1);
        blocks = λ b g. block_alike s t c r.fixed way_same caller span_same b (r.blocks b (λ m. g (subst (λ (u : UnitMap). Guards u x b) (sym (map_next s c)) m)));
      }
