-- Over whole runs: a run against a host's own calls alone, and against the others' alone.
use Rattle.std.proofs.Common.{◌≡◌, ℕ, ◌<◌, Bool, true, false, cond, not, ◌&&◌, ◌⊎◌, List, [], ◌∷◌, length, filter, sym, refl, ap, ◌∙◌, subst, inl, inr}
use Rattle.std.proofs.lemmas.List.{get_or_past}
use Rattle.std.proofs.lemmas.Bool.{cases_lt, eqb-true, eqb-false, and_parts, not-true}
use Rattle.std.specs.List.{slice_get}
use Rattle.flex.specs.declared.unit_map.UnitMap.{UnitMap}
use Rattle.host.specs.declared.record.Host.{Host}
use Rattle.host.specs.Hosts.{blank}
use Rattle.device.specs.Calls.{Call, by}
use Rattle.device.specs.Device.{State, host_of, answer, next, run}
use Rattle.device.specs.Isolation.{Guards, Holds, KeepsAt, KeepsIn, by_host, by_others, by_host_but_notices, by_others_but_notices, answers, is_notice, Isolated, IsolationFrom, Isolation}
use Rattle.device.specs.Laws.{SideBySide, ApartnessFrom, Apartness}
use Rattle.device.proofs.Tests.{clash, one_of}
use Rattle.device.proofs.States.{Sound, sound_on, sound_run, map_run}
use Rattle.device.proofs.Keeping.{Home, home_from, like_self}
use Rattle.device.proofs.Own.{Alike, alike_sym, own_step, answer_own, other_step, keeps_across}
use Rattle.device.proofs.Others.{Foreign, mine_step, theirs_step, answer_theirs}

module _ (h : ℕ) (x : Host) where
  -- What a call's answer can tell apart.
  abbrev Heard : Call → Type 0
  Heard c = (is_notice c ≡ false) ⊎ (x.locks.device ≡ true)

  -- The steps, at a caller that is h.
  own_at : (s t : State) (c : Call) → by c ≡ h → Alike h x s t → KeepsAt s h c → Alike h x (next s c) (next t c) × (Heard c → answer s c ≡ answer t c)
  own_at s t c e =
      subst
      (λ (k : ℕ). Alike k x s t → KeepsAt s k c → Alike k x (next s c) (next t c) × (Heard c → answer s c ≡ answer t c))
      e
      (λ r k. (own_step s t c x r k.own k, answer_own s t c x r k.own))

  mine_at : (s t : State) (c : Call) → by c ≡ h → Foreign h x s t → KeepsAt s h c → Foreign h x (next s c) t
  mine_at s t c e = subst (λ (k : ℕ). Foreign k x s t → KeepsAt s k c → Foreign k x (next s c) t) e (mine_step s t c x)

  across_at : (s t : State) (c : Call) → by c ≡ h → Alike h x s t → KeepsAt t h c → KeepsAt s h c
  across_at s t c e = subst (λ (k : ℕ). Alike k x s t → KeepsAt t k c → KeepsAt s k c) e (keeps_across s t c x)

  -- Who keeps to its units alone keeps to them among the others.
  pub keeps_among : (f : List Call) (s t : State) → Alike h x s t → KeepsIn h t (filter (by_host h) f) → KeepsIn h s f
  keeps_among [] s t r k = tt
  keeps_among (c ∷ f) s t r k = go (keeps_among f) (by_host h c) refl k
    where
      go : ((s t : State) → Alike h x s t → KeepsIn h t (filter (by_host h) f) → KeepsIn h s f) → (b : Bool) → by_host h c ≡ b → KeepsIn h t (cond b (c ∷ filter (by_host h) f) (filter (by_host h) f)) → KeepsIn h s (c ∷ f)
      go ih true e k =
          let i = eqb-true (by c) h e in
          let a = across_at s t c i r (k.0 e) in
          ((λ _. a), ih (next s c) (next t c) (own_at s t c i r a).0 k.1)
      go ih false e k =
          ((λ d. clash (by_host h c) d e), ih (next s c) t (other_step s t c h x (λ d. eqb-false (by c) h e (sym d)) r) k)

  -- And who keeps to them among the others keeps to them alone.
  pub keeps_alone : (f : List Call) (s t : State) → Alike h x s t → KeepsIn h s f → KeepsIn h t (filter (by_host h) f)
  keeps_alone [] s t r k = tt
  keeps_alone (c ∷ f) s t r k = go (keeps_alone f) (by_host h c) refl
    where
      go : ((s t : State) → Alike h x s t → KeepsIn h s f → KeepsIn h t (filter (by_host h) f)) → (b : Bool) → by_host h c ≡ b → KeepsIn h t (cond b (c ∷ filter (by_host h) f) (filter (by_host h) f))
      go ih true e =
          let i = eqb-true (by c) h e in
          let a = across_at t s c i (alike_sym h x s t r) (k.0 e) in
          ((λ _. a), ih (next s c) (next t c) (own_at s t c i r (k.0 e)).0 k.1)
      go ih false e = ih (next s c) t (other_step s t c h x (λ d. eqb-false (by c) h e (sym d)) r) k.1

  own_run : (f : List Call) (s t : State) → Alike h x s t → KeepsIn h s f → Alike h x (run s f) (run t (filter (by_host h) f))
  own_run [] s t r k = r
  own_run (c ∷ f) s t r k = go (own_run f) (by_host h c) refl
    where
      go : ((s t : State) → Alike h x s t → KeepsIn h s f → Alike h x (run s f) (run t (filter (by_host h) f))) → (b : Bool) → by_host h c ≡ b → Alike h x (run (next s c) f) (run t (cond b (c ∷ filter (by_host h) f) (filter (by_host h) f)))
      go ih true e = ih (next s c) (next t c) (own_at s t c (eqb-true (by c) h e) r (k.0 e)).0 k.1
      go ih false e = ih (next s c) t (other_step s t c h x (λ d. eqb-false (by c) h e (sym d)) r) k.1

  answers_run : (p : Call → Bool) → ((c : Call) → p c ≡ true → (by_host h c ≡ true) × Heard c) → (f : List Call) (s t : State) → Alike h x s t → KeepsIn h s f → answers p s f ≡ answers p t (filter (by_host h) f)
  answers_run p only [] s t r k = refl
  answers_run p only (c ∷ f) s t r k = go (answers_run p only f) (by_host h c) (p c) refl refl
    where
      go : ((s t : State) → Alike h x s t → KeepsIn h s f → answers p s f ≡ answers p t (filter (by_host h) f)) → (b q : Bool) → by_host h c ≡ b → p c ≡ q → cond q (answer s c ∷ answers p (next s c) f) (answers p (next s c) f) ≡ answers p t (cond b (c ∷ filter (by_host h) f) (filter (by_host h) f))
      go ih true true e d =
          let o = own_at s t c (eqb-true (by c) h e) r (k.0 e) in
          let rest = ih (next s c) (next t c) o.0 k.1 in
          let head = o.1 (only c d).1 in
          rw d (cc)
      go ih true false e d =
          let o = own_at s t c (eqb-true (by c) h e) r (k.0 e) in
          rw d (ih (next s c) (next t c) o.0 k.1)
      go ih false true e d = clash (by_host h c) (only c d).0 e
      go ih false false e d = ih (next s c) t (other_step s t c h x (λ i. eqb-false (by c) h e (sym i)) r) k.1

  others_run : (f : List Call) (s t : State) → Foreign h x s t → KeepsIn h s f → Foreign h x (run s f) (run t (filter (by_others h) f))
  others_run [] s t r k = r
  others_run (c ∷ f) s t r k = go (others_run f) (by_host h c) refl
    where
      go : ((s t : State) → Foreign h x s t → KeepsIn h s f → Foreign h x (run s f) (run t (filter (by_others h) f))) → (b : Bool) → by_host h c ≡ b → Foreign h x (run (next s c) f) (run t (cond (not b) (c ∷ filter (by_others h) f) (filter (by_others h) f)))
      go ih true e = ih (next s c) t (mine_at s t c (eqb-true (by c) h e) r (k.0 e)) k.1
      go ih false e = ih (next s c) (next t c) (theirs_step s t c h x (eqb-false (by c) h e) r) k.1

  their_answers_run : (f : List Call) (s t : State) → Foreign h x s t → KeepsIn h s f → answers (by_others_but_notices h) s f ≡ answers (by_others_but_notices h) t (filter (by_others h) f)
  their_answers_run [] s t r k = refl
  their_answers_run (c ∷ f) s t r k = go (their_answers_run f) (by_host h c) (is_notice c) refl refl
    where
      go : ((s t : State) → Foreign h x s t → KeepsIn h s f → answers (by_others_but_notices h) s f ≡ answers (by_others_but_notices h) t (filter (by_others h) f)) → (b q : Bool) → by_host h c ≡ b → is_notice c ≡ q → cond (not b && not q) (answer s c ∷ answers (by_others_but_notices h) (next s c) f) (answers (by_others_but_notices h) (next s c) f) ≡ answers (by_others_but_notices h) t (cond (not b) (c ∷ filter (by_others h) f) (filter (by_others h) f))
      go ih true q e d = ih (next s c) t (mine_at s t c (eqb-true (by c) h e) r (k.0 e)) k.1
      go ih false true e d = rw (e, d) (ih (next s c) (next t c) (theirs_step s t c h x (eqb-false (by c) h e) r) k.1)
      go ih false false e d =
          let n = eqb-false (by c) h e in
          let rest = ih (next s c) (next t c) (theirs_step s t c h x n r) k.1 in
          let head = answer_theirs s t c h x n r d in
          rw (e, d) (cc)

only_own : (h : ℕ) (x : Host) (c : Call) → by_host_but_notices h c ≡ true → (by_host h c ≡ true) × Heard h x c
only_own h x c q = let a = and_parts (by_host h c) (not (is_notice c)) q in (a.0, inl (not-true (is_notice c) a.1))

-- A host that holds something is one of the device's.
blank_holds : Holds blank → ⊥
blank_holds (inl t) = clash false t refl
blank_holds (inr l) = clash false l.1 refl

holds_here : (s : State) (h : ℕ) → Holds (host_of s h) → h < length s.hosts
holds_here s h l = one_of (cases_lt h (length s.hosts)) (λ i. i) (λ past. absurd (blank_holds (subst Holds (get_or_past s.hosts h blank past) l)))

module _ (s : State) (h : ℕ) (i : Sound s) (holds : Holds (host_of s h)) (home : Home (host_of s h)) where
  pub alike : Alike h (host_of s h) s s
  alike = record {
    left = i;
    right = i;
    fixed = refl;
    here = (holds_here s h holds, holds_here s h holds);
    same = refl;
    home = home;
    like = like_self (host_of s h);
    blocks = λ b _. refl;
    mail = λ _. refl;
  }

  foreign : Foreign h (host_of s h) s s
  foreign = record {
    left = i;
    right = i;
    fixed = refl;
    here = holds_here s h holds;
    number = refl;
    same = λ g _. refl;
    home = (home, home);
    like = (like_self (host_of s h), like_self (host_of s h));
    blocks = λ b _. refl;
  }

  pub among : (f : List Call) → KeepsIn h s f → SideBySide h s f (filter (by_host h) f) (filter (by_others h) f)
  among f k =
      let r = own_run h (host_of s h) f s s alike k in
      let o = others_run h (host_of s h) f s s foreign k in
      record {
        answered = answers_run h (host_of s h) (by_host_but_notices h) (only_own h (host_of s h)) f s s alike k;
        noticed = λ d. answers_run h (host_of s h) (by_host h) (λ c q. (q, inr d)) f s s alike k;
        its_record = r.same;
        its_blocks = λ b q. r.blocks b (subst (λ (m : UnitMap). Guards m (host_of s h) b) (sym (map_run s f)) q);
        their_answers = their_answers_run h (host_of s h) f s s foreign k;
        their_records = λ g n. o.same g n;
        their_blocks = λ b q. o.blocks b (λ y. q (subst (λ (m : UnitMap). Guards m (host_of s h) b) (map_run s f) y));
      }

  side_by_side : (f : List Call) → KeepsIn h s (filter (by_host h) f) → SideBySide h s f (filter (by_host h) f) (filter (by_others h) f)
  side_by_side f k = among f (keeps_among h (host_of s h) f s s alike k)

  isolated : (f g : List Call) → filter (by_host h) f ≡ filter (by_host h) g → KeepsIn h s f → KeepsIn h s g → Isolated h s f g
  isolated f g e kf kg =
      let a = among f kf in
      let b = among g kg in
      record {
        answered = a.answered ∙ ap (answers (by_host_but_notices h) s) e ∙ sym b.answered;
        noticed = λ d. a.noticed d ∙ ap (answers (by_host h) s) e ∙ sym (b.noticed d);
        its_blocks = λ n q. a.its_blocks n q ∙ ap (λ (k : List Call). slice_get (run s k).blocks n) e ∙ sym (b.its_blocks n q);
        its_record = a.its_record ∙ ap (λ (k : List Call). host_of (run s k) h) e ∙ sym b.its_record;
        outside = a.their_blocks;
        outside_too = b.their_blocks;
      }

-- From any sound state.
pub apartness_from : (start : State) → Sound start → ApartnessFrom start
apartness_from start i before f h holds k =
    side_by_side (run start before) h (sound_run start before i) holds (home_from (host_of (run start before) h) holds k.at_home) f k.in_calls

pub isolation_from : (start : State) → Sound start → IsolationFrom start
isolation_from start i before f g h holds e kf kg =
    isolated (run start before) h (sound_run start before i) holds (home_from (host_of (run start before) h) holds kf.at_home) f g e kf.in_calls kg.in_calls

-- From power on.
pub apartness : Apartness
apartness number map blocks = apartness_from _ (sound_on number map blocks)

pub isolation : Isolation
isolation number map blocks = isolation_from _ (sound_on number map blocks)
