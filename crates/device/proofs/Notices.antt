-- What one call does to a host's wait and notice: one of five, and from them the law.
use Rattle.std.proofs.Common.{◌≡◌, ℕ, ◌<◌, ◌≤◌, Bool, true, false, cond, ltb, ◌≢◌, ◌⊎◌, List, [], ◌∷◌, length, is_some, Some, None, Option, sym, refl, ap, ◌∙◌, subst, inl, inr, arith}
use Rattle.std.proofs.lemmas.Bool.{cases_eq, cases_lt, ltb-true}
use Rattle.std.proofs.lemmas.Bool.Decides.{nat_tests}
use Rattle.std.proofs.lemmas.List.{get_or_past, get_or-replicate}
use Rattle.store.specs.Blocks.{Block}
use Rattle.message.specs.declared.command.Command.{Command}
use Rattle.message.specs.declared.message.Message.{Message}
use Rattle.flex.specs.declared.status.Status.{Status}
use Rattle.flex.specs.declared.status.Status.TheVariants as statuses
use Rattle.flex.specs.declared.unit_map.UnitMap.{UnitMap}
use Rattle.host.specs.declared.mail.Mail.{Mail}
use Rattle.host.specs.declared.record.Host.{Host}
use Rattle.host.specs.declared.want.Want.{Want}
use Rattle.host.specs.Hosts.{cleared, stands, another}
use Rattle.host.specs.Messages.{want_of, wanted}
use Rattle.host.specs.Waits.{silent, powered, notice_of, judged_wait, settled_by, settled}
use Rattle.device.specs.declared.ticket.Ticket.{Ticket}
use Rattle.device.specs.Calls.{Call, command, segment, report, cancel, clear, notice, fault, by, accepted, done, noticed, refusal}
use Rattle.device.specs.Device.{State, host_of, mail_of, Fixed, fixed, says, brings, does, serve, blocked, asked, in_way, posted, answer, next, run, power_on}
use Rattle.device.specs.Notices.{RefusedFor, Clears, Noticed, WaitAfter, waits_on, noticed_then, waits_anew, wait_dropped, NoticeAfter, kept, handed_over, replaced, notice_dropped, MailLaw, code_for, NoticesFrom}
use Rattle.device.proofs.Tests.{none_some, clash, one_of}
use Rattle.device.proofs.Standing.{another_same, stands_blank}
use Rattle.device.proofs.Steps.{did, content, answer_is, host_other, hosts_kept, posted_by, mail_kept}
use Rattle.device.proofs.States.{Sound, sound_on, sound_run}
use Rattle.device.proofs.Own.{mail_own, mail_other}

-- ---- The message that a call brings to the lock check.

-- Only a command of one of the hosts brings one.
brought : (f : Fixed) (x : Host) (c : Call) (m : Message) → brings f x c ≡ Some m → by c < 8
brought f x (command h bytes) m e = go (cases_lt h 8)
  where
    go : (h < 8) ⊎ (8 ≤ h) → h < 8
    go (inl l) = l
    go (inr l) = let z : ltb h 8 ≡ false = grind (arith, nat_tests) in absurd (none_some m (rw z at e))
brought f x (segment k buffer) m e = absurd (none_some m e)
brought f x (report k buffer) m e = absurd (none_some m e)
brought f x (cancel k) m e = absurd (none_some m e)
brought f x (clear h) m e = absurd (none_some m e)
brought f x (notice h) m e = absurd (none_some m e)
brought f x (fault h) m e = absurd (none_some m e)

not_refused : {P : Type 0} (k : Ticket) (t : Status) → accepted k ≡ refusal t → P
not_refused k t e = let z : ◌≡◌ {A = ℕ} 0 1 = cc in absurd (omega arith)

-- With nothing in its way it is not refused.
taken : (f : Fixed) (x : Host) (l : Mail) (os : List (Option Block)) (c : Call) (m : Message) (t : Status) → brings f x c ≡ Some m → (does f (Some m) x l os c).answer ≡ refusal t → ⊥
taken f x l os (command h bytes) m t e r = not_refused _ t r
taken f x l os (segment k buffer) m t e r = none_some m e
taken f x l os (report k buffer) m t e r = none_some m e
taken f x l os (cancel k) m t e r = none_some m e
taken f x l os (clear h) m t e r = none_some m e
taken f x l os (notice h) m t e r = none_some m e
taken f x l os (fault h) m t e r = none_some m e

serve_taken : (f : Fixed) (x : Host) (l : Mail) (os : List (Option Block)) (c : Call) (m : Message) (t : Status) (b : Bool) (o : Option Message) → brings f x c ≡ Some m → o ≡ Some m → (serve b f o x l os c).answer ≡ refusal t → b ≡ true
serve_taken f x l os c m t true o e p r = refl
serve_taken f x l os c m t false o e p r = absurd (taken f x l os c m t e (subst (λ k. (does f k x l os c).answer ≡ refusal t) p r))

refused_in_way : (s : State) (c : Call) (m : Message) (t : Status) → asked s c ≡ Some m → answer s c ≡ refusal t → in_way s c ≡ true
unfolding did
refused_in_way s c m t e r =
    serve_taken (fixed s) (host_of s (by c)) (mail_of s (by c)) (content s c) c m t (in_way s c) (asked s c) e e (sym (answer_is s c) ∙ r)

-- ---- What a clear and a notice call answer.

clear_done : (s : State) (h : ℕ) → h < 8 → is_some (host_of s h).transaction ≡ false → answer s (clear h) ≡ done
unfolding did
clear_done s h l t = let z : ltb h 8 ≡ true = grind (arith, nat_tests) in answer_is s (clear h) ∙ (rw (z, t) refl)

done_says : (b t : Bool) (x : Host) → (cond b (cond t (says (refusal statuses.MessageSequence) x) (says done cleared)) (says (refusal statuses.BadHost) x)).answer ≡ done → (b ≡ true) × (t ≡ false)
done_says true false x e = (refl, refl)
done_says true true x e = let z : ◌≡◌ {A = ℕ} 0 1 = cc in absurd (omega arith)
done_says false t x e = let z : ◌≡◌ {A = ℕ} 0 1 = cc in absurd (omega arith)

clear_open : (s : State) (h : ℕ) → answer s (clear h) ≡ done → (ltb h 8 ≡ true) × (is_some (host_of s h).transaction ≡ false)
unfolding did
clear_open s h e = done_says (ltb h 8) (is_some (host_of s h).transaction) (host_of s h) (sym (answer_is s (clear h)) ∙ e)

notice_told_by : (s : State) (h : ℕ) → h < 8 → answer s (notice h) ≡ noticed (mail_of s h).notice
unfolding did
notice_told_by s h l = let z : ltb h 8 ≡ true = grind (arith, nat_tests) in answer_is s (notice h) ∙ (rw z refl)

-- ---- A host's own mail after its call.

-- With nothing in the way what is waited for was waited for before.
left_wait : (o : Option Message) (x : Host) (c : Call) (l : Mail) (w : Want) → (posted false o x c l).wait ≡ Some w → l.wait ≡ Some w
left_wait o x (command h bytes) l w e = e
left_wait o x (segment k buffer) l w e = e
left_wait o x (report k buffer) l w e = e
left_wait o x (cancel k) l w e = e
left_wait o x (clear h) l w e = go (is_some x.transaction) e
  where
    go : (b : Bool) → (cond b l silent).wait ≡ Some w → l.wait ≡ Some w
    go true e = e
    go false e = absurd (none_some w e)
left_wait o x (notice h) l w e = e
left_wait o x (fault h) l w e = e

data Way (s : State) (c : Call) (h : ℕ) : Type 0 where
  stays : mail_of (next s c) h ≡ mail_of s h → Way s c h
  ends_so : (w : Want) → Noticed s (next s c) h w → Way s c h
  waits_for : (w : Want) → RefusedFor s c h w → mail_of (next s c) h ≡ record { wait = Some w; notice = (mail_of s h).notice } → Way s c h
  empties : Clears s c h → mail_of (next s c) h ≡ silent → Way s c h
  tells : c ≡ notice h → mail_of (next s c) h ≡ record { wait = (mail_of s h).wait; notice = None } → Way s c h

module _ (s : State) (c : Call) (i : Sound s) (eight : length s.hosts ≡ 8) where
  -- A host's own call leaves what stands in its way.
  same_way : (w : Want) → another (stands w) (by c) (next s c).hosts ≡ another (stands w) (by c) s.hosts
  same_way w = another_same (stands w) (stands_blank w) (by c) (next s c).hosts s.hosts (λ g n. ap (stands w) (host_other s c g n))

  posted_waits : (b : Bool) (o : Option Message) → asked s c ≡ o → blocked s.hosts (by c) o ≡ b → (w : Want) → (posted b o (host_of s (by c)) c (mail_of s (by c))).wait ≡ Some w → another (stands w) (by c) s.hosts ≡ true
  posted_waits true None a e w p = clash false e refl
  posted_waits true (Some m) a e w p = let k : wanted m ≡ w = cc in rw k at e
  posted_waits false o a e w p = i.waits (by c) w (left_wait o (host_of s (by c)) c (mail_of s (by c)) w p)

  settled_same : (l : Mail) → ((w : Want) → l.wait ≡ Some w → another (stands w) (by c) s.hosts ≡ true) → settled (next s c).hosts (by c) l ≡ l
  settled_same l f = go l.wait refl
    where
      go : (o : Option Want) → l.wait ≡ o → settled_by (next s c).hosts (by c) o l ≡ l
      go None e = refl
      go (Some w) e = rw (same_way w, f w e) refl

  own_mail : by c < 8 → mail_of (next s c) (by c) ≡ posted_by s c
  own_mail l = mail_own s c (omega (arith, i.mailed, eight)) ∙ settled_same (posted_by s c) (posted_waits (in_way s c) (asked s c) refl refl)

  refused_by : (m : Message) → asked s c ≡ Some m → in_way s c ≡ true → answer s c ≡ refusal statuses.ResourceUnavailable
  unfolding did
  refused_by m a e = answer_is s c ∙ rw e refl

  refused_for : (m : Message) → asked s c ≡ Some m → in_way s c ≡ true → RefusedFor s c (by c) (wanted m)
  refused_for m a e = record { its_own = refl; refused = refused_by m a e; asks = (m, a, refl) }

  -- What its own call does to its mail.
  own_way : Way s c (by c)
  own_way = one_of (cases_lt (by c) 8) (λ l. here l (own_mail l)) (λ l. gone l)
    where
      gone : 8 ≤ by c → Way s c (by c)
      gone l =
          stays (get_or_past (next s c).mail (by c) silent (rw (mail_kept s c) (omega (arith, i.mailed, eight, l))) ∙ sym (get_or_past s.mail (by c) silent (omega (arith, i.mailed, eight, l))))

      here : by c < 8 → mail_of (next s c) (by c) ≡ posted_by s c → Way s c (by c)
      here l e = go (in_way s c) (asked s c) refl refl e
        where
          by_call : (o : Option Message) → in_way s c ≡ false → (d : Call) → c ≡ d → mail_of (next s c) (by c) ≡ posted false o (host_of s (by c)) d (mail_of s (by c)) → Way s c (by c)
          by_call o f (command h bytes) k e = stays e
          by_call o f (segment k buffer) q e = stays e
          by_call o f (report k buffer) q e = stays e
          by_call o f (cancel k) q e = stays e
          by_call o f (clear h) k e = clear_way h k (is_some (host_of s (by c)).transaction) refl e
            where
              clear_way : (h : ℕ) → c ≡ clear h → (b : Bool) → is_some (host_of s (by c)).transaction ≡ b → mail_of (next s c) (by c) ≡ cond b (mail_of s (by c)) silent → Way s c (by c)
              clear_way h k true t e = stays e
              clear_way h k false t e = empties (record { call = k ∙ ap clear (sym (ap by k)); is_done = ap (answer s) k ∙ clear_done s h (subst (λ n. n < 8) (ap by k) l) (subst (λ n. is_some (host_of s n).transaction ≡ false) (ap by k) t) }) e
          by_call o f (notice h) k e = tells (k ∙ ap notice (sym (ap by k))) e
          by_call o f (fault h) k e = stays e

          go : (b : Bool) (o : Option Message) → in_way s c ≡ b → asked s c ≡ o → mail_of (next s c) (by c) ≡ posted b o (host_of s (by c)) c (mail_of s (by c)) → Way s c (by c)
          go true None f a e = clash (in_way s c) f (ap (blocked s.hosts (by c)) a)
          go true (Some m) f a e = waits_for (wanted m) (refused_for m a f) e
          go false o f a e = by_call o f c refl e

-- What another's call does to it.
other_way : (s : State) (c : Call) (h : ℕ) → h ≢ by c → Way s c h
other_way s c h n = go (mail_of s h).wait refl (mail_other s c h n)
  where
    go : (o : Option Want) → (mail_of s h).wait ≡ o → mail_of (next s c) h ≡ settled_by (next s c).hosts h o (mail_of s h) → Way s c h
    go None w e = stays e
    go (Some v) w e = judge (another (stands v) h (next s c).hosts) refl e
      where
        judge : (b : Bool) → another (stands v) h (next s c).hosts ≡ b → mail_of (next s c) h ≡ judged_wait b v (mail_of s h) → Way s c h
        judge true f e = stays e
        judge false f e = ends_so v (record { waited = w; free = f; no_wait = ap (λ (l : Mail). l.wait) e; notice = ap (λ (l : Mail). l.notice) e })

way : (s : State) (c : Call) (h : ℕ) → Sound s → length s.hosts ≡ 8 → Way s c h
way s c h i n = one_of (cases_eq h (by c)) (λ e. subst (Way s c) (sym e) (own_way s c i n)) (other_way s c h)

-- ---- The law, from the way.

waits_are : {l : Mail} (m : Mail) → l ≡ m → l.wait ≡ m.wait
waits_are m e = ap (λ (k : Mail). k.wait) e

notices_are : {l : Mail} (m : Mail) → l ≡ m → l.notice ≡ m.notice
notices_are m e = ap (λ (k : Mail). k.notice) e

module _ (s : State) (c : Call) (h : ℕ) (i : Sound s) (eight : length s.hosts ≡ 8) where
  begins : Way s c h → (w : Want) → (mail_of (next s c) h).wait ≡ Some w → ((mail_of s h).wait ≡ Some w) ⊎ RefusedFor s c h w
  begins (stays e) w p = inl (sym (waits_are _ e) ∙ p)
  begins (ends_so v k) w p = absurd (none_some w (sym k.no_wait ∙ p))
  begins (waits_for v r e) w p = let q : v ≡ w = let j = waits_are _ e in cc in inr (subst (RefusedFor s c h) q r)
  begins (empties k e) w p = absurd (none_some w (sym (waits_are _ e) ∙ p))
  begins (tells k e) w p = inl (sym (waits_are _ e) ∙ p)

  ends : Way s c h → (w : Want) → (mail_of s h).wait ≡ Some w → WaitAfter s c h w
  ends (stays e) w p = waits_on (waits_are _ e ∙ p)
  ends (ends_so v k) w p = let q : v ≡ w = let j = k.waited in cc in noticed_then (subst (Noticed s (next s c) h) q k)
  ends (waits_for v r e) w p = waits_anew v r
  ends (empties k e) w p = wait_dropped k
  ends (tells k e) w p = waits_on (waits_are _ e ∙ p)

  comes : Way s c h → (n : Status) → (mail_of (next s c) h).notice ≡ Some n → ((mail_of s h).notice ≡ Some n) ⊎ ((w : Want) × Noticed s (next s c) h w × (n ≡ notice_of w))
  comes (stays e) n p = inl (sym (notices_are _ e) ∙ p)
  comes (ends_so v k) n p = let q : n ≡ notice_of v = let j = k.notice in cc in inr (v, k, q)
  comes (waits_for v r e) n p = inl (sym (notices_are _ e) ∙ p)
  comes (empties k e) n p = absurd (none_some n (sym (notices_are _ e) ∙ p))
  comes (tells k e) n p = absurd (none_some n (sym (notices_are _ e) ∙ p))

  goes : Way s c h → (n : Status) → (mail_of s h).notice ≡ Some n → NoticeAfter s c h n
  goes (stays e) n p = kept (notices_are _ e ∙ p)
  goes (ends_so v k) n p = replaced v k
  goes (waits_for v r e) n p = kept (notices_are _ e ∙ p)
  goes (empties k e) n p = notice_dropped k
  goes (tells k e) n p = handed_over k

  -- What frees the way is another's call.
  freed : (w : Want) → (mail_of s h).wait ≡ Some w → another (stands w) h (next s c).hosts ≡ false → Noticed s (next s c) h w
  freed w p f = one_of (cases_eq h (by c)) own other
    where
      own : h ≡ by c → Noticed s (next s c) h w
      own e = clash (another (stands w) (by c) s.hosts) (rw e at (i.waits h w p)) (sym (same_way s c i eight w) ∙ (rw e at f))

      other : h ≢ by c → Noticed s (next s c) h w
      other n =
          let e : mail_of (next s c) h ≡ record { wait = None; notice = Some (notice_of w) } = mail_other s c h n ∙ (rw (p, f) refl) in
          record { waited = p; free = f; no_wait = waits_are _ e; notice = notices_are _ e }

  waits : (w : Want) → RefusedFor s c h w → (mail_of (next s c) h).wait ≡ Some w
  waits w r =
      let m = r.asks.0 in
      let b = refused_in_way s c m statuses.ResourceUnavailable r.asks.1 r.refused in
      let e = own_mail s c i eight (brought (fixed s) (host_of s (by c)) c m r.asks.1) in
      subst (λ n. (mail_of (next s c) n).wait ≡ Some w) r.its_own (waits_are _ e ∙ waited (in_way s c) (asked s c) b r.asks.1)
    where
      waited : (b : Bool) (o : Option Message) → b ≡ true → o ≡ Some r.asks.0 → (posted b o (host_of s (by c)) c (mail_of s (by c))).wait ≡ Some w
      waited false o p q = clash false p refl
      waited true None p q = absurd (none_some _ q)
      waited true (Some m) p q = let k : m ≡ r.asks.0 = cc in rw k (ap Some (sym r.asks.2))

  told : h < 8 → c ≡ notice h → (answer s c ≡ noticed (mail_of s h).notice) × ((mail_of (next s c) h).notice ≡ None)
  told l e = subst (λ d. (answer s d ≡ noticed (mail_of s h).notice) × ((mail_of (next s d) h).notice ≡ None)) (sym e) (notice_told_by s h l, notices_are _ (own_mail s (notice h) i eight l))

  emptied : Clears s c h → mail_of (next s c) h ≡ silent
  emptied k =
      let d = clear_open s h (rw k.call at k.is_done) in
      subst (λ e. mail_of (next s e) h ≡ silent) (sym k.call) (own_mail s (clear h) i eight (ltb-true h 8 d.0) ∙ ap (λ b. cond b (mail_of s h) silent) d.1)

  law : MailLaw s c h
  law =
      let k = way s c h i eight in
      record { begins = begins k; waits = waits; ends = ends k; freed = freed; comes = comes k; goes = goes k; told = told; cleared = emptied }

-- ---- Over runs.

code_is : (k : Option Command) (u : ℕ) → notice_of (want_of k u) ≡ code_for k
code_is k u = grind arith

pub hosts_run : (s : State) (calls : List Call) → length (run s calls).hosts ≡ length s.hosts
hosts_run s [] = refl
hosts_run s (c ∷ calls) = hosts_run (next s c) calls ∙ hosts_kept s c

pub notices_from : (number : ℕ) (map : UnitMap) (blocks : List Block) → NoticesFrom (power_on number map blocks)
notices_from number map blocks =
    let start = power_on number map blocks in
    record {
      starts = λ h l. get_or-replicate 8 h powered silent l;
      each = λ calls c h. law (run start calls) c h (sound_run start calls (sound_on number map blocks)) (hosts_run start calls);
      codes = λ m. code_is m.command m.parameters.unit;
    }
