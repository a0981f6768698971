-- What a refused call leaves: first in what it comes to, then in the state after it.
use Rattle.std.proofs.Common.{◌≡◌, ℕ, ◌<◌, ◌≤◌, Bool, true, false, cond, ltb, leb, ◌≢◌, ◌⊎◌, List, [], length, is_some, Some, None, Option, sym, refl, ap, ◌∙◌, subst, subst₂, inl, inr, arith}
use Rattle.std.proofs.lemmas.Bool.{cases_eq, cases_lt}
use Rattle.std.proofs.lemmas.Bool.Decides.{nat_tests}
use Rattle.std.proofs.lemmas.List.{get_or_past}
use Rattle.store.specs.Blocks.{Block}
use Rattle.message.specs.declared.message.Message.{Message}
use Rattle.flex.specs.declared.status.Status.{Status}
use Rattle.flex.specs.declared.status.Status.TheVariants as statuses
use Rattle.host.specs.declared.mail.Mail.{Mail}
use Rattle.host.specs.declared.record.Host.{Host}
use Rattle.host.specs.declared.transaction.Phase.TheVariants as phases
use Rattle.host.specs.declared.transaction.Transaction.{Transaction}
use Rattle.host.specs.Hosts.{blank}
use Rattle.host.specs.Messages.{is_address_bounds, address_refused, refused}
use Rattle.device.specs.declared.ticket.ExecutionTicket.{ExecutionTicket}
use Rattle.device.specs.declared.ticket.ReportTicket.{ReportTicket}
use Rattle.device.specs.declared.ticket.Ticket.{Ticket}
use Rattle.device.specs.Calls.{Call, command, segment, report, cancel, clear, notice, fault, by, Answer, accepted, moved, reported, done, noticed, faulted, refusal, returned}
use Rattle.transfer.specs.Segments.{message_of, holds_segment, laid}
use Rattle.device.specs.Device.{State, host_of, mail_of, Fixed, fixed, asked, in_way, Served, says, fitting, executable, number_on, phase_on, segmented, reported_on, cancelled, serve, start, counted, answer, next, run}
use Rattle.device.specs.Refusals.{ticket_given, buffer_given, SameButAddress, address_left, Leaves, RefusalsFrom}
use Rattle.device.proofs.Tests.{one_of}
use Rattle.device.proofs.Steps.{did, content, answer_is, host_next, host_other, host_own, hosts_kept}

-- Of what a call comes to.
abbrev KeptBy : Answer → Call → Host → Served → Type 0
KeptBy (refusal status) c x d = (d.put ≡ []) × (d.tried ≡ 0) × (d.host ≡ refused status x)
KeptBy (returned status ticket buffer) c x d = (d.put ≡ []) × (d.tried ≡ 0) × (d.host ≡ x) × (Some ticket ≡ ticket_given c) × (buffer ≡ buffer_given c)
KeptBy other c x d = Unit {0}

record Kept (c : Call) (x : Host) (d : Served) : Type 0 where
  kept : KeptBy d.answer c x d

-- But for 1/3 a refusal leaves its host whole.
whole : (status : Status) (x : Host) → is_address_bounds status ≡ false → x ≡ refused status x
unfolding refused
whole status x e = rw e refl

same_self : (x : Host) → SameButAddress x x
same_self x = record { unit = refl; length = refl; interlocked = refl; locks = refl; transaction = refl; fault = refl }

same_but_address : (status : Status) (x : Host) → SameButAddress x (refused status x)
unfolding refused
same_but_address status x = record { unit = refl; length = refl; interlocked = refl; locks = refl; transaction = refl; fault = refl }

module _ (f : Fixed) (x : Host) (m : Mail) (os : List (Option Block)) where
  choose : (c : Call) (b : Bool) {y z : Served} → Kept c x y → Kept c x z → Kept c x (cond b y z)
  choose c true p q = p
  choose c false p q = q

  segment_kept : (k : ExecutionTicket) (buffer : List ℕ) (r : Option Transaction) → Kept (segment k buffer) x (segmented f r x os k buffer)
  segment_kept k buffer None = record { kept = (refl, refl, refl, refl, refl) }
  segment_kept k buffer (Some t) = choose (segment k buffer) (holds_segment t (message_of f.map k.host t) buffer) (record { kept = tt }) (record { kept = (refl, refl, refl, refl, refl) })

  report_kept : (k : ReportTicket) (buffer : List ℕ) (r : Option Transaction) → Kept (report k buffer) x (reported_on r x k buffer)
  report_kept k buffer None = record { kept = (refl, refl, refl, refl, refl) }
  report_kept k buffer (Some t) = choose (report k buffer) (leb 13 (length buffer)) (record { kept = tt }) (record { kept = (refl, refl, refl, refl, refl) })

  cancel_kept : (k : Ticket) (r : Option Transaction) → Kept (cancel k) x (cancelled r x k)
  cancel_kept k None = record { kept = (refl, refl, refl, refl, refl) }
  cancel_kept k (Some t) = record { kept = tt }

  bad_host : {c : Call} → Kept c x (says (refusal statuses.BadHost) x)
  bad_host = record { kept = (refl, refl, whole statuses.BadHost x refl) }

  serve_kept : (b : Bool) (o : Option Message) (c : Call) → Kept c x (serve b f o x m os c)
  serve_kept true o c = record { kept = (refl, refl, whole statuses.ResourceUnavailable x refl) }
  serve_kept false None (command h bytes) = record { kept = (refl, refl, refl) }
  serve_kept false (Some w) (command h bytes) = record { kept = tt }
  serve_kept false o (segment k buffer) = segment_kept k buffer (executable f.map (fitting f.number k.device phases.Execution x.transaction))
  serve_kept false o (report k buffer) = report_kept k buffer (fitting f.number k.device phases.Report x.transaction)
  serve_kept false o (cancel k) = cancel_kept k (fitting f.number (number_on k) (phase_on k) x.transaction)
  serve_kept false o (clear h) = choose (clear h) (ltb h 8) (choose (clear h) (is_some x.transaction) (record { kept = (refl, refl, whole statuses.MessageSequence x refl) }) (record { kept = tt })) bad_host
  serve_kept false o (notice h) = choose (notice h) (ltb h 8) (record { kept = tt }) bad_host
  serve_kept false o (fault h) = choose (fault h) (ltb h 8) (record { kept = tt }) bad_host

did_kept : (s : State) (c : Call) → Kept c (host_of s (by c)) (did s c)
unfolding did
did_kept s c = serve_kept (fixed s) (host_of s (by c)) (mail_of s (by c)) (content s c) (in_way s c) (asked s c) c

blocks_left : (s : State) (c : Call) → (did s c).put ≡ [] → (next s c).blocks ≡ s.blocks
unfolding next did
blocks_left s c e = ap (laid s.blocks (start s (by c))) e

activity_left : (s : State) (c : Call) → (did s c).tried ≡ 0 → (next s c).activity ≡ s.activity
unfolding next did
activity_left s c e = ap (counted s.activity) e

-- The target addresses of the host that is refused, of the others, and where there is no host.
address_own : (status : Status) (h address : ℕ) → address_refused status address ≡ address_left status h h address
address_own status h address = grind (arith, nat_tests)

address_other : (status : Status) (h g address : ℕ) → g ≢ h → address ≡ address_left status h g address
address_other status h g address n = grind (arith, nat_tests)

address_none : (b : Bool) → ◌≡◌ {A = ℕ} 0 (cond b 0 0)
address_none true = refl
address_none false = refl

-- The host of a call becomes what the call comes to, where there is such a host.
own_next : (s : State) (c : Call) → (host_of (next s c) (by c) ≡ (did s c).host) ⊎ ((host_of s (by c) ≡ blank) × (host_of (next s c) (by c) ≡ blank))
own_next s c = go (cases_lt (by c) (length s.hosts))
  where
    go : (by c < length s.hosts) ⊎ (length s.hosts ≤ by c) → (host_of (next s c) (by c) ≡ (did s c).host) ⊎ ((host_of s (by c) ≡ blank) × (host_of (next s c) (by c) ≡ blank))
    go (inl l) = inl (host_own s c l)
    go (inr l) = inr (get_or_past s.hosts (by c) blank l, get_or_past (next s c).hosts (by c) blank (rw (hosts_kept s c) l))

-- What host h is after it was refused.
record RefusedHost (status : Status) (h g : ℕ) (x y : Host) : Type 0 where
  same : SameButAddress x y
  address : y.parameters.address ≡ address_left status h g x.parameters.address

refused_own : (status : Status) (h : ℕ) (x : Host) → RefusedHost status h h x (refused status x)
unfolding refused
refused_own status h x = record { same = same_but_address status x; address = address_own status h x.parameters.address }

refused_blank : (status : Status) (h : ℕ) → RefusedHost status h h blank blank
refused_blank status h = record { same = same_self blank; address = address_none _ }

refused_other : (status : Status) (h g : ℕ) (x : Host) → g ≢ h → RefusedHost status h g x x
refused_other status h g x n = record { same = same_self x; address = address_other status h g x.parameters.address n }

module _ (s : State) (c : Call) where
  refused_at : (status : Status) → (did s c).host ≡ refused status (host_of s (by c)) → (g : ℕ) → RefusedHost status (by c) g (host_of s g) (host_of (next s c) g)
  refused_at status e g = one_of
      (cases_eq g (by c))
      (λ i. subst (λ (n : ℕ). RefusedHost status (by c) n (host_of s n) (host_of (next s c) n)) (sym i) (own (own_next s c)))
      (λ n. subst (RefusedHost status (by c) g (host_of s g)) (sym (host_other s c g n)) (refused_other status (by c) g (host_of s g) n))
    where
      own : (host_of (next s c) (by c) ≡ (did s c).host) ⊎ ((host_of s (by c) ≡ blank) × (host_of (next s c) (by c) ≡ blank)) → RefusedHost status (by c) (by c) (host_of s (by c)) (host_of (next s c) (by c))
      own (inl k) = subst (RefusedHost status (by c) (by c) (host_of s (by c))) (sym (k ∙ e)) (refused_own status (by c) (host_of s (by c)))
      own (inr (p, q)) = subst₂ (RefusedHost status (by c) (by c)) (sym p) (sym q) (refused_blank status (by c))

  -- In the state after.
  by_answer : (a : Answer) → KeptBy a c (host_of s (by c)) (did s c) → Leaves s c a
  by_answer (accepted k) w = tt
  by_answer (moved k buffer) w = tt
  by_answer (reported buffer) w = tt
  by_answer done w = tt
  by_answer (noticed n) w = tt
  by_answer (faulted f) w = tt
  by_answer (refusal status) (p, t, e) = record {
    blocks = blocks_left s c p;
    activity = activity_left s c t;
    hosts = λ g. (refused_at status e g).same;
    address = λ g. (refused_at status e g).address;
  }
  by_answer (returned status ticket buffer) (p, t, h, k, b) = record {
    same_ticket = k;
    same_buffer = b;
    blocks = blocks_left s c p;
    activity = activity_left s c t;
    hosts = λ g. hosts_at g (host_next s c g);
  }
    where
      hosts_at : (g : ℕ) → (host_of (next s c) g ≡ host_of s g) ⊎ ((g ≡ by c) × (host_of (next s c) g ≡ (did s c).host)) → host_of (next s c) g ≡ host_of s g
      hosts_at g (inl e) = e
      hosts_at g (inr (i, e)) = e ∙ h ∙ ap (host_of s) (sym i)

  leaves : Leaves s c (answer s c)
  leaves = subst (Leaves s c) (sym (answer_is s c)) (by_answer (did s c).answer (did_kept s c).kept)

pub refusals_from : (start : State) → RefusalsFrom start
refusals_from start calls c = leaves (run start calls) c
