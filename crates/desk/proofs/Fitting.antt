-- Each kept ticket stays its host's own, whatever the device is called for.
use Rattle.std.proofs.Common.{◌≡◌, ℕ, ◌<◌, zero, suc, Bool, true, false, cond, ◌≢◌, List, [], ◌∷◌, length, get_or, set, Some, None, Option, Ok, Err, Result, nat_lt, is_some, refl, ap, sym, subst, ◌∙◌, arith}
use Rattle.std.proofs.lemmas.Bool.{cases_eq}
use Rattle.std.proofs.lemmas.Bool.Decides.{nat_tests}
use Rattle.std.proofs.lemmas.List.{get_or-set_other}
use Rattle.store.specs.Blocks.{Block}
use Rattle.flex.specs.declared.status.Status.{Status}
use Rattle.flex.specs.declared.status.Status.TheVariants as statuses
use Rattle.flex.specs.declared.unit_map.UnitMap.{UnitMap}
use Rattle.message.specs.declared.message.Message.{Message}
use Rattle.host.specs.declared.mail.Mail.{Mail}
use Rattle.host.specs.declared.record.Host.{Host}
use Rattle.host.specs.declared.transaction.Phase.{Phase}
use Rattle.host.specs.declared.transaction.Phase.TheVariants as phases
use Rattle.host.specs.declared.transaction.Transaction.{Transaction}
use Rattle.host.specs.Hosts.{cleared}
use Rattle.host.specs.Messages.{judged, once, accepted as accepted_by, opened}
use Rattle.host.specs.Progress.{advanced, moved_by}
use Rattle.transfer.specs.Segments.{Moved}
use Rattle.host.specs.declared.fault.HostFault.{HostFault}
use Rattle.device.specs.declared.ticket.ExecutionTicket.{ExecutionTicket}
use Rattle.device.specs.declared.ticket.Ticket.{Ticket}
use Rattle.device.specs.declared.ticket.Ticket.TheVariants as tickets
use Rattle.device.specs.Calls as calls
use Rattle.device.specs.Device.{State, host_of, Fixed, fixed, says, asked, in_way, message_in, ticket_for, fitting, number_on, phase_on, segment_moved, segmented, cancelled, serve, after, answer, next}
use Rattle.device.specs.Answers.{clear_answer, notice_answer, fault_answer}
use Rattle.device.specs.Refusals.{ticket_given, Leaves, HandedBack}
use Rattle.device.proofs.Tests.{clash, none_some, one_of}
use Rattle.device.proofs.Served.{refused_transaction}
use Rattle.device.proofs.Steps.{did, host_other, host_own, host_next, hosts_kept}
use Rattle.device.proofs.Refusals.{refusals_from}
use Rattle.desk.specs.declared.desk.Desk.{Desk}
use Rattle.desk.specs.Desks.{held, with_slot}
use Rattle.desk.specs.Fits.{Fits, AllFit}
use Rattle.desk.specs.Worlds.{ticket_in}
use Rattle.desk.proofs.Keeping.{said, same_slot, slot_again}

-- Each ticket on the desk is its host's own, in a state of the device.
abbrev pub Own : State → Desk → Type 0
Own s desk = AllFit s.number s.hosts desk

-- ---- One place of the desk.

pub other_place : (desk : Desk) (h g : ℕ) (o : Option Ticket) → g ≢ h → held (with_slot desk h o) g ≡ held desk g
other_place desk h g o n =
    elim (nat_lt h 8)
    as (λ b. held (cond b (let d : Desk = record { slots = set desk.slots h o } in d) desk) g ≡ held desk g) [
      | true ↦ ap (λ (p : Option Ticket). cond (nat_lt g 8) p None) (get_or-set_other desk.slots h g o None n)
      | false ↦ refl
    ]

own_place : (l : List (Option Ticket)) (h : ℕ) (o : Option Ticket) (k : Ticket) → Some k ≡ get_or (set l h o) h None → Some k ≡ o
own_place [] h o k e = absurd (none_some k (sym e))
own_place (x ∷ l) zero o k e = e
own_place (x ∷ l) (suc h) o k e = own_place l h o k e

-- a ticket that is held where one, or none, was put is the one that was put there
put_there : (desk : Desk) (h : ℕ) (o : Option Ticket) (k : Ticket) → Some k ≡ held (with_slot desk h o) h → Some k ≡ o
put_there desk h o k =
    elim (nat_lt h 8)
    as (λ b. Some k ≡ cond b (get_or (cond b (let d : Desk = record { slots = set desk.slots h o } in d) desk).slots h None) None → Some k ≡ o) [
      | true ↦ own_place desk.slots h o k
      | false ↦ λ e. absurd (none_some k (sym e))
    ]

pub nothing_put : (desk : Desk) (h : ℕ) → held (with_slot desk h None) h ≡ None
nothing_put desk h = go (held (with_slot desk h None) h) refl
  where
    go : (o : Option Ticket) → held (with_slot desk h None) h ≡ o → o ≡ None
    go None e = refl
    go (Some k) e = put_there desk h None k (sym e)

-- a host that holds a ticket is one of the eight
holder : (desk : Desk) (h : ℕ) (k : Ticket) → Some k ≡ held desk h → h < 8
holder desk h k has = grind (arith, nat_tests)

-- ---- A transaction that a ticket fits.

fits_by : (n h : ℕ) (x y : Host) (k : Ticket) → y.transaction ≡ x.transaction → Fits n h x k → Fits n h y k
fits_by n h x y k e f = record {
  bears = f.bears;
  in_phase = ap (λ (t : Option Transaction). is_some (fitting n (number_on k) (phase_on k) t)) e ∙ f.in_phase;
}

busy : (n d : ℕ) (p : Phase) (o : Option Transaction) → is_some (fitting n d p o) ≡ true → is_some o ≡ true
busy n d p None e = e
busy n d p (Some t) e = refl

handed_fits : (n h : ℕ) (t : Transaction) (p : Phase) (x : Host) → p ≡ t.phase → x.transaction ≡ Some t → Fits n h x (ticket_for n h p)
handed_fits n h t phases.Execution x e i = record { bears = refl; in_phase = grind (arith, nat_tests) }
handed_fits n h t phases.Report x e i = record { bears = refl; in_phase = grind (arith, nat_tests) }

accepted_transaction : (map : UnitMap) (m : Message) (x : Host) → (accepted_by map m x).transaction ≡ Some (opened map m)
unfolding accepted_by
accepted_transaction map m x = refl

-- ---- What a call comes to for its own host.

module _ (f : Fixed) (x : Host) (os : List (Option Block)) where
  exchanged : (b : Bool) (t : Transaction) (j : ExecutionTicket) (v : Moved) (status : Status) (buffer out : List ℕ) (k : Ticket) → (cond b (segment_moved f x t j.host v) (says (calls.returned status (tickets.Execution j) buffer) x)).answer ≡ calls.moved k out → Fits f.number j.host (cond b (segment_moved f x t j.host v) (says (calls.returned status (tickets.Execution j) buffer) x)).host k
  exchanged true t j v status buffer out k e =
      let u = advanced t v.progress in
      let i : ticket_for f.number j.host u.phase ≡ k = cc in
      subst (Fits f.number j.host (moved_by t v.progress x)) i (handed_fits f.number j.host u u.phase (moved_by t v.progress x) refl refl)
  exchanged false t j v status buffer out k e = absurd cc

  moved_fits : (o : Option Transaction) (j : ExecutionTicket) (buffer out : List ℕ) (k : Ticket) → (segmented f o x os j buffer).answer ≡ calls.moved k out → Fits f.number j.host (segmented f o x os j buffer).host k
  moved_fits None j buffer out k e = absurd cc
  moved_fits (Some t) j buffer out k e = exchanged _ t j _ statuses.BadBuffer buffer out k e

module _ (x : Host) where
  cancelled_done : (o : Option Transaction) (k : Ticket) → is_some o ≡ true → (cancelled o x k).answer ≡ calls.done
  cancelled_done None k e = absurd cc
  cancelled_done (Some t) k e = refl

  stays : (b : Bool) (a c : calls.Answer) → (cond b (says a x) (says c x)).host.transaction ≡ x.transaction
  stays true a c = refl
  stays false a c = refl

  not_cleared : (b r : Bool) (a c : calls.Answer) → r ≡ true → (cond b (cond r (says a x) (says calls.done cleared)) (says c x)).host.transaction ≡ x.transaction
  not_cleared true true a c e = refl
  not_cleared true false a c e = absurd cc
  not_cleared false r a c e = refl

module _ (f : Fixed) (x : Host) (m : Mail) (os : List (Option Block)) where
  accepted_fits : (b : Bool) (o : Option Message) (h : ℕ) (bytes : List ℕ) (k : Ticket) → (serve b f o x m os (calls.command h bytes)).answer ≡ calls.accepted k → Fits f.number h (serve b f o x m os (calls.command h bytes)).host k
  accepted_fits true o h bytes k e = absurd cc
  accepted_fits false None h bytes k e = absurd cc
  accepted_fits false (Some w) h bytes k e =
      let t = opened f.map w in
      let i : ticket_for f.number h t.phase ≡ k = cc in
      subst (Fits f.number h (accepted_by f.map w x)) i (handed_fits f.number h t t.phase (accepted_by f.map w x) refl (accepted_transaction f.map w x))

  came_to_check : (b : Bool) (o : Option Message) (h : ℕ) (bytes : List ℕ) (k : Ticket) → (serve b f o x m os (calls.command h bytes)).answer ≡ calls.accepted k → (w : Message) × (o ≡ Some w)
  came_to_check true o h bytes k e = absurd cc
  came_to_check false None h bytes k e = absurd cc
  came_to_check false (Some w) h bytes k e = (w, refl)

  -- without a ticket given or handed out, an at_work transaction stays
  stays_open : (b : Bool) (o : Option Message) (c : calls.Call) → ticket_given c ≡ None → ticket_in (serve b f o x m os c).answer ≡ None → is_some x.transaction ≡ true → (serve b f o x m os c).host.transaction ≡ x.transaction
  stays_open true o c g e at_work = refl
  stays_open false None (calls.command h bytes) g e at_work = refused_transaction _ x
  stays_open false (Some w) (calls.command h bytes) g e at_work = absurd cc
  stays_open false o (calls.segment k buffer) g e at_work = absurd cc
  stays_open false o (calls.report k buffer) g e at_work = absurd cc
  stays_open false o (calls.cancel k) g e at_work = absurd cc
  stays_open false o (calls.clear h) g e at_work = not_cleared x _ _ _ _ at_work
  stays_open false o (calls.notice h) g e at_work = stays x _ _ _
  stays_open false o (calls.fault h) g e at_work = stays x _ _ _

idle_ready : (reaches interlocked : Bool) (t : Option Transaction) (r : Result Message Status) (w : Message) → message_in (once (cond reaches (cond (is_some t) (Err statuses.MessageSequence) (cond interlocked (Err statuses.PowerOn) (Ok tt))) (Err statuses.StoreTooSmall)) r) ≡ Some w → t ≡ None
idle_ready false i t r w e = absurd (none_some w e)
idle_ready true i None r w e = refl
idle_ready true i (Some t) r w e = absurd (none_some w e)

idle_judged : (map : UnitMap) (reaches : Bool) (x : Host) (bytes : List ℕ) (w : Message) → message_in (judged map reaches x bytes) ≡ Some w → x.transaction ≡ None
unfolding judged
idle_judged map reaches x bytes w e = idle_ready reaches x.interlocked x.transaction _ w e

idle_asked : (b : Bool) (map : UnitMap) (reaches : Bool) (x : Host) (bytes : List ℕ) (w : Message) → cond b (message_in (judged map reaches x bytes)) None ≡ Some w → x.transaction ≡ None
idle_asked true map reaches x bytes w e = idle_judged map reaches x bytes w e
idle_asked false map reaches x bytes w e = absurd (none_some w e)

-- ---- The same of the state that a call leaves.

number_next : (s : State) (c : calls.Call) → (next s c).number ≡ s.number
unfolding next
number_next s c = refl

did_accepted : (s : State) (h : ℕ) (bytes : List ℕ) (k : Ticket) → answer s (calls.command h bytes) ≡ calls.accepted k → Fits s.number h (did s (calls.command h bytes)).host k
unfolding answer did
did_accepted s h bytes k e = accepted_fits _ _ _ _ _ _ h bytes k e

was_idle : (s : State) (h : ℕ) (bytes : List ℕ) (k : Ticket) → answer s (calls.command h bytes) ≡ calls.accepted k → (host_of s h).transaction ≡ None
unfolding answer
was_idle s h bytes k e =
    let c = came_to_check _ _ _ _ _ _ h bytes k e in
    idle_asked _ _ _ _ bytes c.0 c.1

did_moved : (s : State) (j : ExecutionTicket) (buffer out : List ℕ) (k : Ticket) → answer s (calls.segment j buffer) ≡ calls.moved k out → Fits s.number j.host (did s (calls.segment j buffer)).host k
unfolding answer did
did_moved s j buffer out k e = moved_fits (fixed s) _ _ _ j buffer out k e

did_stay : (s : State) (c : calls.Call) → ticket_given c ≡ None → ticket_in (answer s c) ≡ None → is_some (host_of s (calls.by c)).transaction ≡ true → (did s c).host.transaction ≡ (host_of s (calls.by c)).transaction
unfolding answer did
did_stay s c g e at_work = stays_open _ _ _ _ (in_way s c) (asked s c) c g e at_work

cancel_done : (s : State) (h : ℕ) (k : Ticket) → Fits s.number h (host_of s h) k → answer s (calls.cancel k) ≡ calls.done
unfolding answer
cancel_done s h k f =
    cancelled_done _ _ k (ap (λ (g : ℕ). is_some (fitting s.number (number_on k) (phase_on k) (host_of s g).transaction)) f.bears ∙ f.in_phase)

-- ---- The whole desk.

-- a device keeps its number and its eight hosts
fit_next : (s : State) (c : calls.Call) (desk : Desk) → length s.hosts ≡ 8 → ((h : ℕ) (k : Ticket) → Some k ≡ held desk h → Fits s.number h (host_of (next s c) h) k) → Own (next s c) desk
fit_next s c desk eight each = record {
  eight = hosts_kept s c ∙ eight;
  each = λ h k has. subst (λ (n : ℕ). Fits n h (host_of (next s c) h) k) (sym (number_next s c)) (each h k has);
}

-- the others' places stay, and in the caller's is its own ticket, or none
others_stay : (s : State) (c : calls.Call) (desk left : Desk) → Own s desk → ((g : ℕ) → g ≢ calls.by c → held left g ≡ held desk g)
    → ((k : Ticket) → Some k ≡ held left (calls.by c) → Fits s.number (calls.by c) (host_of (next s c) (calls.by c)) k) → Own (next s c) left
others_stay s c desk left own same mine =
    fit_next s c left own.eight
    (λ h k has.
    one_of (cases_eq h (calls.by c))
    (λ e. subst (λ (g : ℕ). Fits s.number g (host_of (next s c) g) k) (sym e) (mine k (has ∙ ap (held left) e)))
    (λ n. fits_by s.number h (host_of s h) (host_of (next s c) h) k (ap (λ (x : Host). x.transaction) (host_other s c h n)) (own.each h k (has ∙ same h n))))

-- what is said of the state that a call leaves is so of the one that there is
is_next : (s t : State) (c : calls.Call) (a : calls.Answer) (desk : Desk) → ◌≡◌ {A = calls.Answer × State} (a, t) (after s c) → Own (next s c) desk → Own t desk
is_next s t c a desk e own = subst (λ (u : State). Own u desk) (sym (ap (λ (p : calls.Answer × State). p.1) (said s t c a e))) own

answered : (s t : State) (c : calls.Call) (a : calls.Answer) → ◌≡◌ {A = calls.Answer × State} (a, t) (after s c) → answer s c ≡ a
answered s t c a e = sym (ap (λ (p : calls.Answer × State). p.0) (said s t c a e))

-- A host whose command is accepted held no ticket.
pub none_held : (s t : State) (h : ℕ) (bytes : List ℕ) (k : Ticket) (desk : Desk) → Own s desk → ◌≡◌ {A = calls.Answer × State} (calls.accepted k, t) (after s (calls.command h bytes)) → held desk h ≡ None
none_held s t h bytes k desk own e = go (held desk h) refl
  where
    go : (o : Option Ticket) → held desk h ≡ o → o ≡ None
    go None i = refl
    go (Some j) i =
        let idle = was_idle s h bytes k (answered s t (calls.command h bytes) (calls.accepted k) e) in
        let at_work = busy s.number (number_on j) (phase_on j) (host_of s h).transaction (own.each h j (sym i)).in_phase in
        clash (is_some (host_of s h).transaction) at_work (ap is_some idle)

pub handed_own : (s t : State) (h : ℕ) (bytes : List ℕ) (k : Ticket) (desk left : Desk) → Own s desk → ◌≡◌ {A = calls.Answer × State} (calls.accepted k, t) (after s (calls.command h bytes))
    → left ≡ with_slot desk h (Some k) → Own t left
handed_own s t h bytes k desk left own e is =
    let c = calls.command h bytes in
    subst (Own t) (sym is)
    (is_next s t c (calls.accepted k) (with_slot desk h (Some k)) e
    (others_stay s c desk (with_slot desk h (Some k)) own (λ g n. other_place desk h g (Some k) n)
    (λ j has.
    let l : h < length s.hosts = let m = holder (with_slot desk h (Some k)) h j has in omega (arith, own.eight) in
    let i : k ≡ j = let p = put_there desk h (Some k) j has in cc in
    subst (Fits s.number h (host_of (next s c) h)) i
    (subst (λ (x : Host). Fits s.number h x k) (sym (host_own s c l)) (did_accepted s h bytes k (answered s t c (calls.accepted k) e))))))

pub exchanged_own : (s t : State) (h : ℕ) (j : ExecutionTicket) (buffer out : List ℕ) (k : Ticket) (desk taken left : Desk) → Own s desk → Some (tickets.Execution j) ≡ held desk h
    → taken ≡ with_slot desk h None → ◌≡◌ {A = calls.Answer × State} (calls.moved k out, t) (after s (calls.segment j buffer)) → left ≡ with_slot taken h (Some k) → Own t left
exchanged_own s t h j buffer out k desk taken left own has took e is =
    let c = calls.segment j buffer in
    let bears : j.host ≡ h = (own.each h (tickets.Execution j) has).bears in
    let now : left ≡ with_slot desk j.host (Some k) = is ∙ ap (λ (d : Desk). with_slot d h (Some k)) took ∙ slot_again desk h None (Some k) ∙ ap (λ (g : ℕ). with_slot desk g (Some k)) (sym bears) in
    subst (Own t) (sym now)
    (is_next s t c (calls.moved k out) (with_slot desk j.host (Some k)) e
    (others_stay s c desk (with_slot desk j.host (Some k)) own (λ g n. other_place desk j.host g (Some k) n)
    (λ i holds.
    let l : j.host < length s.hosts = let m = holder (with_slot desk j.host (Some k)) j.host i holds in omega (arith, own.eight) in
    let same : k ≡ i = let p = put_there desk j.host (Some k) i holds in cc in
    subst (Fits s.number j.host (host_of (next s c) j.host)) same
    (subst (λ (x : Host). Fits s.number j.host x k) (sym (host_own s c l)) (did_moved s j buffer out k (answered s t c (calls.moved k out) e))))))

-- The ticket is spent: the host has none.
pub spent_own : (s t : State) (c : calls.Call) (a : calls.Answer) (h : ℕ) (k : Ticket) (desk left : Desk) → Own s desk → Some k ≡ held desk h → calls.bearer k ≡ calls.by c
    → ◌≡◌ {A = calls.Answer × State} (a, t) (after s c) → left ≡ with_slot desk h None → Own t left
spent_own s t c a h k desk left own has of e is =
    let here : h ≡ calls.by c = sym (own.each h k has).bears ∙ of in
    let now : left ≡ with_slot desk (calls.by c) None = is ∙ ap (λ (g : ℕ). with_slot desk g None) here in
    subst (Own t) (sym now)
    (is_next s t c a (with_slot desk (calls.by c) None) e
    (others_stay s c desk (with_slot desk (calls.by c) None) own (λ g n. other_place desk (calls.by c) g None n)
    (λ j holds. absurd (none_some j (sym (put_there desk (calls.by c) None j holds))))))

-- What was taken is put back.
back : (h : ℕ) (k : Ticket) (desk taken left : Desk) → Some k ≡ held desk h → taken ≡ with_slot desk h None → left ≡ with_slot taken h (Some k) → left ≡ desk
back h k desk taken left has took is =
    is ∙ ap (λ (d : Desk). with_slot d h (Some k)) took ∙ slot_again desk h None (Some k) ∙ same_slot desk h (Some k) has

pub back_own : (s : State) (h : ℕ) (k : Ticket) (desk taken left : Desk) → Own s desk → Some k ≡ held desk h → taken ≡ with_slot desk h None → left ≡ with_slot taken h (Some k) → Own s left
back_own s h k desk taken left own has took is = subst (Own s) (sym (back h k desk taken left has took is)) own

pub none_own : (s : State) (h : ℕ) (desk taken : Desk) → Own s desk → None ≡ held desk h → taken ≡ with_slot desk h None → Own s taken
none_own s h desk taken own has took = subst (Own s) (sym (took ∙ same_slot desk h None has)) own

-- A refused call hands the ticket back, and leaves every host as it was.
pub returned_own : (s t : State) (c : calls.Call) (status : Status) (buffer : List ℕ) (h : ℕ) (j k : Ticket) (desk taken left : Desk) → Own s desk → Some j ≡ held desk h → ticket_given c ≡ Some j
    → taken ≡ with_slot desk h None → ◌≡◌ {A = calls.Answer × State} (calls.returned status k buffer, t) (after s c) → left ≡ with_slot taken h (Some k) → Own t left
returned_own s t c status buffer h j k desk taken left own has given took e is =
    let leaves : HandedBack s (next s c) c k buffer = subst (Leaves s c) (answered s t c (calls.returned status k buffer) e) (refusals_from s [] c) in
    let same : k ≡ j = let p : Some k ≡ Some j = leaves.same_ticket ∙ given in cc in
    let now = back h j desk taken left has took (is ∙ ap (λ (i : Ticket). with_slot taken h (Some i)) same) in
    subst (Own t) (sym now)
    (is_next s t c (calls.returned status k buffer) desk e
    (fit_next s c desk own.eight
    (λ g i holds. fits_by s.number g (host_of s g) (host_of (next s c) g) i (ap (λ (x : Host). x.transaction) (leaves.hosts g)) (own.each g i holds))))

-- A call that takes no ticket, and hands none out, leaves each ticket its host's own.
pub quiet_own : (s t : State) (c : calls.Call) (a : calls.Answer) (desk : Desk) → Own s desk → ticket_given c ≡ None → ticket_in a ≡ None → ◌≡◌ {A = calls.Answer × State} (a, t) (after s c) → Own t desk
quiet_own s t c a desk own given none e =
    is_next s t c a desk e
    (fit_next s c desk own.eight
    (λ g k has.
    fits_by s.number g (host_of s g) (host_of (next s c) g) k (one_of (host_next s c g)
    (λ i. ap (λ (x : Host). x.transaction) i)
    (λ i.
    let at_work = busy s.number (number_on k) (phase_on k) (host_of s g).transaction (own.each g k has).in_phase in
    ap (λ (x : Host). x.transaction) i.1
    ∙ did_stay s c given (ap ticket_in (answered s t c a e) ∙ none) (subst (λ (n : ℕ). is_some (host_of s n).transaction ≡ true) i.0 at_work)
    ∙ ap (λ (n : ℕ). (host_of s n).transaction) (sym i.0)))
    (own.each g k has)))

-- The device accepts the cancel of a kept ticket.
pub never_returned : (s t : State) (h : ℕ) (j k : Ticket) (status : Status) (buffer : List ℕ) (desk : Desk) → Own s desk → Some k ≡ held desk h
    → ◌≡◌ {A = calls.Answer × State} (calls.returned status j buffer, t) (after s (calls.cancel k)) → ⊥
never_returned s t h j k status buffer desk own has e =
    let is = cancel_done s h k (own.each h k has) in
    let other = answered s t (calls.cancel k) (calls.returned status j buffer) e in
    cc

pub none_by_clear : (r : Result (Unit {0}) Status) → ticket_in (clear_answer r) ≡ None
none_by_clear (Ok t) = refl
none_by_clear (Err status) = refl

pub none_by_notice : (r : Result (Option Status) Status) → ticket_in (notice_answer r) ≡ None
none_by_notice (Ok told) = refl
none_by_notice (Err status) = refl

pub none_by_fault : (r : Result (Option HostFault) Status) → ticket_in (fault_answer r) ≡ None
none_by_fault (Ok met) = refl
none_by_fault (Err status) = refl
