-- What a call can do to its own host, whatever the others hold.
use Rattle.std.proofs.Common.{◌≡◌, ℕ, Bool, true, false, cond, ◌&&◌, eqb, ltb, leb, ◌⊎◌, List, length, get_or, is_some, Some, None, Option, sym, refl, ap, ◌∙◌, subst, ap₂, arith}
use Rattle.std.proofs.lemmas.Bool.Decides.{nat_tests}
use Rattle.store.specs.Blocks.{Block}
use Rattle.message.specs.declared.command.Command.{Command}
use Rattle.message.specs.declared.message.Message.{Message}
use Rattle.flex.specs.declared.status.Status.{Status}
use Rattle.flex.specs.declared.unit_map.UnitMap.{UnitMap}
use Rattle.host.specs.declared.locks.Locks.{Locks}
use Rattle.host.specs.declared.mail.Mail.{Mail}
use Rattle.host.specs.declared.progress.Progress.{Progress}
use Rattle.host.specs.declared.record.Host.{Host}
use Rattle.host.specs.declared.transaction.Phase.TheVariants as phases
use Rattle.host.specs.declared.transaction.Transaction.{Transaction}
use Rattle.host.specs.declared.want.Want.{Want}
use Rattle.host.specs.declared.want.Want.TheVariants as wants
use Rattle.host.specs.Hosts.{no_locks, cleared, locked, unit_of, is_unit, works_on, on}
use Rattle.host.specs.Messages.{refused, want_of, wanted, locks_after, opened, accepted as accepted_by}
use Rattle.host.specs.Progress.{moved_by, ended}
use Rattle.device.specs.declared.ticket.ExecutionTicket.{ExecutionTicket}
use Rattle.device.specs.declared.ticket.ReportTicket.{ReportTicket}
use Rattle.device.specs.declared.ticket.Ticket.{Ticket}
use Rattle.device.specs.Calls.{Call, command, segment, report, cancel, clear, notice, fault, Answer, accepted, done}
use Rattle.transfer.specs.Segments.{moved_by_command, message_of, told, refusal_of}
use Rattle.device.specs.Device.{Fixed, Served, says, is_phase, fitting, number_on, phase_on, segment_moved, executable, segmented, reported_on, cancelled, does, serve}
use Rattle.device.proofs.Segmented.{segment_by, segmented_by}
use Rattle.device.proofs.Tests.{clash, getD_set_cases, of_row}
use Rattle.device.proofs.Apart.{Grown}

-- What holds of each way that a call can end holds of what the call comes to: its host is left, refused, or accepted; its transaction is
-- moved on or ended; or it is cleared.
module _ (f : Fixed) (o : Option Message) (x : Host) (os : List (Option Block)) (c : Call) (P : Served → Type 0) where
  pub record Ways : Type 0 where
    pub stays : (a : Answer) → P (says a x)
    pub refuses : (a : Answer) (s : Status) → P (says a (refused s x))
    pub accepts : (h : ℕ) (bytes : List ℕ) → c ≡ command h bytes → (m : Message) → o ≡ Some m → (k : Ticket) → P (says (accepted k) (accepted_by f.map m x))
    pub moves : (t : Transaction) → x.transaction ≡ Some t → (h b : ℕ) (message buffer : List ℕ) → refusal_of f.map t message buffer ≡ None → P (segment_moved f x t h (told message (moved_by_command t.command t b os buffer)))
    pub ends : (a : Answer) → P (says a (ended x))
    pub clears : (h : ℕ) → c ≡ clear h → P (says done cleared)

  module _ (w : Ways) where
    choose : (b : Bool) {y z : Served} → P y → P z → P (cond b y z)
    choose true p q = p
    choose false p q = q

    command_ways : (h : ℕ) (bytes : List ℕ) → c ≡ command h bytes → (r : Option Message) → o ≡ r → (m : Mail) → P (does f r x m os (command h bytes))
    command_ways h bytes e None i m = w.refuses _ _
    command_ways h bytes e (Some k) i m = w.accepts h bytes e k i _

    -- a ticket that fits is for the host's own transaction
    segment_ways : (k : ExecutionTicket) (buffer : List ℕ) (r : Option Transaction) → x.transaction ≡ r → P (segmented f (executable f.map (fitting f.number k.device phases.Execution r)) x os k buffer)
    segment_ways k buffer None e = w.stays _
    segment_ways k buffer (Some t) e = by_fit (eqb k.device f.number && is_phase phases.Execution t.phase)
      where
        by_refusal : (r : Option Status) → refusal_of f.map t (message_of f.map k.host t) buffer ≡ r → P (segment_by r f x t os k buffer)
        by_refusal None i = w.moves t e _ _ _ _ i
        by_refusal (Some s) i = w.stays _

        by_fit : (b : Bool) → P (segmented f (executable f.map (cond b (Some t) None)) x os k buffer)
        by_fit true = subst P (sym (segmented_by f x t os k buffer)) (by_refusal (refusal_of f.map t (message_of f.map k.host t) buffer) refl)
        by_fit false = w.stays _

    report_ways : (k : ReportTicket) (buffer : List ℕ) (r : Option Transaction) → P (reported_on r x k buffer)
    report_ways k buffer None = w.stays _
    report_ways k buffer (Some t) = choose (leb 13 (length buffer)) (w.ends _) (w.stays _)

    cancel_ways : (k : Ticket) (r : Option Transaction) → P (cancelled r x k)
    cancel_ways k None = w.stays _
    cancel_ways k (Some t) = w.ends _

    pub does_ways : (m : Mail) → P (does f o x m os c)
    does_ways m = go c refl
      where
        go : (d : Call) → c ≡ d → P (does f o x m os d)
        go (command h bytes) e = command_ways h bytes e o refl m
        go (segment k buffer) e = segment_ways k buffer x.transaction refl
        go (report k buffer) e = report_ways k buffer (fitting f.number k.device phases.Report x.transaction)
        go (cancel k) e = cancel_ways k (fitting f.number (number_on k) (phase_on k) x.transaction)
        go (clear h) e = choose (ltb h 8) (choose (is_some x.transaction) (w.stays _) (w.clears h e)) (w.stays _)
        go (notice h) e = choose (ltb h 8) (w.stays _) (w.stays _)
        go (fault h) e = choose (ltb h 8) (w.stays _) (w.stays _)

-- ---- What a host gains.

-- No lock is gained, and no transaction.
kept_grown : (o : Option Want) (x x' : Host) → x'.locks ≡ x.locks → ((u : ℕ) → on x' u ≡ true → on x u ≡ true) → (is_some x'.transaction ≡ true → is_some x.transaction ≡ true) → Grown o x x'
kept_grown o x x' l w b = record {
  device = λ t f. clash x.locks.device (sym (ap (λ (k : Locks). k.device) l) ∙ t) f;
  unit = λ u t f. clash (locked x u) (sym (ap (λ (k : Locks). get_or k.units u false) l) ∙ t) f;
  on_it = λ u t f. clash (on x u) (w u t) f;
  busy = λ t f. clash (is_some x.transaction) (b t) f;
}

pub same_grown : (o : Option Want) (x x' : Host) → x'.locks ≡ x.locks → x'.transaction ≡ x.transaction → Grown o x x'
same_grown o x x' l e =
    kept_grown o x x' l (λ u t. sym (ap (λ (k : Option Transaction). works_on k u) e) ∙ t) (λ t. sym (ap is_some e) ∙ t)

moved_grown : (o : Option Want) (x : Host) (t : Transaction) (p : Progress) → x.transaction ≡ Some t → Grown o x (moved_by t p x)
moved_grown o x t p e = kept_grown o x (moved_by t p x) refl (λ u w. ap (λ (k : Option Transaction). works_on k u) e ∙ w) (λ _. ap is_some e)

pub no_lock : (u : ℕ) → get_or no_locks.units u false ≡ false
no_lock u = of_row (λ (b : Bool). b ≡ false) false false refl refl 15 u

cleared_grown : (o : Option Want) (x : Host) → Grown o x cleared
cleared_grown o x = record {
  device = λ t f. clash false t refl;
  unit = λ u t f. clash (get_or no_locks.units u false) t (no_lock u);
  on_it = λ u t f. clash false t refl;
  busy = λ t f. clash false t refl;
}

-- A refused message leaves the locks and the transaction.
pub refused_locks : (s : Status) (x : Host) → (refused s x).locks ≡ x.locks
unfolding refused
refused_locks s x = refl

pub refused_transaction : (s : Status) (x : Host) → (refused s x).transaction ≡ x.transaction
unfolding refused
refused_transaction s x = refl

-- An accepted one gains what its command asks for.
device_gain : (k : Option Command) (u : ℕ) (l : Locks) → (locks_after k u l).device ≡ true → l.device ≡ false → Some (want_of k u) ≡ Some wants.Device
device_gain k u l t f = grind arith

unit_gain : (k : Option Command) (v : ℕ) (l : Locks) (u : ℕ) → get_or (locks_after k v l).units u false ≡ true → get_or l.units u false ≡ false → Some (want_of k v) ≡ Some (wants.Lock u)
unit_gain k v l u t f = grind (arith, getD_set_cases)

on_gain : (k : Option Command) (v u : ℕ) → is_unit (unit_of k v) u ≡ true → (Some (want_of k v) ≡ Some (wants.Lock u)) ⊎ (Some (want_of k v) ≡ Some (wants.Unit u))
on_gain k v u t = grind (arith, nat_tests)

-- A transaction is of the command and the unit that it was opened for.
opened_is : (map : UnitMap) (m : Message) → ((opened map m).command ≡ m.command) × ((opened map m).unit ≡ m.parameters.unit)
opened_is map m = grind arith

opened_works : (map : UnitMap) (m : Message) (u : ℕ) → works_on (Some (opened map m)) u ≡ is_unit (unit_of m.command m.parameters.unit) u
opened_works map m u = ap₂ (λ (k : Option Command) (v : ℕ). is_unit (unit_of k v) u) (opened_is map m).0 (opened_is map m).1

accepted_grown : (map : UnitMap) (m : Message) (x : Host) → Grown (Some (wanted m)) x (accepted_by map m x)
unfolding accepted_by
accepted_grown map m x = record {
  device = λ t f. device_gain m.command m.parameters.unit x.locks t f;
  unit = λ u t f. unit_gain m.command m.parameters.unit x.locks u t f;
  on_it = λ u t f. on_gain m.command m.parameters.unit u (sym (opened_works map m u) ∙ t);
  busy = λ t f. (wanted m, refl);
}

-- What was asked for.
abbrev pub asking : Option Message → Option Want
asking None = None
asking (Some m) = Some (wanted m)

-- What was asked for, if nothing stood in the way.
abbrev pub earned : Bool → Option Message → Option Want
earned true o = None
earned false o = asking o

module _ (f : Fixed) (o : Option Message) (x : Host) (m : Mail) (os : List (Option Block)) (c : Call) where
  does_grown : Grown (asking o) x (does f o x m os c).host
  does_grown = does_ways f o x os c (λ (d : Served). Grown (asking o) x d.host) (record {
    stays = λ _. same_grown (asking o) x x refl refl;
    refuses = λ _ s. same_grown (asking o) x (refused s x) (refused_locks s x) (refused_transaction s x);
    accepts = λ _ _ _ k e _. rw e (accepted_grown f.map k x);
    moves = λ t e _ b _ buffer _. moved_grown (asking o) x t (moved_by_command t.command t b os buffer).progress e;
    ends = λ _. kept_grown (asking o) x (ended x) refl (λ u t. clash false t refl) (λ t. clash false t refl);
    clears = λ _ _. cleared_grown (asking o) x;
  }) m

  pub serve_grown : (b : Bool) → Grown (earned b o) x (serve b f o x m os c).host
  serve_grown true = same_grown None x x refl refl
  serve_grown false = does_grown
