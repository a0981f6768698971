-- What a fault call answers: the fault that is kept of a host is the first that its segments met.
use Rattle.std.proofs.Common.{◌≡◌, ℕ, suc, ◌<◌, Bool, true, false, cond, ltb, leb, eqb, ◌&&◌, List, [], ◌∷◌, ◌++◌, take, length, is_some, Some, None, Ok, Err, Option, Result, sym, refl, ap, ◌∙◌, subst, ap₂, arith}
use Rattle.std.proofs.lemmas.Bool.{eqb-true, eqb-false}
use Rattle.std.proofs.lemmas.Bool.Decides.{nat_tests}
use Rattle.std.proofs.lemmas.List.{get_or-replicate}
use Rattle.std.specs.List.{slice_get}
use Rattle.std.specs.Option.{option_or}
use Rattle.store.specs.declared.fault.StoreFault.{StoreFault}
use Rattle.store.specs.Blocks.{Block, read_at, write_at}
use Rattle.message.specs.declared.command.Command.{Command}
use Rattle.message.specs.declared.command.Command.TheVariants as commands
use Rattle.message.specs.declared.message.Message.{Message}
use Rattle.flex.specs.declared.status.Status.{Status}
use Rattle.flex.specs.declared.unit_map.UnitMap.{UnitMap}
use Rattle.host.specs.declared.fault.HostFault.{HostFault}
use Rattle.host.specs.declared.mail.Mail.{Mail}
use Rattle.host.specs.declared.record.Host.{Host}
use Rattle.host.specs.declared.transaction.Failure.{Failure}
use Rattle.host.specs.declared.transaction.Phase.TheVariants as phases
use Rattle.host.specs.declared.transaction.Transaction.{Transaction}
use Rattle.host.specs.Hosts.{at_start, blank}
use Rattle.host.specs.Messages.{refused, accepted as accepted_by}
use Rattle.host.specs.Progress.{lies_in}
use Rattle.device.specs.declared.ticket.ExecutionTicket.{ExecutionTicket}
use Rattle.device.specs.declared.ticket.ReportTicket.{ReportTicket}
use Rattle.device.specs.declared.ticket.Ticket.{Ticket}
use Rattle.device.specs.Calls.{Call, command, segment, report, cancel, clear, notice, fault, by, faulted}
use Rattle.transfer.specs.Segments.{start_of, met, write_by, moved_by_command, message_of, holds_segment}
use Rattle.transfer.proofs.Faults.{fault_by, read_faults, write_faults}
use Rattle.device.specs.Device.{State, host_of, mail_of, Fixed, fixed, asked, in_way, Served, is_phase, fitting, executable, number_on, phase_on, segmented, reported_on, cancelled, serve, answer, next, run, power_on}
use Rattle.device.specs.Isolation.{by_host}
use Rattle.device.specs.Faults.{fault_here, faults_in, faults_met, faults_of, faults_next, met_after, met_since, FaultsFrom}
use Rattle.device.proofs.Steps.{did, content, answer_is, host_other, host_own, hosts_kept}

-- ---- The first of a list of faults.

abbrev first : List HostFault → Option HostFault
first xs = slice_get xs 0

first_joined : (xs ys : List HostFault) → first (xs ++ ys) ≡ option_or (first xs) (first ys)
first_joined [] ys = refl
first_joined (x ∷ xs) ys = refl

first_taken : (xs : List HostFault) → first (take 1 xs) ≡ first xs
first_taken [] = refl
first_taken (x ∷ xs) = refl

module _ (asked : ℕ → Option Block → Result (Unit {0}) StoreFault) where
  first_in : (u b a : ℕ) (os : List (Option Block)) → fault_by asked u b a os ≡ first (faults_in asked u b a os)
  first_in u b a [] = refl
  first_in u b a (o ∷ os) = go (asked b o) (fault_by asked u (suc b) (suc a) os) (faults_in asked u (suc b) (suc a) os) (first_in u (suc b) (suc a) os)
    where
      go : (r : Result (Unit {0}) StoreFault) (later : Option HostFault) (more : List HostFault) → later ≡ first more → met r u a later ≡ first (fault_here r u a ++ more)
      go (Ok x) later more e = e
      go (Err f) later more e = refl

-- A segment keeps the first that it meets.
first_met : (k : Option Command) (t : Transaction) (b : ℕ) (os : List (Option Block)) (buffer : List ℕ) → (moved_by_command k t b os buffer).progress.fault ≡ first (faults_met k t b os)
unfolding moved_by_command
first_met None t b os buffer = refl
first_met (Some commands.Read) t b os buffer = read_faults t.unit b t.at os ∙ first_in read_at t.unit b t.at os
first_met (Some commands.Verify) t b os buffer = read_faults t.unit b t.at os ∙ first_in read_at t.unit b t.at os
first_met (Some commands.Write) t b os buffer = go t.outcome
  where
    go : (o : Option Failure) → (write_by o t b os buffer).progress.fault ≡ first (cond (is_some o) [] (take 1 (faults_in write_at t.unit b t.at os)))
    go None = write_faults t.unit b t.at os ∙ first_in write_at t.unit b t.at os ∙ sym (first_taken (faults_in write_at t.unit b t.at os))
    go (Some f) = refl
first_met (Some commands.ExtendedDescribe) t b os buffer = refl
first_met (Some commands.SetDeviceLock) t b os buffer = refl
first_met (Some commands.DeleteDeviceLock) t b os buffer = refl
first_met (Some commands.SetUnitLock) t b os buffer = refl
first_met (Some commands.DeleteUnitLock) t b os buffer = refl

-- ---- What a call comes to.

-- The fault that is kept of the host after it is the first of what its segments have met then.
record Kept (c : Call) (here met : List HostFault) (d : Served) : Type 0 where
  kept : d.host.fault ≡ first (met_after c here d.answer met)

refused_fault : (t : Status) (x : Host) → (refused t x).fault ≡ x.fault
unfolding refused
refused_fault t x = refl

accepted_fault : (map : UnitMap) (m : Message) (x : Host) → (accepted_by map m x).fault ≡ None
unfolding accepted_by
accepted_fault map m x = refl

module _ (f : Fixed) (x : Host) (os : List (Option Block)) (met : List HostFault) (e : x.fault ≡ first met) where
  abbrev KeptAt : Call → Served → Type 0
  KeptAt c d = Kept c (faults_of x.transaction (start_of f.map x.transaction) os) met d

  either_kept : (c : Call) (here : List HostFault) (b : Bool) {y z : Served} → Kept c here met y → Kept c here met z → Kept c here met (cond b y z)
  either_kept c here true p q = p
  either_kept c here false p q = q

  choose : (c : Call) (b : Bool) {y z : Served} → KeptAt c y → KeptAt c z → KeptAt c (cond b y z)
  choose c b p q = either_kept c (faults_of x.transaction (start_of f.map x.transaction) os) b p q

  segment_kept : (k : ExecutionTicket) (buffer : List ℕ) (o : Option Transaction) → x.transaction ≡ o → Kept (segment k buffer) (faults_of o (start_of f.map o) os) met (segmented f (executable f.map (fitting f.number k.device phases.Execution o)) x os k buffer)
  segment_kept k buffer None i = record { kept = e }
  segment_kept k buffer (Some t) i = by_fit (eqb k.device f.number && is_phase phases.Execution t.phase)
    where
      here : List HostFault
      here = faults_met t.command t (start_of f.map (Some t)) os

      by_unit : (b : Bool) → Kept (segment k buffer) here met (segmented f (cond b (Some t) None) x os k buffer)
      by_unit true = either_kept (segment k buffer) here (holds_segment t (message_of f.map k.host t) buffer)
          (record { kept = ap₂ option_or e (first_met t.command t (start_of f.map (Some t)) os buffer) ∙ sym (first_joined met here) })
          (record { kept = e })
      by_unit false = record { kept = e }

      by_fit : (b : Bool) → Kept (segment k buffer) here met (segmented f (executable f.map (cond b (Some t) None)) x os k buffer)
      by_fit true = by_unit (lies_in f.map t)
      by_fit false = record { kept = e }

  cancel_kept : (k : Ticket) (r : Option Transaction) → KeptAt (cancel k) (cancelled r x k)
  cancel_kept k None = record { kept = e }
  cancel_kept k (Some t) = record { kept = e }

  report_kept : (k : ReportTicket) (buffer : List ℕ) (r : Option Transaction) → KeptAt (report k buffer) (reported_on r x k buffer)
  report_kept k buffer None = record { kept = e }
  report_kept k buffer (Some t) = choose (report k buffer) (leb 13 (length buffer)) (record { kept = e }) (record { kept = e })

  serve_kept : (b : Bool) (o : Option Message) (m : Mail) (c : Call) → KeptAt c (serve b f o x m os c)
  serve_kept true o m c = record { kept = e }
  serve_kept false None m (command h bytes) = record { kept = refused_fault _ x ∙ e }
  serve_kept false (Some w) m (command h bytes) = record { kept = accepted_fault f.map w x }
  serve_kept false o m (segment k buffer) = segment_kept k buffer x.transaction refl
  serve_kept false o m (report k buffer) = report_kept k buffer (fitting f.number k.device phases.Report x.transaction)
  serve_kept false o m (cancel k) = cancel_kept k (fitting f.number (number_on k) (phase_on k) x.transaction)
  serve_kept false o m (clear h) = choose (clear h) (ltb h 8) (choose (clear h) (is_some x.transaction) (record { kept = e }) (record { kept = refl })) (record { kept = e })
  serve_kept false o m (notice h) = choose (notice h) (ltb h 8) (record { kept = e }) (record { kept = e })
  serve_kept false o m (fault h) = choose (fault h) (ltb h 8) (record { kept = e }) (record { kept = e })

did_kept : (s : State) (c : Call) (met : List HostFault) → (host_of s (by c)).fault ≡ first met → Kept c (faults_next s (by c)) met (did s c)
unfolding did
did_kept s c met e = serve_kept (fixed s) (host_of s (by c)) (content s c) met e (in_way s c) (asked s c) (mail_of s (by c)) c

-- ---- Over runs.

kept_next : (s : State) (c : Call) (h : ℕ) (met : List HostFault) → h < length s.hosts → (host_of s h).fault ≡ first met → (host_of (next s c) h).fault ≡ first (cond (by_host h c) (met_after c (faults_next s h) (answer s c) met) met)
kept_next s c h met l e = go (by_host h c) refl
  where
    own : by c ≡ h → (host_of (next s c) h).fault ≡ first (met_after c (faults_next s h) (answer s c) met)
    own i =
        subst
        (λ n. n < length s.hosts → (host_of s n).fault ≡ first met → (host_of (next s c) n).fault ≡ first (met_after c (faults_next s n) (answer s c) met))
        i
        (λ l e. ap (λ (x : Host). x.fault) (host_own s c l) ∙ (rw (answer_is s c) (did_kept s c met e).kept))
        l
        e

    go : (b : Bool) → by_host h c ≡ b → (host_of (next s c) h).fault ≡ first (cond b (met_after c (faults_next s h) (answer s c) met) met)
    go true q = own (eqb-true (by c) h q)
    go false q = ap (λ (x : Host). x.fault) (host_other s c h (λ i. eqb-false (by c) h q (sym i))) ∙ e

kept_run : (h : ℕ) (s : State) (calls : List Call) (met : List HostFault) → h < length s.hosts → (host_of s h).fault ≡ first met → (host_of (run s calls) h).fault ≡ first (met_since h s calls met)
kept_run h s [] met l e = e
kept_run h s (c ∷ calls) met l e = kept_run h (next s c) calls _ (rw (hosts_kept s c) l) (kept_next s c h met l e)

fault_answer : (s : State) (h : ℕ) → h < 8 → answer s (fault h) ≡ faulted (host_of s h).fault
unfolding did
fault_answer s h l = let z : ltb h 8 ≡ true = grind (arith, nat_tests) in answer_is s (fault h) ∙ (rw z refl)

pub faults_from : (number : ℕ) (map : UnitMap) (blocks : List Block) → FaultsFrom (power_on number map blocks)
faults_from number map blocks calls h l =
    let start = power_on number map blocks in
    fault_answer (run start calls) h l ∙ ap faulted (kept_run h start calls [] l (ap (λ (x : Host). x.fault) (get_or-replicate 8 h at_start blank l)))
