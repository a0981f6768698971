-- A call that names no host of the device is refused, and leaves the device as it is, but that every wait is judged.
use Rattle.std.proofs.Common.{◌≡◌, ℕ, ◌≤◌, cond, List, [], length, set, None, sym, refl, ap, ◌∙◌, ap₂, arith}
use Rattle.std.proofs.lemmas.List.{get_or_past, set-get_or, set_past}
use Rattle.std.proofs.lemmas.Bool.{le-ltb}
use Rattle.store.specs.Blocks.{Block}
use Rattle.flex.specs.declared.status.Status.TheVariants as statuses
use Rattle.host.specs.declared.mail.Mail.{Mail}
use Rattle.host.specs.declared.record.Host.{Host}
use Rattle.host.specs.Hosts.{blank, host_at}
use Rattle.host.specs.Messages.{judged, refused}
use Rattle.host.specs.Waits.{settle}
use Rattle.device.specs.declared.controller.Controller.{Controller}
use Rattle.device.specs.declared.ticket.Ticket.TheVariants as tickets
use Rattle.device.specs.Calls.{Call, command, segment, report, cancel, clear, notice, fault, by, Answer, refusal, returned}
use Rattle.device.specs.Device.{State, state_of, fixed, first_status, status_in, host_of, says, Served, served, posted, asked, in_way, mail_of, left_by, after, with_waits}

-- What such a call answers: 128/4 where it names the host itself, and 1/6 where its ticket bears it.
abbrev refused_to : Call → Answer
refused_to (command h bytes) = refusal statuses.BadHost
refused_to (segment k buffer) = returned statuses.MessageSequence (tickets.Execution k) buffer
refused_to (report k buffer) = returned statuses.MessageSequence (tickets.Report k) buffer
refused_to (cancel k) = returned statuses.MessageSequence k []
refused_to (clear h) = refusal statuses.BadHost
refused_to (notice h) = refusal statuses.BadHost
refused_to (fault h) = refusal statuses.BadHost

refused_bad : (x : Host) → refused statuses.BadHost x ≡ x
unfolding refused
refused_bad x = refl

module _ (c : Controller) (bs : List Block) (hosts : length c.hosts ≡ 8) where
  abbrev s : State
  s = state_of c bs

  -- A ticket that bears no host of the device fits no transaction.
  idle : (h : ℕ) → 8 ≤ h → (host_at c.hosts h).transaction ≡ None
  idle h past = ap (λ (x : Host). x.transaction) (get_or_past c.hosts h blank (omega arith))

  served_none : (k : Call) → 8 ≤ by k → served s k ≡ says (refused_to k) (host_of s (by k))
  served_none (command h bytes) past =
      let none = le-ltb h 8 past in
      let bad : first_status (fixed s) (host_of s h) h bytes ≡ statuses.BadHost = ap (λ b. cond b (status_in (judged c.map (fixed s).reaches (host_of s h) bytes)) statuses.BadHost) none in
      rw (none, bad, refused_bad (host_of s h)) refl
  served_none (segment k buffer) past = rw (idle k.host past) refl
  served_none (report k buffer) past = rw (idle k.host past) refl
  served_none (cancel (tickets.Execution k)) past = rw (idle k.host past) refl
  served_none (cancel (tickets.Report k)) past = rw (idle k.host past) refl
  served_none (clear h) past = rw (le-ltb h 8 past) refl
  served_none (notice h) past = rw (le-ltb h 8 past) refl
  served_none (fault h) past = rw (le-ltb h 8 past) refl

  -- Nothing is put back: there is no such place.
  pub nobody : length c.mail ≡ 8 → (k : Call) → 8 ≤ by k → (left : Controller) → left ≡ with_waits c → (refused_to k, state_of left bs) ≡ after s k
  nobody mails k past left e =
      let h = by k in
      let m = posted (in_way s k) (asked s k) (host_of s h) k (mail_of s h) in
      let same : set c.hosts h (host_of s h) ≡ c.hosts = set-get_or c.hosts h blank in
      let silent : set c.mail h m ≡ c.mail = set_past c.mail h m (omega arith) in
      ap (λ (d : Controller). (refused_to k, state_of d bs)) e
      ∙ ap₂ (λ (xs : List Host) (ms : List Mail). (refused_to k, state_of (record { number = c.number; map = c.map; hosts = xs; mail = settle xs ms; activity = c.activity }) bs)) (sym same) (sym silent)
      ∙ ap (λ (d : Served). (d.answer, left_by s k d)) (sym (served_none k past))
