-- A segment of an open transaction, step by step.
use Rattle.std.proofs.Common.{◌≡◌, ℕ, Bool, true, false, cond, nat_lt, List, Some, None, Ok, Err, Option, sym, refl, ap, ◌∙◌, arith}
use Rattle.std.specs.Option.{option_map}
use Rattle.std.proofs.lemmas.Bool.Decides.{nat_tests}
use Rattle.std.proofs.lemmas.List.{set-get_or}
use Rattle.store.specs.Blocks.{Block}
use Rattle.flex.specs.declared.status.Status.{Status}
use Rattle.host.specs.declared.progress.Progress.{Progress}
use Rattle.host.specs.declared.transaction.Phase.{Phase}
use Rattle.host.specs.declared.transaction.Phase.TheVariants as phases
use Rattle.host.specs.declared.transaction.Transaction.{Transaction}
use Rattle.host.specs.Hosts.{blank, host_at}
use Rattle.host.specs.Waits.{silent}
use Rattle.transfer.specs.Segments.{start_of, laid, Moved, message_of, executed_over, refusal_of, progress_by, buffer_by, blocks_by}
use Rattle.device.specs.declared.controller.Controller.{Controller}
use Rattle.device.specs.declared.ticket.ExecutionTicket.{ExecutionTicket}
use Rattle.device.specs.declared.ticket.Pass.{Pass}
use Rattle.device.specs.declared.ticket.Ticket.TheVariants as tickets
use Rattle.device.specs.Calls.{segment, moved, returned}
use Rattle.device.specs.Callers.{kept, pass_on, borne}
use Rattle.device.specs.Device.{state_of, after, fitting, with_waits, gone_on}
use Rattle.device.proofs.Segmented.{segmented_by}

-- A segment that is moved was not refused, and one that is refused has that status.
moved_is : (r : Option Status) (m : Moved) (p : Progress) → Ok p ≡ progress_by r m → (r ≡ None) × (p ≡ m.progress)
moved_is None m p e = (refl, cc)
moved_is (Some s) m p e = absurd (let z : ◌≡◌ {A = ℕ} 0 1 = cc in omega arith)

refused_is : (r : Option Status) (m : Moved) (s : Status) → Err s ≡ progress_by r m → r ≡ Some s
refused_is None m s e = absurd (let z : ◌≡◌ {A = ℕ} 0 1 = cc in omega arith)
refused_is (Some u) m s e = cc

-- The transaction that a ticket fits is its host's open one.
pub fitting_is : (n d : ℕ) (p : Phase) (o : Option Transaction) (t : Transaction) → fitting n d p o ≡ Some t → o ≡ Some t
fitting_is n d p None t e = grind (arith, nat_tests)
fitting_is n d p (Some u) t e = grind (arith, nat_tests)

fitted_is : (h₀ : ℕ) (o : Option Transaction) (h : ℕ) (t : Transaction) → ◌≡◌ {A = Option (ℕ × Transaction)} (Some (h, t)) (option_map (λ u. (h₀, u)) o) → (h ≡ h₀) × (o ≡ Some t)
fitted_is h₀ None h t e = absurd (let z : ◌≡◌ {A = ℕ} 0 1 = cc in omega arith)
fitted_is h₀ (Some u) h t e = let p : ◌≡◌ {A = ℕ × Transaction} (h, t) (h₀, u) = cc in (ap (λ (z : ℕ × Transaction). z.0) p, ap (λ (z : ℕ × Transaction). Some z.1) (sym p))

there_is : (b : Bool) (x : Option (ℕ × Transaction)) (y : ℕ × Transaction) → Some y ≡ cond b x None → Some y ≡ x
there_is true x y e = e
there_is false x y e = absurd (let z : ◌≡◌ {A = ℕ} 0 1 = cc in omega arith)

-- `was` and `c` are the controller before and after the ticket is looked up; `k` bears `pass`, and `h` is the host that was found.
module _ (was c : Controller) (left : c ≡ was) (bs : List Block) (k : ExecutionTicket) (pass : Pass) (bears : pass ≡ pass_on (tickets.Execution k)) (buffer : List ℕ) (t : Transaction) (h : ℕ) (borne_by : ◌≡◌ {A = Option (ℕ × Transaction)} (Some (h, t)) (borne was pass)) where
  here : ◌≡◌ {A = Option (ℕ × Transaction)} (Some (h, t)) (borne c (pass_on (tickets.Execution k)))
  here = borne_by ∙ ap (λ (d : Controller). borne d pass) (sym left) ∙ ap (borne c) bears

  abbrev why : ℕ → Option Status
  why h = refusal_of c.map t (message_of c.map h t) buffer

  abbrev comes_to : ℕ → Moved
  comes_to h = executed_over c.map bs h t buffer

  found : (h ≡ k.host) × (fitting c.number k.device phases.Execution (host_at c.hosts k.host).transaction ≡ Some t)
  found = fitted_is k.host _ h t (there_is (nat_lt k.host 8) _ (h, t) here)

  opened : (host_at c.hosts k.host).transaction ≡ Some t
  opened = fitting_is c.number k.device phases.Execution (host_at c.hosts k.host).transaction t found.1

  moved_on : why k.host ≡ None → (moved (gone_on c k.host (kept c k.host) t (comes_to k.host).progress).0 (comes_to k.host).buffer, state_of (gone_on c k.host (kept c k.host) t (comes_to k.host).progress).1 (laid bs (start_of c.map (Some t)) (comes_to k.host).put)) ≡ after (state_of c bs) (segment k buffer)
  moved_on y = rw (found.1, segmented_by, y, opened) refl

  stays : (s : Status) → why k.host ≡ Some s → (returned s (tickets.Execution k) buffer, state_of (with_waits c) bs) ≡ after (state_of c bs) (segment k buffer)
  stays s y = rw (found.1, segmented_by, y) (rw (set-get_or c.hosts k.host blank, set-get_or c.mail k.host silent) refl)

  as_it_was : after (state_of c bs) (segment k buffer) ≡ after (state_of was bs) (segment k buffer)
  as_it_was = ap (λ (d : Controller). after (state_of d bs) (segment k buffer)) left

  -- From what each step of the call leaves.
  pub segment_moved_on : (p : Progress) (bytes : List ℕ) (blocks : List Block) →
      Ok p ≡ progress_by (why h) (comes_to h) → bytes ≡ buffer_by (why h) (comes_to h) buffer → blocks ≡ blocks_by (why h) (comes_to h) bs (start_of c.map (Some t)) →
      (moved (gone_on c h (kept c h) t p).0 bytes, state_of (gone_on c h (kept c h) t p).1 blocks) ≡ after (state_of was bs) (segment k buffer)
  segment_moved_on p bytes blocks ep eb es =
      let host = found.0 in
      let own = comes_to k.host in
      let m = moved_is (why k.host) own p (ep ∙ ap (λ (i : ℕ). progress_by (why i) (comes_to i)) host) in
      let b : bytes ≡ own.buffer = eb ∙ ap (λ (i : ℕ). buffer_by (why i) (comes_to i) buffer) host ∙ ap (λ (r : Option Status). buffer_by r own buffer) m.0 in
      let s : blocks ≡ laid bs (start_of c.map (Some t)) own.put =
      es ∙ ap (λ (i : ℕ). blocks_by (why i) (comes_to i) bs (start_of c.map (Some t))) host ∙ ap (λ (r : Option Status). blocks_by r own bs (start_of c.map (Some t))) m.0 in
      rw (host, m.1, b, s) (moved_on m.0) ∙ as_it_was

  pub segment_refused : (s : Status) (bytes : List ℕ) (blocks : List Block) →
      Err s ≡ progress_by (why h) (comes_to h) → bytes ≡ buffer_by (why h) (comes_to h) buffer → blocks ≡ blocks_by (why h) (comes_to h) bs (start_of c.map (Some t)) →
      (returned s (tickets.Execution k) bytes, state_of (with_waits c) blocks) ≡ after (state_of was bs) (segment k buffer)
  segment_refused s bytes blocks ep eb es =
      let host = found.0 in
      let own = comes_to k.host in
      let m = refused_is (why k.host) own s (ep ∙ ap (λ (i : ℕ). progress_by (why i) (comes_to i)) host) in
      let b : bytes ≡ buffer = eb ∙ ap (λ (i : ℕ). buffer_by (why i) (comes_to i) buffer) host ∙ ap (λ (r : Option Status). buffer_by r own buffer) m in
      let l : blocks ≡ bs = es ∙ ap (λ (i : ℕ). blocks_by (why i) (comes_to i) bs (start_of c.map (Some t))) host ∙ ap (λ (r : Option Status). blocks_by r own bs (start_of c.map (Some t))) m in
      rw (b, l) (stays s m) ∙ as_it_was
