-- What an Extended Describe comes to.
use Rattle.std.proofs.Common.{◌≡◌, ℕ, ◌*◌, ◌≢◌, Bool, true, false, cond, eqb, leb, List, ◌++◌, length, drop, Some, sym, refl, ap, ap₂, ◌∙◌, subst, arith}
use Rattle.std.proofs.lemmas.Bool.{and_from, le-leb, cases_eq}
use Rattle.describe.specs.Descriptions.{description}
use Rattle.describe.proofs.Reading.{read_back}
use Rattle.host.specs.declared.record.Host.{Host}
use Rattle.host.specs.declared.transaction.Phase.TheVariants as phases
use Rattle.host.specs.declared.transaction.Transaction.{Transaction}
use Rattle.host.specs.Messages.{describes}
use Rattle.host.specs.Progress.{segment_of, left_after, moved_by}
use Rattle.transfer.specs.Segments.{start_of, laid, Moved, untried, message_of, told, is_verify, holds_blocks, moved_over}
use Rattle.transfer.proofs.Cutting.{first_none}
use Rattle.transfer.proofs.Describing.{untried_by, message_is}
use Rattle.device.specs.declared.ticket.ExecutionTicket.{ExecutionTicket}
use Rattle.device.specs.declared.ticket.Ticket.TheVariants as tickets
use Rattle.device.specs.Calls.{segment, moved}
use Rattle.device.specs.Device.{State, host_of, ticket_for, counted, answer, next, run}
use Rattle.device.specs.Transfers.{IsMoved}
use Rattle.device.specs.Describing.{Described, DescribingFrom}
use Rattle.device.proofs.Tests.{one_of}
use Rattle.device.proofs.Fitting.{Fits}
use Rattle.device.proofs.Moving.{fitting_is}
use Rattle.device.proofs.Steps.{host_other}
use Rattle.device.proofs.States.{Sound, sound_run}
use Rattle.device.proofs.Transfers.{moving_from, answer_moved, host_moved, blocks_moved, activity_moved}

-- It moves no block, so any buffer holds its blocks.
holds_none : (t : Transaction) (buffer : List ℕ) → t.left ≡ 0 → holds_blocks t buffer ≡ true
holds_none t buffer e = go (is_verify t.command)
  where
    none : leb (256 * segment_of t) (length buffer) ≡ true
    none = le-leb _ _ (omega (arith, e))

    go : (v : Bool) → cond v true (leb (256 * segment_of t) (length buffer)) ≡ true
    go true = refl
    go false = none

module _ (s : State) (k : ExecutionTicket) (given : List ℕ) (t : Transaction) (now : (host_of s k.host).transaction ≡ Some t) (d : describes t.command ≡ true) (quiet : t.left ≡ 0) (m : IsMoved (answer s (segment k given))) where
  abbrev after : State
  after = next s (segment k given)

  abbrev message : List ℕ
  message = description s.map k.host

  abbrev left : List ℕ
  left = message ++ drop (length message) given

  one_is : moved_over s.map s.blocks t given ≡ untried t given
  one_is = untried_by t.command t _ _ given d

  comes_to : told (message_of s.map k.host t) (moved_over s.map s.blocks t given) ≡ told message (untried t given)
  comes_to = ap₂ (λ l (q : Moved). told l q) (message_is s.map s.blocks k.host t given d) one_is

  reported : ticket_for s.number k.host (cond (eqb (left_after t) 0) phases.Report phases.Execution) ≡ tickets.Report (record { device = s.number; host = k.host })
  reported =
      let none : left_after t ≡ 0 = omega (arith, quiet) in
      ap (λ (i : ℕ). ticket_for s.number k.host (cond (eqb i 0) phases.Report phases.Execution)) none

  host_is : host_of after k.host ≡ moved_by t (untried t given).progress (host_of s k.host)
  host_is = host_moved s k given t now m ∙ ap (λ (q : Moved). moved_by t q.progress (host_of s k.host)) one_is

  -- what a host keeps, of the one whose ticket it is and of any other
  kept : {A : Type 0} (f : Host → A) → f (moved_by t (untried t given).progress (host_of s k.host)) ≡ f (host_of s k.host) → (g : ℕ) → f (host_of after g) ≡ f (host_of s g)
  kept {A = A} f same g =
      let own : g ≡ k.host → f (host_of after g) ≡ f (host_of s g) = λ e.
      ap (λ (i : ℕ). f (host_of after i)) e ∙ ap f host_is ∙ same ∙ sym (ap (λ (i : ℕ). f (host_of s i)) e) in
      let other : g ≢ k.host → f (host_of after g) ≡ f (host_of s g) = λ n. ap f (host_other s (segment k given) g n) in
      one_of (cases_eq g k.host) own other

  pub described : (answer s (segment k given) ≡ moved (tickets.Report (record { device = s.number; host = k.host })) left) × Described s after k.host given left
  described = (
    answer_moved s k given t now m ∙ ap₂ (λ r (q : Moved). moved r q.buffer) reported comes_to,
    record {
      written = refl;
      read_back = read_back s.map k.host (drop (length message) given);
      blocks = blocks_moved s k given t now m ∙ ap (λ (q : Moved). laid s.blocks (start_of s.map (Some t)) q.put) one_is;
      activity = activity_moved s k given t now m ∙ ap (λ (q : Moved). counted s.activity q.progress.tried) one_is;
      parameters = kept (λ (x : Host). x.parameters) refl;
      locks = kept (λ (x : Host). x.locks) refl;
      faults = kept (λ (x : Host). x.fault) (first_none _);
    },
  )

pub describing_from : (start : State) → Sound start → DescribingFrom start
describing_from start i calls k given t fits d room =
    let s = run start calls in
    let now = fitting_is s.number k.device phases.Execution (host_of s k.host).transaction t fits in
    let inside = subst (Fits s.map) now ((sound_run start calls i).fits k.host) in
    let quiet = inside.quiet d in
    let fitted : leb (length (message_of s.map k.host t)) (length given) ≡ true =
    ap (λ (l : List ℕ). leb (length l) (length given)) (message_is s.map s.blocks k.host t given d) ∙ le-leb _ _ room in
    let m = moving_from start i calls k given t fits (and_from _ _ (holds_none t given quiet) fitted) in
    let all = described s k given t now d quiet m in
    (left s k given t now d quiet m, all.0, all.1)
