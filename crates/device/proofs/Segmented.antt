-- What a segment comes to, told by why it cannot be moved, if it cannot.
use Rattle.std.proofs.Common.{◌≡◌, ℕ, Bool, true, false, cond, List, Some, None, Option, refl}
use Rattle.store.specs.Blocks.{Block}
use Rattle.flex.specs.declared.status.Status.{Status}
use Rattle.flex.specs.declared.status.Status.TheVariants as statuses
use Rattle.host.specs.declared.record.Host.{Host}
use Rattle.host.specs.declared.transaction.Transaction.{Transaction}
use Rattle.host.specs.Progress.{lies_in}
use Rattle.transfer.specs.Segments.{start_of, moved_by_command, message_of, told, holds_segment, refusal_of}
use Rattle.device.specs.declared.ticket.ExecutionTicket.{ExecutionTicket}
use Rattle.device.specs.declared.ticket.Ticket.TheVariants as tickets
use Rattle.device.specs.Calls.{returned}
use Rattle.device.specs.Device.{Fixed, Served, says, segment_moved, executable, segmented}

abbrev pub segment_by : Option Status → Fixed → Host → Transaction → List (Option Block) → ExecutionTicket → List ℕ → Served
segment_by None f x t os k buffer = segment_moved f x t k.host (told (message_of f.map k.host t) (moved_by_command t.command t (start_of f.map (Some t)) os buffer))
segment_by (Some s) f x t os k buffer = says (returned s (tickets.Execution k) buffer) x

module _ (f : Fixed) (x : Host) (t : Transaction) (os : List (Option Block)) (k : ExecutionTicket) (buffer : List ℕ) where
  by_held : (h : Bool) →
      cond h (segment_moved f x t k.host (told (message_of f.map k.host t) (moved_by_command t.command t (start_of f.map (Some t)) os buffer))) (says (returned statuses.BadBuffer (tickets.Execution k) buffer) x)
      ≡ segment_by (cond h None (Some statuses.BadBuffer)) f x t os k buffer
  by_held true = refl
  by_held false = refl

  by_unit : (l : Bool) →
      segmented f (cond l (Some t) None) x os k buffer
      ≡ segment_by (cond l (cond (holds_segment t (message_of f.map k.host t) buffer) None (Some statuses.BadBuffer)) (Some statuses.MessageSequence)) f x t os k buffer
  by_unit true = by_held (holds_segment t (message_of f.map k.host t) buffer)
  by_unit false = refl

  pub segmented_by : segmented f (executable f.map (Some t)) x os k buffer ≡ segment_by (refusal_of f.map t (message_of f.map k.host t) buffer) f x t os k buffer
  segmented_by = by_unit (lies_in f.map t)
