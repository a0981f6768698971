-- The segment of an Extended Describe: it is refused only where the description doesn't fit the buffer, and moves no block.
use Rattle.std.proofs.Common.{◌≡◌, ℕ, Bool, true, false, cond, ◌&&◌, leb, List, [], length, Some, None, Ok, Err, Option, Result, sym, refl, ap, ap₂, ◌∙◌, arith}
use Rattle.std.specs.Result.{result_err}
use Rattle.std.proofs.lemmas.Bool.{cond-true}
use Rattle.message.specs.declared.command.Command.{Command}
use Rattle.flex.specs.declared.status.Status.{Status}
use Rattle.flex.specs.declared.status.Status.TheVariants as statuses
use Rattle.flex.specs.declared.unit_map.UnitMap.{UnitMap}
use Rattle.store.specs.Blocks.{Block}
use Rattle.describe.specs.Descriptions.{description, fits, described, answer_for}
use Rattle.host.specs.declared.transaction.Transaction.{Transaction}
use Rattle.host.specs.Messages.{describes}
use Rattle.transfer.specs.Segments.{message_of, holds_blocks, refusal_of, untried, told, moved_by_command, executed_over, progress_by, buffer_by, blocks_by, Moved, start_of, span}
use Rattle.host.specs.Progress.{lies_in, segment_of}

pub untried_by : (k : Option Command) (t : Transaction) (b : ℕ) (os : List (Option Block)) (buffer : List ℕ) → describes k ≡ true → moved_by_command k t b os buffer ≡ untried t buffer
unfolding moved_by_command
untried_by k t b os buffer e = grind arith

module _ (map : UnitMap) (bs : List Block) (h : ℕ) (t : Transaction) (buffer : List ℕ) (d : describes t.command ≡ true) where
  pub message_is : message_of map h t ≡ description map h
  message_is = cond-true _ _ _ d

  pub not_refused : refusal_of map t [] buffer ≡ None → fits map h buffer ≡ true → refusal_of map t (message_of map h t) buffer ≡ None
  not_refused n f = go (lies_in map t) (holds_blocks t buffer) (leb 0 (length buffer)) (leb (length (message_of map h t)) (length buffer)) n (ap (λ (l : List ℕ). leb (length l) (length buffer)) message_is ∙ f)
    where
      go : (l b e m : Bool) → cond l (cond (b && e) None (Some statuses.BadBuffer)) (Some statuses.MessageSequence) ≡ None → m ≡ true →
          cond l (cond (b && m) None (Some statuses.BadBuffer)) (Some statuses.MessageSequence) ≡ None
      go true true e m n f = rw f refl
      go true false e m n f = n
      go false b e m n f = n

  executed_is : executed_over map bs h t buffer ≡ told (description map h) (untried t buffer)
  executed_is =
      ap (λ (m : Moved). told (message_of map h t) m) (untried_by t.command t (start_of map (Some t)) (span bs (start_of map (Some t)) (segment_of t)) buffer d)
      ∙ ap (λ l. told l (untried t buffer)) message_is

  fits_from : (u : Unit {0}) → answer_for map h buffer ≡ Ok u → fits map h buffer ≡ true
  fits_from u e = go (fits map h buffer) e
    where
      go : (f : Bool) → ◌≡◌ {A = Result (Unit {0}) Status} (cond f (Ok tt) (Err statuses.BadBuffer)) (Ok u) → f ≡ true
      go true e = refl
      go false e = cc

  -- what it answers and leaves
  module _ (v u : Unit {0}) (r : Result (Unit {0}) Status) (a : result_err r ≡ refusal_of map t [] buffer) (ok : r ≡ Ok v) (answered : answer_for map h buffer ≡ Ok u) where
    abbrev refusal : Option Status
    refusal = refusal_of map t (message_of map h t) buffer

    abbrev executed : Moved
    executed = executed_over map bs h t buffer

    none : refusal ≡ None
    none = not_refused (sym a ∙ ap (λ (q : Result (Unit {0}) Status). result_err q) ok) (fits_from u answered)

    pub progress_is : Ok (record { tried = 0; outcome = t.outcome; fault = None }) ≡ progress_by refusal executed
    progress_is = sym (ap₂ (λ (o : Option Status) (m : Moved). progress_by o m) none executed_is)

    pub buffer_is : described map h buffer ≡ buffer_by refusal executed buffer
    buffer_is = cond-true _ _ _ (fits_from u answered) ∙ sym (ap₂ (λ (o : Option Status) (m : Moved). buffer_by o m buffer) none executed_is)

    pub blocks_are : bs ≡ blocks_by refusal executed bs (start_of map (Some t))
    blocks_are = sym (ap₂ (λ (o : Option Status) (m : Moved). blocks_by o m bs (start_of map (Some t))) none executed_is)
