-- A segment without blocks comes to nothing.
use Rattle.std.proofs.Common.{◌≡◌, ℕ, ◌+◌, true, leb, List, [], Some, None, Option, refl, ap, arith}
use Rattle.std.proofs.lemmas.Bool.Decides.{nat_tests}
use Rattle.message.specs.declared.command.Command.{Command}
use Rattle.message.specs.declared.command.Command.TheVariants as commands
use Rattle.flex.specs.declared.unit.Unit.{Unit as DiscUnit}
use Rattle.flex.specs.Maps.{block_in}
use Rattle.host.specs.declared.transaction.Failure.{Failure}
use Rattle.host.specs.declared.transaction.Transaction.{Transaction}
use Rattle.host.specs.Messages.{blocks_of}
use Rattle.host.specs.Progress.{segment_of}
use Rattle.transfer.specs.Segments.{after_reading, Moved, untried, write_by, moved_by_command}

pub nothing_left : (t : Transaction) (o : Option DiscUnit) → leb (t.at + t.left) (blocks_of o) ≡ true → block_in t.at o ≡ None → segment_of t ≡ 0
nothing_left t None l e = grind (arith, nat_tests)
nothing_left t (Some u) l e = grind (arith, nat_tests)

pub nothing_read : (r : Option Failure) → after_reading r None ≡ r
nothing_read None = refl
nothing_read (Some f) = refl

nothing_written : (r : Option Failure) (t : Transaction) → t.outcome ≡ r → (b : ℕ) (buffer : List ℕ) → write_by r t b [] buffer ≡ untried t buffer
nothing_written None t e b buffer = rw e refl
nothing_written (Some f) t e b buffer = refl

pub not_tried : (k : Option Command) (t : Transaction) (b : ℕ) (buffer : List ℕ) → moved_by_command k t b [] buffer ≡ untried t buffer
unfolding moved_by_command
not_tried None t b buffer = refl
not_tried (Some commands.Read) t b buffer = ap {B = Moved} (λ (r : Option Failure). record { buffer = buffer; put = []; progress = record { tried = 0; outcome = r; fault = None } }) (nothing_read t.outcome)
not_tried (Some commands.Write) t b buffer = nothing_written t.outcome t refl b buffer
not_tried (Some commands.Verify) t b buffer = ap {B = Moved} (λ (r : Option Failure). record { buffer = buffer; put = []; progress = record { tried = 0; outcome = r; fault = None } }) (nothing_read t.outcome)
not_tried (Some commands.ExtendedDescribe) t b buffer = refl
not_tried (Some commands.SetDeviceLock) t b buffer = refl
not_tried (Some commands.DeleteDeviceLock) t b buffer = refl
not_tried (Some commands.SetUnitLock) t b buffer = refl
not_tried (Some commands.DeleteUnitLock) t b buffer = refl
