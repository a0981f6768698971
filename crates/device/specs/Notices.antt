-- What becomes of each host's wait and of its notice, call by call.
use Rattle.std.specs.Prelude.{◌≡◌, ℕ, ◌<◌, false, cond, ◌⊎◌, List, Some, None, Option}
use Rattle.message.specs.declared.command.Command.{Command}
use Rattle.message.specs.declared.message.Message.{Message}
use Rattle.message.specs.Commands.{is_on_unit}
use Rattle.flex.specs.declared.status.Status.{Status}
use Rattle.flex.specs.declared.status.Status.TheVariants as statuses
use Rattle.host.specs.declared.want.Want.{Want}
use Rattle.host.specs.Hosts.{stands, another}
use Rattle.host.specs.Messages.{wanted}
use Rattle.host.specs.Waits.{silent, notice_of, powered}
use Rattle.device.specs.Calls.{Call, clear, notice, by, done, noticed, refusal}
use Rattle.device.specs.Device.{State, mail_of, asked, answer, next, run}

-- Host h's message is refused with 4/3 by call c, and asks for w.
pub record RefusedFor (s : State) (c : Call) (h : ℕ) (w : Want) : Type 0 where
  pub its_own : by c ≡ h
  pub refused : answer s c ≡ refusal statuses.ResourceUnavailable
  pub asks : (m : Message) × (asked s c ≡ Some m) × (w ≡ wanted m)

-- Call c is host h's clear, and is done.
pub record Clears (s : State) (c : Call) (h : ℕ) : Type 0 where
  pub call : c ≡ clear h
  pub is_done : answer s c ≡ done

-- Host h waited for w, in whose way nothing stands after the call: it waits no more, and has the notice.
pub record Noticed (s s' : State) (h : ℕ) (w : Want) : Type 0 where
  pub waited : (mail_of s h).wait ≡ Some w
  pub free : another (stands w) h s'.hosts ≡ false
  pub no_wait : (mail_of s' h).wait ≡ None
  pub notice : (mail_of s' h).notice ≡ Some (notice_of w)

-- What becomes of host h's wait for w at call c: it stays, or ends by its notice, by a later wait, or by a clear.
pub data WaitAfter (s : State) (c : Call) (h : ℕ) (w : Want) : Type 0 where
  waits_on : (mail_of (next s c) h).wait ≡ Some w → WaitAfter s c h w
  noticed_then : Noticed s (next s c) h w → WaitAfter s c h w
  waits_anew : (v : Want) → RefusedFor s c h v → WaitAfter s c h w
  wait_dropped : Clears s c h → WaitAfter s c h w

-- What becomes of host h's notice n at call c: it stays, or goes by the notice call, by a later notice, or by a clear.
pub data NoticeAfter (s : State) (c : Call) (h : ℕ) (n : Status) : Type 0 where
  kept : (mail_of (next s c) h).notice ≡ Some n → NoticeAfter s c h n
  handed_over : c ≡ notice h → NoticeAfter s c h n
  replaced : (w : Want) → Noticed s (next s c) h w → NoticeAfter s c h n
  notice_dropped : Clears s c h → NoticeAfter s c h n

-- What one call c does to host h's wait and notice.
pub record MailLaw (s : State) (c : Call) (h : ℕ) : Type 0 where
  -- a wait is there before, or begins with 4/3; and each 4/3 begins one
  pub begins : (w : Want) → (mail_of (next s c) h).wait ≡ Some w → ((mail_of s h).wait ≡ Some w) ⊎ RefusedFor s c h w
  pub waits : (w : Want) → RefusedFor s c h w → (mail_of (next s c) h).wait ≡ Some w
  -- it ends only so
  pub ends : (w : Want) → (mail_of s h).wait ≡ Some w → WaitAfter s c h w
  -- when nothing stands in its way any more, its notice is there after that call
  pub freed : (w : Want) → (mail_of s h).wait ≡ Some w → another (stands w) h (next s c).hosts ≡ false → Noticed s (next s c) h w
  -- a notice is there before, or comes from a wait whose way is free, which it ends
  pub comes : (n : Status) → (mail_of (next s c) h).notice ≡ Some n → ((mail_of s h).notice ≡ Some n) ⊎ ((w : Want) × Noticed s (next s c) h w × (n ≡ notice_of w))
  -- it goes only so
  pub goes : (n : Status) → (mail_of s h).notice ≡ Some n → NoticeAfter s c h n
  -- the notice call tells it, and then it is there no more; a clear drops wait and notice
  pub told : h < 8 → c ≡ notice h → (answer s c ≡ noticed (mail_of s h).notice) × ((mail_of (next s c) h).notice ≡ None)
  pub cleared : Clears s c h → mail_of (next s c) h ≡ silent

-- What a host is told of a message that was refused with 4/3: 4/8 for a command on a unit, otherwise 4/1.
abbrev pub code_for : Option Command → Status
code_for None = statuses.DeviceAvailable
code_for (Some k) = cond (is_on_unit k) statuses.UnitAvailable statuses.DeviceAvailable

-- NOTICES, from a device in state `start`: there no host waits and each has the notice 3/1, and after any list of calls each further call does to
-- every host's wait and notice what is said above. So each wait comes from one 4/3, and each notice but 3/1 from one wait, with the code of the
-- message that was refused.
pub record NoticesFrom (start : State) : Type 0 where
  pub starts : (h : ℕ) → h < 8 → mail_of start h ≡ powered
  pub each : (calls : List Call) (c : Call) (h : ℕ) → MailLaw (run start calls) c h
  pub codes : (m : Message) → notice_of (wanted m) ≡ code_for m.command
