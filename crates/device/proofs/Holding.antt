-- A host that gives up no lock in a call still holds after it what it held before.
use Rattle.std.proofs.Common.{◌≡◌, ℕ, Bool, true, false, List, get_or, Some, Option, sym, refl, ap, ◌∙◌, subst, subst₂, inl, inr, arith}
use Rattle.store.specs.Blocks.{Block}
use Rattle.message.specs.declared.command.Command.{Command}
use Rattle.message.specs.declared.message.Message.{Message}
use Rattle.host.specs.declared.locks.Locks.{Locks}
use Rattle.host.specs.declared.mail.Mail.{Mail}
use Rattle.host.specs.declared.record.Host.{Host}
use Rattle.host.specs.Hosts.{cleared, locked}
use Rattle.host.specs.Messages.{locks_after, refused, accepted as accepted_by}
use Rattle.host.specs.Progress.{moved_by, ended}
use Rattle.device.specs.declared.ticket.Ticket.{Ticket}
use Rattle.device.specs.Calls.{Call, command, segment, report, cancel, clear, notice, fault, by, Answer, accepted, done}
use Rattle.transfer.specs.Segments.{moved_by_command}
use Rattle.device.specs.Device.{State, host_of, mail_of, Fixed, fixed, asked, in_way, Served, serve, answer}
use Rattle.device.specs.Isolation.{Holds, Deletes, DeletesBy, GivesUp, is_notice}
use Rattle.device.proofs.Tests.{getD_set_cases}
use Rattle.device.proofs.Served.{does_ways, refused_locks}
use Rattle.device.proofs.Steps.{did, content}

-- What x holds, x' holds too.
pub record Held (x x' : Host) : Type 0 where
  pub device : x.locks.device ≡ true → x'.locks.device ≡ true
  pub unit : (u : ℕ) → locked x u ≡ true → locked x' u ≡ true

same_held : (x x' : Host) → x'.locks ≡ x.locks → Held x x'
same_held x x' e = record {
  device = λ t. ap (λ (l : Locks). l.device) e ∙ t;
  unit = λ u t. ap (λ (l : Locks). get_or l.units u false) e ∙ t;
}

-- What is given up, by the answer.
abbrev Gives : Answer → Option Message → Host → Call → Type 0
Gives a o x (command h bytes) = ((k : Ticket) × (a ≡ accepted k)) × Deletes o x
Gives a o x (segment k buffer) = ⊥
Gives a o x (report k buffer) = ⊥
Gives a o x (cancel k) = ⊥
Gives a o x (clear h) = (a ≡ done) × Holds x
Gives a o x (notice h) = ⊥
Gives a o x (fault h) = ⊥

gives_up : (s : State) (c : Call) → Gives (answer s c) (asked s c) (host_of s (by c)) c → GivesUp s c
gives_up s (command h bytes) g = g
gives_up s (segment k buffer) g = g
gives_up s (report k buffer) g = g
gives_up s (cancel k) g = g
gives_up s (clear h) g = g
gives_up s (notice h) g = g
gives_up s (fault h) g = g

pub gives_from : (s : State) (c : Call) → GivesUp s c → Gives (answer s c) (asked s c) (host_of s (by c)) c
gives_from s (command h bytes) g = g
gives_from s (segment k buffer) g = g
gives_from s (report k buffer) g = g
gives_from s (cancel k) g = g
gives_from s (clear h) g = g
gives_from s (notice h) g = g
gives_from s (fault h) g = g

device_held : (k : Option Command) (u : ℕ) (x : Host) → (DeletesBy k u x → ⊥) → x.locks.device ≡ true → (locks_after k u x.locks).device ≡ true
device_held k u x n t = grind arith

unit_held : (k : Option Command) (v : ℕ) (x : Host) → (DeletesBy k v x → ⊥) → (u : ℕ) → locked x u ≡ true → get_or (locks_after k v x.locks).units u false ≡ true
unit_held k v x n u t = grind (arith, getD_set_cases)

accepted_held : (f : Fixed) (m : Message) (x : Host) → (Deletes (Some m) x → ⊥) → Held x (accepted_by f.map m x)
unfolding accepted_by
accepted_held f m x n = record {
  device = device_held m.command m.parameters.unit x n;
  unit = unit_held m.command m.parameters.unit x n;
}

-- A host that holds nothing has nothing to give up.
cleared_held : (x : Host) → (Holds x → ⊥) → Held x cleared
cleared_held x n = record { device = λ t. absurd (n (inl t)); unit = λ u t. absurd (n (inr (u, t))) }

module _ (f : Fixed) (o : Option Message) (x : Host) (m : Mail) (os : List (Option Block)) (c : Call) where
  abbrev Stays : Served → Type 0
  Stays d = (Gives d.answer o x c → ⊥) → Held x d.host

  serve_held : (b : Bool) → Stays (serve b f o x m os c)
  serve_held true = λ _. same_held x x refl
  serve_held false = does_ways f o x os c Stays (record {
    stays = λ _ _. same_held x x refl;
    refuses = λ _ s _. same_held x (refused s x) (refused_locks s x);
    accepts = λ h bytes e k i a n. accepted_held f k x (λ d. n (subst₂ (λ (r : Option Message) (q : Call). Gives (accepted a) r x q) (sym i) (sym e) ((a, refl), d)));
    moves = λ t _ _ b _ buffer _ _. same_held x (moved_by t (moved_by_command t.command t b os buffer).progress x) refl;
    ends = λ _ _. same_held x (ended x) refl;
    clears = λ h e n. cleared_held x (λ l. n (subst (Gives done o x) (sym e) (refl, l)));
  }) m

pub did_held : (s : State) (c : Call) → (GivesUp s c → ⊥) → Held (host_of s (by c)) (did s c).host
unfolding did answer
did_held s c n = serve_held (fixed s) (asked s c) (host_of s (by c)) (mail_of s (by c)) (content s c) c (in_way s c) (λ g. n (gives_up s c g))

-- A lock that is given up on one side is given up on another with the same record and answer.
pub gives_across : (s t : State) (c : Call) → (is_notice c ≡ false → answer s c ≡ answer t c) → asked s c ≡ asked t c → host_of s (by c) ≡ host_of t (by c) → GivesUp s c → GivesUp t c
gives_across s t c a o x g = gives_up t c (subst₂ (λ (r : Option Message) (y : Host). Gives (answer t c) r y c) o x (gives_like c (answer s c) (answer t c) (asked s c) (host_of s (by c)) a (gives_from s c g)))
  where
    gives_like : (d : Call) (a b : Answer) (r : Option Message) (y : Host) → (is_notice d ≡ false → a ≡ b) → Gives a r y d → Gives b r y d
    gives_like (command h bytes) a b r y e g = let i = e refl in rw (← i) g
    gives_like (segment k buffer) a b r y e g = g
    gives_like (report k buffer) a b r y e g = g
    gives_like (cancel k) a b r y e g = g
    gives_like (clear h) a b r y e g = let i = e refl in rw (← i) g
    gives_like (notice h) a b r y e g = g
    gives_like (fault h) a b r y e g = g
