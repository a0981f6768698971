-- What one call leaves: each part of the state after it.
use Rattle.std.proofs.Common.{◌≡◌, ℕ, ◌+◌, ◌<◌, ◌≤◌, Bool, true, false, leb, ◌≢◌, ◌⊎◌, List, length, set, Some, None, Option, refl, ap, ◌∙◌, inl, inr, arith, length-set}
use Rattle.std.proofs.lemmas.List.{get_or-set_same, get_or-set_other}
use Rattle.std.proofs.lemmas.Bool.{cases_lt}
use Rattle.std.specs.List.{slice_get}
use Rattle.store.specs.Blocks.{Block}
use Rattle.message.specs.declared.message.Message.{Message}
use Rattle.host.specs.declared.mail.Mail.{Mail}
use Rattle.host.specs.declared.record.Host.{Host}
use Rattle.host.specs.declared.want.Want.{Want}
use Rattle.host.specs.Hosts.{blank, stands, another}
use Rattle.host.specs.Messages.{wanted}
use Rattle.host.specs.Waits.{mail_at, settled}
use Rattle.device.specs.Calls.{Call, by}
use Rattle.transfer.specs.Segments.{span}
use Rattle.device.specs.Device.{State, host_of, mail_of, fixed, asked, blocked, in_way, Served, served, start, reach, posted, answer, next}
use Rattle.device.proofs.Tests.{none_some, getD_set_cases}
use Rattle.device.proofs.Apart.{Grown}
use Rattle.device.proofs.Served.{earned, serve_grown}
use Rattle.device.proofs.Fitting.{Fits, serve_fits, serve_short}
use Rattle.transfer.proofs.Spans.{length_span, length_laid, laid_other}
use Rattle.device.proofs.Mails.{length_settle, mail_settle}
use Rattle.device.proofs.Standing.{another_none, stands_blank}

-- What a call comes to, shut: what it is made of is opened once, below.
unfoldable pub did : State → Call → Served
did s c = served s c

pub answer_is : (s : State) (c : Call) → answer s c ≡ (did s c).answer
unfolding answer did
answer_is s c = refl

pub fixed_next : (s : State) (c : Call) → fixed (next s c) ≡ fixed s
unfolding next
fixed_next s c =
    ap (λ (n : ℕ). record { number = s.number; map = s.map; reaches = leb s.map.end n }) (length_laid s.blocks (start s (by c)) (served s c).put)

pub map_next : (s : State) (c : Call) → (next s c).map ≡ s.map
unfolding next
map_next s c = refl

pub host_next : (s : State) (c : Call) (g : ℕ) → (host_of (next s c) g ≡ host_of s g) ⊎ ((g ≡ by c) × (host_of (next s c) g ≡ (did s c).host))
unfolding next did
host_next s c g = getD_set_cases s.hosts (by c) (served s c).host blank g

pub host_other : (s : State) (c : Call) (g : ℕ) → g ≢ by c → host_of (next s c) g ≡ host_of s g
unfolding next
host_other s c g n = get_or-set_other s.hosts (by c) g (served s c).host blank n

pub host_own : (s : State) (c : Call) → by c < length s.hosts → host_of (next s c) (by c) ≡ (did s c).host
unfolding next did
host_own s c l = get_or-set_same s.hosts (by c) (served s c).host blank l

pub hosts_next : (s : State) (c : Call) → (next s c).hosts ≡ set s.hosts (by c) (did s c).host
unfolding next did
hosts_next s c = refl

pub hosts_kept : (s : State) (c : Call) → length (next s c).hosts ≡ length s.hosts
unfolding next
hosts_kept s c = length-set s.hosts (by c) (served s c).host

-- A host's own mail after its call, before it is settled.
abbrev pub posted_by : State → Call → Mail
posted_by s c = posted (in_way s c) (asked s c) (host_of s (by c)) c (mail_of s (by c))

pub mail_next : (s : State) (c : Call) (g : ℕ) → mail_of (next s c) g ≡ settled (next s c).hosts g (mail_at (set s.mail (by c) (posted_by s c)) g)
unfolding next
mail_next s c g = mail_settle (set s.hosts (by c) (served s c).host) (set s.mail (by c) (posted_by s c)) g

pub mail_kept : (s : State) (c : Call) → length (next s c).mail ≡ length s.mail
unfolding next
mail_kept s c =
    length_settle (set s.hosts (by c) (served s c).host) (set s.mail (by c) (posted_by s c)) ∙ length-set s.mail (by c) (posted_by s c)

-- ---- What the caller's host becomes, and what is put.

abbrev pub content : State → Call → List (Option Block)
content s c = span s.blocks (start s (by c)) (reach s (by c))

pub did_grown : (s : State) (c : Call) → Grown (earned (in_way s c) (asked s c)) (host_of s (by c)) (did s c).host
unfolding did
did_grown s c = serve_grown (fixed s) (asked s c) (host_of s (by c)) (mail_of s (by c)) (content s c) c (in_way s c)

pub did_fits : (s : State) (c : Call) → Fits s.map (host_of s (by c)).transaction → Fits s.map (did s c).host.transaction
unfolding did
did_fits s c k = serve_fits (fixed s) (asked s c) (host_of s (by c)) (mail_of s (by c)) (content s c) c (in_way s c) k

pub did_short : (s : State) (c : Call) → length (did s c).put ≤ reach s (by c)
unfolding did
did_short s c =
    omega (arith, serve_short (fixed s) (asked s c) (host_of s (by c)) (mail_of s (by c)) (content s c) c (in_way s c), length_span s.blocks (start s (by c)) (reach s (by c)))

-- A block outside the caller's span is left.
pub block_kept : (s : State) (c : Call) (b : ℕ) → (start s (by c) ≤ b → b < start s (by c) + reach s (by c) → ⊥) → slice_get (next s c).blocks b ≡ slice_get s.blocks b
unfolding next did
block_kept s c b n = laid_other s.blocks (start s (by c)) (served s c).put b (go (cases_lt b (start s (by c))) (cases_lt b (start s (by c) + reach s (by c))))
  where
    go : (b < start s (by c)) ⊎ (start s (by c) ≤ b) → (b < start s (by c) + reach s (by c)) ⊎ (start s (by c) + reach s (by c) ≤ b) → (b < start s (by c)) ⊎ (start s (by c) + length (served s c).put ≤ b)
    go (inl l) q = inl l
    go (inr l) (inl r) = absurd (n l r)
    go (inr l) (inr r) = let m = did_short s c in inr (omega arith)

-- ---- What is earned, nobody stood in the way of.

earned_clear : (hosts : List Host) (h : ℕ) (o : Option Message) (w : Want) → earned (blocked hosts h o) o ≡ Some w → another (stands w) h hosts ≡ false
earned_clear hosts h None w e = absurd (none_some w e)
earned_clear hosts h (Some m) w e = go (another (stands (wanted m)) h hosts) refl e
  where
    go : (b : Bool) → another (stands (wanted m)) h hosts ≡ b → earned b (Some m) ≡ Some w → another (stands w) h hosts ≡ false
    go true p q = absurd (none_some w q)
    go false p q = let i : wanted m ≡ w = cc in rw i at p

pub clear_of : (s : State) (c : Call) (w : Want) → earned (in_way s c) (asked s c) ≡ Some w → (g : ℕ) → g ≢ by c → stands w (host_of s g) ≡ false
clear_of s c w e = another_none (stands w) (stands_blank w) (by c) s.hosts (earned_clear s.hosts (by c) (asked s c) w e)
