-- The mail, settled.
use Rattle.std.proofs.Common.{◌≡◌, ℕ, ◌<◌, ◌≤◌, ◌⊎◌, List, length, sym, ap, ◌∙◌, inl, inr, arith}
use Rattle.std.proofs.lemmas.List.FromFn.{length-map-range_with_len, get_or-map-range_with_len}
use Rattle.std.proofs.lemmas.List.{get_or_past}
use Rattle.std.proofs.lemmas.Bool.{cases_lt}
use Rattle.host.specs.declared.mail.Mail.{Mail}
use Rattle.host.specs.declared.record.Host.{Host}
use Rattle.host.specs.Waits.{silent, mail_at, settled, settle}

pub length_settle : (hosts : List Host) (ms : List Mail) → length (settle hosts ms) ≡ length ms
unfolding settle
length_settle hosts ms = length-map-range_with_len (λ g. settled hosts g (mail_at ms g)) 0 (length ms)

-- Each host's mail is settled by itself; where there is none it is silent, and that settles to itself.
pub mail_settle : (hosts : List Host) (ms : List Mail) (g : ℕ) → mail_at (settle hosts ms) g ≡ settled hosts g (mail_at ms g)
unfolding settle
mail_settle hosts ms g = go (cases_lt g (length ms))
  where
    go : (g < length ms) ⊎ (length ms ≤ g) → mail_at (settle hosts ms) g ≡ settled hosts g (mail_at ms g)
    go (inl l) = get_or-map-range_with_len (λ k. settled hosts k (mail_at ms k)) 0 (length ms) g g silent l (omega arith)
    go (inr l) = let k : length (settle hosts ms) ≤ g = omega (arith, length_settle hosts ms) in get_or_past (settle hosts ms) g silent k ∙ ap (settled hosts g) (sym (get_or_past ms g silent l))
