-- The waits of the hosts, judged one after another.
use Rattle.std.proofs.Common.{◌≡◌, ℕ, ◌+◌, ◌<◌, ◌≤◌, ◌≢◌, List, length, set, ap, ◌∙◌, arith, get_or-set_other, get_or-set_same, below_more}
use Rattle.host.specs.declared.mail.Mail.{Mail}
use Rattle.host.specs.declared.record.Host.{Host}
use Rattle.host.specs.Waits.{settled, mail_at}

-- The mails before a place are settled, and the others are as they were.
abbrev pub SettledTo : List Host → List Mail → ℕ → List Mail → Type 0
SettledTo hosts old place ms =
    ((k : ℕ) → k < place → mail_at ms k ≡ settled hosts k (mail_at old k)) ×
    ((k : ℕ) → place ≤ k → mail_at ms k ≡ mail_at old k)

pub settled_more : (hosts : List Host) (old ms : List Mail) (place : ℕ) (m : Mail) → place < length ms → SettledTo hosts old place ms → m ≡ settled hosts place (mail_at ms place) → SettledTo hosts old (place + 1) (set ms place m)
settled_more hosts old ms place m within before here =
    let same : mail_at ms place ≡ mail_at old place = before.1 place (omega arith) in (
      below_more _ _
          (λ k h. let ne : k ≢ place = omega arith in rw get_or-set_other (before.0 k h))
          (rw get_or-set_same (here ∙ ap (settled hosts place) same)),
      λ k h. let ne : k ≢ place = omega arith in rw get_or-set_other (before.1 k (omega arith)),
    )
