-- A host that makes a call, and a ticket that bears one, as the device looks them up.
use Rattle.std.specs.Prelude.{ℕ, cond, Some, None, Ok, Err, Option, Result, nat_lt}
use Rattle.std.specs.Option.{option_map}
use Rattle.flex.specs.declared.status.Status.{Status}
use Rattle.flex.specs.declared.status.Status.TheVariants as statuses
use Rattle.host.specs.declared.transaction.Transaction.{Transaction}
use Rattle.message.specs.declared.message.Message.{Message}
use Rattle.host.specs.declared.record.Host.{Host}
use Rattle.host.specs.Hosts.{host_at}
use Rattle.host.specs.Messages.{refused}
use Rattle.host.specs.Waits.{mail_at}
use Rattle.device.specs.declared.controller.Controller.{Controller}
use Rattle.device.specs.declared.caller.Caller.{Caller}
use Rattle.device.specs.declared.ticket.Pass.{Pass}
use Rattle.device.specs.declared.ticket.Ticket.{Ticket}
use Rattle.device.specs.Calls.{bearer, Answer, refusal}
use Rattle.device.specs.Device.{Known, with_waits, with_host, taken, fitting, number_on, phase_on}

-- What is kept of a host.
abbrev pub kept : Controller → ℕ → Known
kept c h = record { host = host_at c.hosts h; mail = mail_at c.mail h }

-- The number of a host that is found.
abbrev pub number_of : Option Caller → Option ℕ
number_of r = option_map (λ p. p.number) r

-- The same, or the refusal.
abbrev pub numbered : Result Caller Status → Result ℕ Status
numbered (Ok p) = Ok p.number
numbered (Err s) = Err s

-- The number of a host, or none above 7.
abbrev pub number_at : ℕ → Option ℕ
number_at h = cond (nat_lt h 8) (Some h) None

-- The number of a host; above 7 it is 128/4, and every wait is judged.
abbrev pub number_or : Controller → ℕ → Result ℕ Status × Controller
number_or c h = cond (nat_lt h 8) (Ok h, c) (Err statuses.BadHost, with_waits c)

-- A host's record is put back, its mail stays, and every wait is judged.
abbrev pub with_record : Controller → ℕ → Host → Controller
with_record c h x = with_host c h (record { host = x; mail = mail_at c.mail h })

-- What a command message comes to, once it is judged.
abbrev pub commanded : Controller → ℕ → Result Message Status → Answer × Controller
commanded c h (Ok m) = taken c h (kept c h) m
commanded c h (Err s) = (refusal s, with_record c h (refused s (host_at c.hosts h)))

-- What a ticket bears.
abbrev pub pass_on : Ticket → Pass
pass_on k = record { device = number_on k; host = bearer k; phase = phase_on k }

-- The number of the host that a ticket bears, and its open transaction that the ticket fits.
abbrev pub borne : Controller → Pass → Option (ℕ × Transaction)
borne c p = cond (nat_lt p.host 8) (option_map (λ t. (p.host, t)) (fitting c.number p.device p.phase (host_at c.hosts p.host).transaction)) None
