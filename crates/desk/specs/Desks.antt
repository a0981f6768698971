-- The tickets that are kept for the hosts, one place for each of the eight.
use Rattle.std.specs.Prelude.{ℕ, cond, replicate, None, Option, nat_lt, slice_index_or, slice_set}
use Rattle.device.specs.declared.ticket.Ticket.{Ticket}
use Rattle.desk.specs.declared.desk.Desk.{Desk}

-- No host has a ticket.
abbrev pub empty_desk : Desk
empty_desk = record { slots = replicate 8 None }

-- The ticket that a host has; one above 7 has none.
abbrev pub held : Desk → ℕ → Option Ticket
held desk host = cond (nat_lt host 8) (slice_index_or desk.slots host None) None

-- The desk with another ticket, or none, in a host's place; for a host above 7 there is no place.
abbrev pub with_slot : Desk → ℕ → Option Ticket → Desk
with_slot desk host ticket = cond (nat_lt host 8) (record { slots = slice_set desk.slots host ticket }) desk
