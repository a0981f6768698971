-- That the tickets which are kept for the hosts are their own.
use Rattle.std.specs.Prelude.{◌≡◌, ℕ, true, is_some, List, length, Some}
use Rattle.host.specs.declared.record.Host.{Host}
use Rattle.host.specs.Hosts.{host_at}
use Rattle.device.specs.declared.ticket.Ticket.{Ticket}
use Rattle.device.specs.Calls.{bearer}
use Rattle.device.specs.Device.{fitting, number_on, phase_on}
use Rattle.desk.specs.declared.desk.Desk.{Desk}
use Rattle.desk.specs.Desks.{held}

-- A ticket is host h's own at a device of this number: it bears that number and that host, and the host has an open transaction in its phase.
pub record Fits (number h : ℕ) (x : Host) (k : Ticket) : Type 0 where
  pub bears : bearer k ≡ h
  pub in_phase : is_some (fitting number (number_on k) (phase_on k) x.transaction) ≡ true

-- Each ticket on the desk is its host's own, of the eight hosts of a device of this number. So a host with no open transaction has no ticket there.
pub record AllFit (number : ℕ) (hosts : List Host) (desk : Desk) : Type 0 where
  pub eight : length hosts ≡ 8
  pub each : (h : ℕ) (k : Ticket) → Some k ≡ held desk h → Fits number h (host_at hosts h) k
