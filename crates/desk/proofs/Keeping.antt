-- What the device says of a call, as an entry hands it on; and a ticket that is taken and kept again.
use Rattle.std.proofs.Common.{◌≡◌, ℕ, true, false, cond, List, Some, None, Option, nat_lt, slice_index_or, slice_set, refl, ap, ◌∙◌}
use Rattle.std.proofs.lemmas.List.{set-get_or, set-set}
use Rattle.device.specs.declared.ticket.ExecutionTicket.{ExecutionTicket}
use Rattle.device.specs.declared.ticket.ReportTicket.{ReportTicket}
use Rattle.device.specs.declared.ticket.Ticket.{Ticket}
use Rattle.device.specs.declared.ticket.Ticket.TheVariants as tickets
use Rattle.device.specs.Calls as calls
use Rattle.device.specs.Device.{State, after, answer, next}
use Rattle.desk.specs.declared.desk.Desk.{Desk}
use Rattle.desk.specs.Desks.{held, with_slot}
use Rattle.desk.specs.declared.answer.Answer.{Answer}
use Rattle.desk.specs.declared.answer.Answer.TheVariants.{Done}
use Rattle.desk.specs.Worlds.{World, ticket_in, told, buffer_in, with_any_ticket, without_ticket, by_call, by_lending, by_segment, by_report, by_cancel, comes_to, beside}

pub said : (s t : State) (c : calls.Call) (a : calls.Answer) → (a, t) ≡ after s c → ◌≡◌ {A = calls.Answer × State} (a, t) (answer s c, next s c)
unfolding answer next
said s t c a e = e

abbrev handed_on : World → ℕ → calls.Answer × State → Answer × World
handed_on w h p = (told p.0, with_any_ticket (record { state = p.1; desk = w.desk }) h (ticket_in p.0))

pub called_so :
    (w : World) (h : ℕ) (c : calls.Call) (a : calls.Answer) (t : State) → (a, t) ≡ after w.state c → handed_on w h (a, t) ≡ by_call w h c
called_so w h c a t e = ap (handed_on w h) (said w.state t c a e)

lent_so :
    (w : World) (h : ℕ) (c : calls.Call) (a : calls.Answer) (t : State) → (a, t) ≡ after w.state c
    → beside (buffer_in a) (handed_on w h (a, t)) ≡ by_lending w h c
lent_so w h c a t e = ap (λ (p : calls.Answer × State). beside (buffer_in p.0) (handed_on w h p)) (said w.state t c a e)

pub pair_so : {A B : Type 0} (a b : A) (x y : B) → a ≡ b → x ≡ y → ◌≡◌ {A = A × B} (a, x) (b, y)
pair_so {A} {B} a b x y e f = ap (λ (c : A). let p : A × B = (c, x) in p) e ∙ ap (λ (z : B). let p : A × B = (b, z) in p) f

pub world_so : (s t : State) (d e : Desk) → s ≡ t → d ≡ e → ◌≡◌ {A = World} (record { state = s; desk = d }) (record { state = t; desk = e })
world_so s t d e p q = ap (λ (x : State). let w : World = record { state = x; desk = d } in w) p ∙ ap (λ (x : Desk). let w : World = record { state = t; desk = x } in w) q

-- ---- Segment, report and cancel take the host's ticket first.

made_so : (a b : Answer) (buffer : List ℕ) (w v : World) → a ≡ b → w ≡ v → comes_to a buffer w ≡ comes_to b buffer v
made_so a b buffer w v e f = ap (λ (x : Answer). comes_to x buffer w) e ∙ ap (λ (x : World). comes_to b buffer x) f

desk_so : (h : ℕ) (t : State) (desk taken : Desk) (a : calls.Answer) → desk ≡ taken
    → ◌≡◌ {A = World} (with_any_ticket (record { state = t; desk = desk }) h (ticket_in a)) (with_any_ticket (record { state = t; desk = taken }) h (ticket_in a))
desk_so h t desk taken a e = ap (λ (d : Desk). with_any_ticket (record { state = t; desk = d }) h (ticket_in a)) e

-- the state and the desk after the call, the answer that was told and the world that is left
module _ (w : World) (h : ℕ) (buffer : List ℕ) (a : calls.Answer) (t : State) (desk : Desk) (b : Answer) (left : World) where
  pub segment_so :
      (k : ExecutionTicket) → Some (tickets.Execution k) ≡ held w.desk h → desk ≡ with_slot w.desk h None → (a, t) ≡ after w.state (calls.segment k buffer)
      → b ≡ told a → left ≡ with_any_ticket (record { state = t; desk = desk }) h (ticket_in a)
      → comes_to b (buffer_in a) left ≡ by_segment w h (held w.desk h) buffer
  segment_so k has is e says after_it =
      made_so b (told a) (buffer_in a) left _ says (after_it ∙ desk_so h t desk (with_slot w.desk h None) a is)
      ∙ lent_so (without_ticket w h) h (calls.segment k buffer) a t e
      ∙ ap (λ (o : Option Ticket). by_segment w h o buffer) has

  pub report_so :
      (k : ReportTicket) → Some (tickets.Report k) ≡ held w.desk h → desk ≡ with_slot w.desk h None → (a, t) ≡ after w.state (calls.report k buffer)
      → b ≡ told a → left ≡ with_any_ticket (record { state = t; desk = desk }) h (ticket_in a)
      → comes_to b (buffer_in a) left ≡ by_report w h (held w.desk h) buffer
  report_so k has is e says after_it =
      made_so b (told a) (buffer_in a) left _ says (after_it ∙ desk_so h t desk (with_slot w.desk h None) a is)
      ∙ lent_so (without_ticket w h) h (calls.report k buffer) a t e
      ∙ ap (λ (o : Option Ticket). by_report w h o buffer) has

-- a cancel is accepted, and leaves the desk without the ticket
pub cancel_so :
    (w : World) (h : ℕ) (t : State) (desk : Desk) (k : Ticket) → Some k ≡ held w.desk h → desk ≡ with_slot w.desk h None
    → ◌≡◌ {A = calls.Answer × State} (calls.done, t) (after w.state (calls.cancel k))
    → ◌≡◌ {A = Answer × World} (Done, record { state = t; desk = desk }) (by_cancel w h (held w.desk h))
cancel_so w h t desk k has is e =
    pair_so Done Done _ _ refl (world_so _ _ _ _ (ap (λ (p : calls.Answer × State). p.1) (said w.state t (calls.cancel k) calls.done e)) is)
    ∙ ap (by_cancel w h) has

-- ---- A ticket that was taken is kept again.

slots_so : (l m : List (Option Ticket)) → l ≡ m → ◌≡◌ {A = Desk} (record { slots = l }) (record { slots = m })
slots_so l m e = ap (λ (s : List (Option Ticket)). let d : Desk = record { slots = s } in d) e

pub same_slot : (desk : Desk) (h : ℕ) (o : Option Ticket) → o ≡ held desk h → with_slot desk h o ≡ desk
same_slot desk h o has =
    elim (nat_lt h 8)
    as (λ b. o ≡ cond b (slice_index_or desk.slots h None) None → ◌≡◌ {A = Desk} (cond b (record { slots = slice_set desk.slots h o }) desk) desk) [
      | true ↦ λ e. slots_so _ _ (ap (slice_set desk.slots h) e ∙ set-get_or desk.slots h None)
      | false ↦ λ e. refl
    ] has

pub slot_again : (desk : Desk) (h : ℕ) (o p : Option Ticket) → with_slot (with_slot desk h o) h p ≡ with_slot desk h p
slot_again desk h o p =
    elim (nat_lt h 8)
    as (λ b. ◌≡◌ {A = Desk}
    (cond b (record { slots = slice_set (cond b (let d : Desk = record { slots = slice_set desk.slots h o } in d) desk).slots h p }) (cond b (record { slots = slice_set desk.slots h o }) desk))
    (cond b (record { slots = slice_set desk.slots h p }) desk)) [ true ↦ slots_so _ _ (set-set desk.slots h o p) | false ↦ refl ]
