-- Each host gives its ticket back, one after the other, until the desk is empty.
use Rattle.std.proofs.Common.{◌≡◌, ℕ, ◌+◌, ◌-◌, ◌<◌, suc, Some, None, Option, refl, ap, sym, ◌∙◌, arith}
use Rattle.std.proofs.lemmas.Bool.{cases_eq}
use Rattle.device.specs.declared.ticket.Ticket.{Ticket}
use Rattle.device.proofs.Tests.{one_of}
use Rattle.desk.specs.Desks.{held, with_slot}
use Rattle.desk.specs.Worlds.{World, by_cancel, given_back, all_given_back, at_end}
use Rattle.desk.proofs.Fitting.{other_place, nothing_put}

-- After a host has given its ticket back, it has none, and neither has one that had none.
pub gave_back : (w : World) (h g : ℕ) → (g < h → held w.desk g ≡ None) → g < h + 1 → held (given_back w h).desk g ≡ None
gave_back w h g before below = go (held w.desk h) refl
  where
    go : (o : Option Ticket) → held w.desk h ≡ o → held (by_cancel w h o).1.desk g ≡ None
    go None e = one_of (cases_eq g h) (λ i. ap (held w.desk) i ∙ e) (λ n. before (omega (arith, n)))
    go (Some k) e = one_of (cases_eq g h)
        (λ i. ap (held (with_slot w.desk h None)) i ∙ nothing_put w.desk h)
        (λ n. other_place w.desk h g None n ∙ before (omega (arith, n)))

-- One host more, and one less to come.
pub one_more : (w v first : World) (h : ℕ) → h < 8 → v ≡ given_back w h → all_given_back w (8 - h) h ≡ all_given_back first 8 0 → all_given_back v (8 - (h + 1)) (h + 1) ≡ all_given_back first 8 0
one_more w v first h below is so_far =
    let more : 8 - h ≡ suc (8 - (h + 1)) = omega arith in
    ap (λ (u : World). all_given_back u (8 - (h + 1)) (h + 1)) is
    ∙ sym (ap (λ (n : ℕ). all_given_back w n h) more)
    ∙ so_far

-- With none to come, it is the end.
pub at_last : (w first : World) (h : ℕ) → h ≡ 8 → all_given_back w (8 - h) h ≡ all_given_back first 8 0 → w.state.blocks ≡ (at_end first).blocks
at_last w first h end so_far =
    ap (λ (u : World). u.state.blocks) (ap (λ (n : ℕ). all_given_back w (8 - n) n) (sym end) ∙ so_far)
