-- A host that keeps to its units, and the others: their lines of calls come to one history in any order.
use Rattle.std.proofs.Common.{◌≡◌, ℕ, List, filter, sym, ap, ◌∙◌, subst}
use Rattle.std.proofs.lemmas.Bool.{cases_eq}
use Rattle.std.specs.List.{slice_get}
use Rattle.store.proofs.Nth.{same_nth}
use Rattle.device.specs.Calls.{Call}
use Rattle.device.specs.Device.{State, host_of, run}
use Rattle.device.specs.Isolation.{Holds, Keeps, KeepsIn, answers, by_host, by_others, by_host_but_notices, by_others_but_notices}
use Rattle.device.specs.Laws.{SideBySide}
use Rattle.device.specs.Orders.{OneHistory, EitherOrderFrom, EitherOrder}
use Rattle.device.proofs.Tests.{one_of}
use Rattle.device.proofs.States.{Sound, sound_on, sound_run}
use Rattle.device.proofs.Keeping.{Home, home_from}
use Rattle.device.proofs.Guarded.{guarded}
use Rattle.device.proofs.Runs.{alike, keeps_alone, keeps_among, among}

module _ (s : State) (h : ℕ) (i : Sound s) (holds : Holds (host_of s h)) (f g : List Call) (own : filter (by_host h) f ≡ filter (by_host h) g) (their : filter (by_others h) f ≡ filter (by_others h) g) (k : Keeps h s f) where
  abbrev home : Home (host_of s h)
  home = home_from (host_of s h) holds k.at_home

  -- Whether it keeps to its units goes by its own calls alone.
  keeps_too : KeepsIn h s g
  keeps_too =
      let r = alike s h i holds home in
      keeps_among h (host_of s h) g s s r (subst (KeepsIn h s) own (keeps_alone h (host_of s h) f s s r k.in_calls))

  one : SideBySide h s f (filter (by_host h) f) (filter (by_others h) f)
  one = among s h i holds home f k.in_calls

  other : SideBySide h s g (filter (by_host h) g) (filter (by_others h) g)
  other = among s h i holds home g keeps_too

  pub one_history : OneHistory h s f g
  one_history = record {
    its_answers = one.answered ∙ ap (answers (by_host_but_notices h) s) own ∙ sym other.answered;
    their_answers = one.their_answers ∙ ap (answers (by_others_but_notices h) s) their ∙ sym other.their_answers;
    blocks = same_nth (run s f).blocks (run s g).blocks (λ b.
        one_of
        (guarded s.map (host_of s h) b)
        (λ y. one.its_blocks b y ∙ ap (λ l. slice_get (run s l).blocks b) own ∙ sym (other.its_blocks b y))
        (λ y. one.their_blocks b y ∙ ap (λ l. slice_get (run s l).blocks b) their ∙ sym (other.their_blocks b y)));
    records = λ n.
        one_of
        (cases_eq n h)
        (λ y. rw y (one.its_record ∙ ap (λ l. host_of (run s l) h) own ∙ sym other.its_record))
        (λ y. one.their_records n y ∙ ap (λ l. host_of (run s l) n) their ∙ sym (other.their_records n y));
  }

-- From any sound state.
pub either_order_from : (start : State) → Sound start → EitherOrderFrom start
either_order_from start i before f g h holds own their k =
    one_history (run start before) h (sound_run start before i) holds f g own their k

-- From power on.
pub either_order : EitherOrder
either_order number map blocks = either_order_from _ (sound_on number map blocks)
