-- The samples of either order, by computing them.
use Rattle.std.proofs.Common.{false, refl, inr}
use Rattle.message.specs.Decoding.{decoded}
use Rattle.host.specs.Hosts.{stands, some_below}
use Rattle.host.specs.Messages.{judged, refused, accepted}
use Rattle.host.specs.Waits.{settle}
use Rattle.transfer.specs.Segments.{moved_by_command}
use Rattle.device.specs.Device.{answer, next}
use Rattle.device.specs.Isolation.{Keeps}
use Rattle.device.specs.Sample.{cleared_state, locked_state}
use Rattle.device.specs.OrdersSample.{both_locked, one_by_one, in_turns, EitherSampled, no_op_first, lock_first, WithoutLock, unlock_first, unlock_last, LockGivenUp, strays_first, strays_last, UnitNotLocked, third_last, third_first, ThirdGuest, EitherNeeded}
use Rattle.device.proofs.Tests.{clash}

-- ---- Two guests.

keeps : Keeps 0 both_locked one_by_one
unfolding answer next decoded stands some_below judged refused accepted settle moved_by_command cleared_state locked_state both_locked one_by_one
keeps = record {
  at_home = inr (λ u t. clash false t refl);
  in_calls = (
    (λ _. record { own = inr refl; held = λ g. g.1 }),
    (
      (λ _. record { own = inr tt; held = λ g. g }),
      (
        (λ _. record { own = inr tt; held = λ g. g }),
        ((λ t. clash false t refl), ((λ t. clash false t refl), ((λ t. clash false t refl), tt))),
      ),
    ),
  );
}

keeps_too : Keeps 1 both_locked one_by_one
unfolding answer next decoded stands some_below judged refused accepted settle moved_by_command cleared_state locked_state both_locked one_by_one
keeps_too = record {
  at_home = inr (λ u t. clash false t refl);
  in_calls = (
    (λ t. clash false t refl),
    (
      (λ t. clash false t refl),
      (
        (λ t. clash false t refl),
        (
          (λ _. record { own = inr refl; held = λ g. g.1 }),
          ((λ _. record { own = inr tt; held = λ g. g }), ((λ _. record { own = inr tt; held = λ g. g }), tt)),
        ),
      ),
    ),
  );
}

pub either_sampled : EitherSampled
unfolding answer next decoded stands some_below judged refused accepted settle moved_by_command cleared_state locked_state both_locked one_by_one in_turns
either_sampled = record {
  holds = inr (0, refl);
  holds_too = inr (1, refl);
  lines = record { its_line = refl; their_line = refl };
  only_two = refl;
  keeps = keeps;
  keeps_too = keeps_too;
  one_block = refl;
  other_block = refl;
  one_block_too = refl;
  other_block_too = refl;
}

-- ---- Without what the law asks for.

without_lock : WithoutLock
unfolding answer next decoded stands some_below judged refused accepted settle moved_by_command cleared_state no_op_first lock_first
without_lock = record {
  lines = record { its_line = refl; their_line = refl };
  keeps = record {
    at_home = inr (λ u t. clash false t refl);
    in_calls = (
      (λ _. record { own = inr tt; held = λ g. g.1 }),
      (
        (λ t. clash false t refl),
        ((λ _. record { own = inr tt; held = λ g. g }), ((λ t. clash false t refl), tt)),
      ),
    );
  };
  refused = refl;
  accepted = refl;
}

lock_given_up : LockGivenUp
unfolding answer next decoded stands some_below judged refused accepted settle moved_by_command cleared_state locked_state unlock_first unlock_last
lock_given_up = record {
  holds = inr (0, refl);
  lines = record { its_line = refl; their_line = refl };
  own = refl;
  gives_up = ((_, refl), refl);
  then_keeps = (
    (λ _. record { own = inr tt; held = λ g. g }),
    ((λ t. clash false t refl), ((λ t. clash false t refl), ((λ t. clash false t refl), tt))),
  );
  written = refl;
  left = refl;
}

unit_not_locked : UnitNotLocked
unfolding answer next decoded stands some_below judged refused accepted settle moved_by_command cleared_state locked_state strays_first strays_last
unit_not_locked = record {
  holds = inr (0, refl);
  lines = record { its_line = refl; their_line = refl };
  strays = λ t. clash false t refl;
  held = λ g. g.1;
  then_keeps = (
    (λ _. record { own = inr tt; held = λ g. g }),
    (
      (λ _. record { own = inr tt; held = λ g. g }),
      ((λ t. clash false t refl), ((λ t. clash false t refl), ((λ t. clash false t refl), tt))),
    ),
  );
  one_last = refl;
  other_last = refl;
}

third_keeps : Keeps 0 locked_state third_last
unfolding answer next decoded stands some_below judged refused accepted settle moved_by_command cleared_state locked_state third_last
third_keeps = record {
  at_home = inr (λ u t. clash false t refl);
  in_calls = (
    (λ _. record { own = inr refl; held = λ g. g.1 }),
    (
      (λ _. record { own = inr tt; held = λ g. g }),
      (
        (λ _. record { own = inr tt; held = λ g. g }),
        (
          (λ t. clash false t refl),
          (
            (λ t. clash false t refl),
            (
              (λ t. clash false t refl),
              (
                (λ t. clash false t refl),
                ((λ t. clash false t refl), ((λ t. clash false t refl), ((λ t. clash false t refl), tt))),
              ),
            ),
          ),
        ),
      ),
    ),
  );
}

third_guest : ThirdGuest
unfolding answer next decoded stands some_below judged refused accepted settle moved_by_command cleared_state locked_state third_last third_first
third_guest = record {
  holds = inr (0, refl);
  keeps = third_keeps;
  its_line = refl;
  second_line = refl;
  third_line = refl;
  third_wrote = refl;
  second_wrote = refl;
}

pub either_needed : EitherNeeded
either_needed = record {
  without_lock = without_lock;
  lock_given_up = lock_given_up;
  unit_not_locked = unit_not_locked;
  third_guest = third_guest;
}
