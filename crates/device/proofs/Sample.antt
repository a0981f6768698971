-- The sample, by computing it.
use Rattle.std.proofs.Common.{false, refl, inl, inr}
use Rattle.message.specs.Decoding.{decoded}
use Rattle.host.specs.Hosts.{stands, some_below}
use Rattle.host.specs.Messages.{judged, refused, accepted}
use Rattle.host.specs.Waits.{settle}
use Rattle.transfer.specs.Segments.{moved_by_command}
use Rattle.device.specs.Device.{answer, next, host_of}
use Rattle.device.specs.Isolation.{Holds, AtHome, KeepsIn}
use Rattle.device.specs.Sample.{Sampled, SampledByDevice, cleared_state, locked_state, by_itself, among_others, device_locked, all_locked, all_by_itself}
use Rattle.device.proofs.Tests.{clash}

pub sample_holds : Holds (host_of locked_state 0)
unfolding answer next decoded stands some_below judged refused accepted settle moved_by_command cleared_state locked_state
sample_holds = inr (0, refl)

pub sample_home : AtHome (host_of locked_state 0)
unfolding answer next decoded stands some_below judged refused accepted settle moved_by_command cleared_state locked_state
sample_home u t = clash false t refl

sample_keeps : KeepsIn 0 locked_state by_itself
unfolding answer next decoded stands some_below judged refused accepted settle moved_by_command cleared_state locked_state by_itself
sample_keeps = (
  (λ _. record { own = inr refl; held = λ g. g.1 }),
  (
    (λ _. record { own = inr tt; held = λ g. g }),
    (
      (λ _. record { own = inr tt; held = λ g. g }),
      tt,
    ),
  ),
)

sample_among : KeepsIn 0 locked_state among_others
unfolding answer next decoded stands some_below judged refused accepted settle moved_by_command cleared_state locked_state among_others
sample_among = (
  (λ _. record { own = inr refl; held = λ g. g.1 }),
  (
    (λ t. clash false t refl),
    (
      (λ _. record { own = inr tt; held = λ g. g }),
      (
        (λ t. clash false t refl),
        (
          (λ t. clash false t refl),
          (
            (λ t. clash false t refl),
            (
              (λ t. clash false t refl),
              (
                (λ _. record { own = inr tt; held = λ g. g }),
                tt,
              ),
            ),
          ),
        ),
      ),
    ),
  ),
)

pub sampled : Sampled
unfolding answer next decoded stands some_below judged refused accepted settle moved_by_command cleared_state locked_state among_others by_itself
sampled = record {
  holds = sample_holds;
  same = refl;
  keeps = record { at_home = inr sample_home; in_calls = sample_among };
  keeps_too = record { at_home = inr sample_home; in_calls = sample_keeps };
  its_block = refl;
  another_block = refl;
  left_alone = refl;
  locking = refl;
  answered = refl;
  answered_alone = refl;
}

-- By the device's lock.

device_keeps : KeepsIn 0 device_locked all_by_itself
unfolding answer next decoded stands some_below judged refused accepted settle moved_by_command cleared_state device_locked all_by_itself
device_keeps = (
  (λ _. record { own = inl refl; held = λ g. g.1 }),
  (
    (λ _. record { own = inl refl; held = λ g. g }),
    ((λ _. record { own = inl refl; held = λ g. g }), ((λ _. record { own = inl refl; held = λ g. g }), tt)),
  ),
)

device_among : KeepsIn 0 device_locked all_locked
unfolding answer next decoded stands some_below judged refused accepted settle moved_by_command cleared_state device_locked all_locked
device_among = (
  (λ t. clash false t refl),
  (
    (λ _. record { own = inl refl; held = λ g. g.1 }),
    (
      (λ t. clash false t refl),
      (
        (λ _. record { own = inl refl; held = λ g. g }),
        (
          (λ t. clash false t refl),
          ((λ _. record { own = inl refl; held = λ g. g }), ((λ _. record { own = inl refl; held = λ g. g }), tt)),
        ),
      ),
    ),
  ),
)

pub sampled_by_device : SampledByDevice
unfolding answer next decoded stands some_below judged refused accepted settle moved_by_command cleared_state device_locked all_locked all_by_itself
sampled_by_device = record {
  lock = refl;
  same = refl;
  keeps = record { at_home = inl refl; in_calls = device_among };
  keeps_too = record { at_home = inl refl; in_calls = device_keeps };
  its_block = refl;
  locking = refl;
  answered = refl;
  answered_alone = refl;
}
