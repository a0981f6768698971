-- What isolation asks for is needed, by computing the runs.
use Rattle.std.proofs.Common.{◌≡◌, ℕ, false, ◌+◌, List, [], ◌∷◌, Some, None, Option, refl, ap, inr, arith}
use Rattle.store.specs.Blocks.{Block, Contents, sound, damaged}
use Rattle.message.specs.Decoding.{decoded}
use Rattle.host.specs.Hosts.{stands, some_below}
use Rattle.host.specs.Messages.{judged, refused, accepted}
use Rattle.host.specs.Waits.{settle}
use Rattle.transfer.specs.Segments.{moved_by_command}
use Rattle.device.specs.Calls.{Answer, accepted as takes, moved, refusal}
use Rattle.device.specs.Device.{answer, next, host_of}
use Rattle.device.specs.Isolation.{AtHome}
use Rattle.device.specs.Sample.{cleared_state, locked_state}
use Rattle.device.specs.Needed.{kept_out, let_in, WithoutLock, writes, WithOtherCalls, gives_up, gives_up_alone, GivenUp, off_its_units, off_alone, OffItsUnits, reading_off, reads_another, reads_alone, OpenOffItsUnits, Needed}
use Rattle.device.proofs.Tests.{clash}
use Rattle.device.proofs.Sample.{sample_holds, sample_home}

-- By what the runs differ: the first answer as a number, and the first byte that a block holds.
abbrev mark : List Answer → ℕ
mark [] = 0
mark (takes k ∷ more) = 1
mark (refusal s ∷ more) = 2
mark (moved k [] ∷ more) = 3
mark (moved k (b ∷ bytes) ∷ more) = 4 + b
mark (other ∷ more) = 5

abbrev first_byte : Contents → ℕ
first_byte (sound []) = 0
first_byte (sound (b ∷ bytes)) = b
first_byte damaged = 0

abbrev byte_of : Option Block → ℕ
byte_of None = 0
byte_of (Some k) = first_byte k.contents

none_home : AtHome (host_of cleared_state 0)
unfolding answer next decoded stands some_below judged refused accepted settle moved_by_command cleared_state locked_state
none_home u t = clash false t refl

needed_lock : WithoutLock
unfolding answer next decoded stands some_below judged refused accepted settle moved_by_command cleared_state locked_state kept_out let_in
needed_lock = record {
  same = refl;
  keeps = record { at_home = inr none_home; in_calls = ((λ t. clash false t refl), ((λ _. record { own = inr tt; held = λ g. g.1 }), tt)) };
  keeps_too = record { at_home = inr none_home; in_calls = ((λ _. record { own = inr tt; held = λ g. g.1 }), tt) };
  differs = λ i. let z : ◌≡◌ {A = ℕ} 2 1 = ap mark i.answered in omega arith;
}

needed_calls : WithOtherCalls
unfolding answer next decoded stands some_below judged refused accepted settle moved_by_command cleared_state locked_state writes
needed_calls = record {
  holds = sample_holds;
  keeps = record { at_home = inr sample_home; in_calls = ((λ _. record { own = inr refl; held = λ g. g.1 }), ((λ _. record { own = inr tt; held = λ g. g }), tt)) };
  keeps_too = record { at_home = inr sample_home; in_calls = tt };
  differs = λ i. let z : ◌≡◌ {A = ℕ} 1 0 = ap mark i.answered in omega arith;
}

needed_kept : GivenUp
unfolding answer next decoded stands some_below judged refused accepted settle moved_by_command cleared_state locked_state gives_up gives_up_alone
needed_kept = record {
  holds = sample_holds;
  same = refl;
  at_home = sample_home;
  to_units = ((λ _. refl), ((λ _. tt), ((λ t. clash false t refl), ((λ t. clash false t refl), tt))));
  to_units_too = ((λ _. refl), ((λ _. tt), tt));
  differs = λ i. let z : ◌≡◌ {A = ℕ} 9 0 = ap byte_of (i.its_blocks 1 (0, (1, refl), inr refl)) in omega arith;
}

needed_units : OffItsUnits
unfolding answer next decoded stands some_below judged refused accepted settle moved_by_command cleared_state locked_state off_its_units off_alone
needed_units = record {
  holds = sample_holds;
  same = refl;
  at_home = sample_home;
  given_up = ((λ t. clash false t refl), ((λ _ g. g.1), tt));
  given_up_too = ((λ _ g. g.1), tt);
  differs = λ i. let z : ◌≡◌ {A = ℕ} 2 1 = ap mark i.answered in omega arith;
}

needed_home : OpenOffItsUnits
unfolding answer next decoded stands some_below judged refused accepted settle moved_by_command cleared_state locked_state reading_off reads_another reads_alone
needed_home = record {
  holds = inr (0, refl);
  same = refl;
  to_units = ((λ t. clash false t refl), ((λ t. clash false t refl), ((λ _. tt), tt)));
  to_units_too = ((λ _. tt), tt);
  given_up = ((λ t. clash false t refl), ((λ t. clash false t refl), ((λ _ g. g), tt)));
  given_up_too = ((λ _ g. g), tt);
  differs = λ i. let z : ◌≡◌ {A = ℕ} 13 4 = ap mark i.answered in omega arith;
}

pub needed : Needed
needed = record {
  lock = needed_lock;
  same_calls = needed_calls;
  no_lock_given_up = needed_kept;
  calls_on_its_units = needed_units;
  open_on_its_units = needed_home;
}
