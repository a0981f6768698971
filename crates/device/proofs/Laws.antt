-- The laws of every state that is reached, from what is sound of it.
use Rattle.std.proofs.Common.{◌≡◌, ℕ, true, false, ◌≢◌, is_some, Some, None, Option, sym, refl}
use Rattle.std.proofs.lemmas.Bool.{cases_eq}
use Rattle.host.specs.declared.record.Host.{Host}
use Rattle.host.specs.Hosts.{locked}
use Rattle.device.specs.Device.{State, host_of, run}
use Rattle.device.specs.Laws.{EmptyHanded, Exclusive, ExclusionFrom, Exclusion, WaitsFrom, Waits}
use Rattle.device.proofs.Tests.{clash, one_of}
use Rattle.device.proofs.Standing.{quiet, Quiet, off}
use Rattle.device.proofs.States.{Sound, sound_on, sound_run}

nothing : {A : Type 0} (o : Option A) → is_some o ≡ false → o ≡ None
nothing None e = refl
nothing (Some a) e = clash true refl e

empty_handed : (x : Host) → Quiet x → EmptyHanded x
empty_handed x q = record { device = q.device; units = q.units; transaction = nothing x.transaction q.idle }

module _ (s : State) (i : Sound s) where
  device_alone : (g k : ℕ) → (host_of s g).locks.device ≡ true → k ≢ g → EmptyHanded (host_of s k)
  device_alone g k t n = empty_handed (host_of s k) (quiet (host_of s k) ((i.apart g k (λ e. n (sym e))).device t))

  exclusive : Exclusive s
  exclusive = record {
    one_device = λ g k t l. one_of (cases_eq g k) (λ e. e) (λ n. clash (host_of s k).locks.device l (device_alone g k t (λ e. n (sym e))).device);
    device_alone = device_alone;
    one_locker = λ g k u t l. one_of (cases_eq g k) (λ e. e) (λ n. clash (locked (host_of s k) u) l (off u (host_of s k) ((i.apart g k n).unit u t)).unit);
    unit_alone = λ g k u t n. (off u (host_of s k) ((i.apart g k (λ e. n (sym e))).unit u t)).on_it;
  }

-- From any sound state.
pub exclusion_from : (start : State) → Sound start → ExclusionFrom start
exclusion_from start i calls = exclusive (run start calls) (sound_run start calls i)

pub waits_from : (start : State) → Sound start → WaitsFrom start
waits_from start i calls = (sound_run start calls i).waits

-- From power on.
pub exclusion : Exclusion
exclusion number map blocks = exclusion_from _ (sound_on number map blocks)

pub waits : Waits
waits number map blocks = waits_from _ (sound_on number map blocks)
