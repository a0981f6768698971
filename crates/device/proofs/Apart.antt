-- Two hosts keep out of each other's way, and what one gains by a call keeps it so.
use Rattle.std.proofs.Common.{◌≡◌, ℕ, true, false, ◌⊎◌, is_some, Some, Option}
use Rattle.std.proofs.lemmas.Bool.{both_ways}
use Rattle.host.specs.declared.record.Host.{Host}
use Rattle.host.specs.declared.want.Want.{Want}
use Rattle.host.specs.declared.want.Want.TheVariants as wants
use Rattle.host.specs.Hosts.{locked, on, stands}
use Rattle.device.proofs.Tests.{is_false, either, one_of}
use Rattle.device.proofs.Standing.{quiet, from_quiet, off, from_off, unit_parts, none_device}

-- The locks of x keep y out.
pub record Apart (x y : Host) : Type 0 where
  pub device : x.locks.device ≡ true → stands wants.Device y ≡ false
  pub unit : (u : ℕ) → locked x u ≡ true → stands (wants.Lock u) y ≡ false

-- What a host gains, it gains by what it asked for.
pub record Grown (o : Option Want) (x x' : Host) : Type 0 where
  pub device : x'.locks.device ≡ true → x.locks.device ≡ false → o ≡ Some wants.Device
  pub unit : (u : ℕ) → locked x' u ≡ true → locked x u ≡ false → o ≡ Some (wants.Lock u)
  pub on_it : (u : ℕ) → on x' u ≡ true → on x u ≡ false → (o ≡ Some (wants.Lock u)) ⊎ (o ≡ Some (wants.Unit u))
  pub busy : is_some x'.transaction ≡ true → is_some x.transaction ≡ false → (w : Want) × (o ≡ Some w)

-- With y not in the way of what x asked for, they stay apart.
module _ (o : Option Want) (x x' y : Host) (grown : Grown o x x') (clear : (w : Want) → o ≡ Some w → stands w y ≡ false) where
  pub apart_from : Apart x y → Apart x' y
  apart_from a = record {
    device = λ e. either x.locks.device (λ t. a.device t) (λ f. clear wants.Device (grown.device e f));
    unit = λ u e. either (locked x u) (λ t. a.unit u t) (λ f. clear (wants.Lock u) (grown.unit u e f));
  }

  pub apart_to : Apart y x → Apart y x'
  apart_to a = record {
    device = λ e.
        let q = quiet x (a.device e) in
        let no : (w : Want) → o ≡ Some w → ⊥ = λ w s. both_ways y.locks.device (none_device w y (clear w s)) e in
        from_quiet x' (record {
          device = is_false x'.locks.device (λ t. no wants.Device (grown.device t q.device));
          units = λ u. is_false (locked x' u) (λ t. no (wants.Lock u) (grown.unit u t (q.units u)));
          idle = is_false (is_some x'.transaction) (λ t. let g = grown.busy t q.idle in no g.0 g.1);
        });
    unit = λ u e.
        let q = off u x (a.unit u e) in
        let no : locked y u ≡ false → ⊥ = λ f. both_ways (locked y u) f e in
        from_off u x' (record {
          device = is_false x'.locks.device (λ t. no ((quiet y (clear wants.Device (grown.device t q.device))).units u));
          unit = is_false (locked x' u) (λ t. no (off u y (clear (wants.Lock u) (grown.unit u t q.unit))).unit);
          on_it = is_false (on x' u) (λ t. one_of (grown.on_it u t q.on_it) (λ s. no (off u y (clear (wants.Lock u) s)).unit) (λ s. no (unit_parts u y (clear (wants.Unit u) s)).1));
        });
  }
