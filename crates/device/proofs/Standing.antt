-- What stands in a host's way: some other host, by what it holds.
use Rattle.std.proofs.Common.{◌≡◌, ℕ, zero, suc, ◌<◌, Bool, false, not, ◌&&◌, eqb, ◌≢◌, List, [], ◌∷◌, length, get_or, is_some, Some, None, Option, sym, refl, ap, ◌∙◌, arith}
use Rattle.std.proofs.lemmas.Bool.{or_parts, or_from, cases_eq, cases_lt, eqb-false, ne_eqb, true≢false}
use Rattle.std.proofs.lemmas.List.{get_or_past}
use Rattle.host.specs.declared.record.Host.{Host}
use Rattle.host.specs.declared.transaction.Transaction.{Transaction}
use Rattle.host.specs.declared.want.Want.{Want}
use Rattle.host.specs.declared.want.Want.TheVariants as wants
use Rattle.host.specs.Hosts.{blank, host_at, locked, any, works_on, on, stands, some_below, another}
use Rattle.device.proofs.Tests.{either, one_of, fail_together}

pub any_none : (l : List Bool) → any l ≡ false → (u : ℕ) → get_or l u false ≡ false
any_none [] e u = refl
any_none (b ∷ l) e zero = (or_parts b (any l) e).0
any_none (b ∷ l) e (suc u) = any_none l (or_parts b (any l) e).1 u

pub any_from : (l : List Bool) → ((u : ℕ) → get_or l u false ≡ false) → any l ≡ false
any_from [] n = refl
any_from (b ∷ l) n = or_from b (any l) (n 0) (any_from l (λ u. n (suc u)))

pub idle_off : (t : Option Transaction) → is_some t ≡ false → (u : ℕ) → works_on t u ≡ false
idle_off None e u = refl
idle_off (Some t) e u = absurd (true≢false e)

-- ---- Some host other than one.

module _ (p : ℕ → Bool) where
  below_from : (n : ℕ) → ((k : ℕ) → k < n → p k ≡ false) → some_below p n ≡ false
  unfolding some_below
  below_from zero f = refl
  below_from (suc n) f = or_from (p n) (some_below p n) (f n (omega arith)) (below_from n (λ k l. f k (omega arith)))

  below_none : (n : ℕ) → some_below p n ≡ false → (k : ℕ) → k < n → p k ≡ false
  unfolding some_below
  below_none zero e k l = absurd (omega arith)
  below_none (suc n) e k l =
      let q = or_parts (p n) (some_below p n) e in
      one_of (cases_eq k n) (λ i. rw i q.0) (λ d. below_none n q.1 k (omega arith))

module _ (p : Host → Bool) where
  pub another_from : (h : ℕ) (xs : List Host) → ((g : ℕ) → g ≢ h → p (host_at xs g) ≡ false) → another p h xs ≡ false
  another_from h xs n =
      below_from (λ g. not (eqb g h) && p (host_at xs g)) (length xs) (λ g l. either (eqb g h) (λ e. rw e) (λ e. rw e (n g (eqb-false g h e))))

  module _ (none : p blank ≡ false) where
    pub another_none : (h : ℕ) (xs : List Host) → another p h xs ≡ false → (g : ℕ) → g ≢ h → p (host_at xs g) ≡ false
    another_none h xs e g d =
        one_of
        (cases_lt g (length xs))
        (λ l. rw (ne_eqb g h d) at (below_none (λ g. not (eqb g h) && p (host_at xs g)) (length xs) e g l))
        (λ l. ap p (get_or_past xs g blank l) ∙ none)

    pub another_same : (h : ℕ) (xs ys : List Host) → ((g : ℕ) → g ≢ h → p (host_at xs g) ≡ p (host_at ys g)) → another p h xs ≡ another p h ys
    another_same h xs ys same =
        fail_together
        (another p h xs)
        (another p h ys)
        (λ e. another_from h ys (λ g d. sym (same g d) ∙ another_none h xs e g d))
        (λ e. another_from h xs (λ g d. same g d ∙ another_none h ys e g d))

-- ---- One host in the way of what is asked for.

pub stands_blank : (w : Want) → stands w blank ≡ false
unfolding stands
stands_blank wants.Pass = refl
stands_blank wants.Device = refl
stands_blank (wants.Lock u) = refl
stands_blank (wants.Unit u) = refl

-- A host that is not in the way of the device's lock holds nothing and has no open transaction.
pub record Quiet (y : Host) : Type 0 where
  pub device : y.locks.device ≡ false
  pub units : (u : ℕ) → locked y u ≡ false
  pub idle : is_some y.transaction ≡ false

pub quiet : (y : Host) → stands wants.Device y ≡ false → Quiet y
unfolding stands
quiet y e = record { device = grind arith; units = any_none y.locks.units (grind arith); idle = grind arith }

pub from_quiet : (y : Host) → Quiet y → stands wants.Device y ≡ false
unfolding stands
from_quiet y q = grind (arith, any_from)

-- A host that is not in the way of a unit's lock.
pub record Off (u : ℕ) (y : Host) : Type 0 where
  pub device : y.locks.device ≡ false
  pub unit : locked y u ≡ false
  pub on_it : on y u ≡ false

pub off : (u : ℕ) (y : Host) → stands (wants.Lock u) y ≡ false → Off u y
unfolding stands
off u y e = record { device = grind arith; unit = grind arith; on_it = grind arith }

pub from_off : (u : ℕ) (y : Host) → Off u y → stands (wants.Lock u) y ≡ false
unfolding stands
from_off u y q = grind arith

pub unit_parts : (u : ℕ) (y : Host) → stands (wants.Unit u) y ≡ false → (y.locks.device ≡ false) × (locked y u ≡ false)
unfolding stands
unit_parts u y e = grind arith

pub unit_from : (u : ℕ) (y : Host) → y.locks.device ≡ false → locked y u ≡ false → stands (wants.Unit u) y ≡ false
unfolding stands
unit_from u y p q = grind arith

pub pass_is : (y : Host) → stands wants.Pass y ≡ y.locks.device
unfolding stands
pass_is y = refl

-- The device's lock is in everybody's way.
pub none_device : (w : Want) (y : Host) → stands w y ≡ false → y.locks.device ≡ false
unfolding stands
none_device w y e = grind arith

-- Who is quiet is in nobody's way.
pub quiet_stands : (w : Want) (y : Host) → Quiet y → stands w y ≡ false
unfolding stands
quiet_stands w y q = grind (arith, any_from, idle_off)
