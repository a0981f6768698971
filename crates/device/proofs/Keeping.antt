-- A host that keeps to its locks: they stay, and nothing is in its way.
use Rattle.std.proofs.Common.{◌≡◌, ℕ, ◌+◌, ◌<◌, ◌≤◌, Bool, true, false, ◌≢◌, ◌⊎◌, Some, None, Option, sym, refl, ◌∙◌, subst, inl, inr, arith}
use Rattle.std.proofs.lemmas.Bool.{both_ways}
use Rattle.message.specs.declared.message.Message.{Message}
use Rattle.flex.specs.declared.unit_map.UnitMap.{UnitMap}
use Rattle.flex.proofs.Naming.{named}
use Rattle.host.specs.declared.record.Host.{Host}
use Rattle.host.specs.declared.want.Want.{Want}
use Rattle.host.specs.declared.want.Want.TheVariants as wants
use Rattle.host.specs.Hosts.{locked, on, stands, another}
use Rattle.host.specs.Messages.{wanted}
use Rattle.device.specs.Device.{State, host_of, blocked, start, reach}
use Rattle.device.specs.Isolation.{In, Guards, HasLocked, Holds, OwnWant, Own, AtHome}
use Rattle.device.proofs.Tests.{is_false, none_some, clash, agree, either, one_of}
use Rattle.device.proofs.Standing.{another_from, quiet, quiet_stands, off, unit_from, pass_is, idle_off}
use Rattle.device.proofs.Apart.{Apart, Grown}
use Rattle.device.proofs.Served.{earned}
use Rattle.device.proofs.Fitting.{span_in}
use Rattle.device.proofs.Holding.{Held}
use Rattle.device.proofs.States.{Sound}

-- It holds the device's lock; or some unit's lock, and its transaction, if on a unit, is on one that it has locked.
abbrev pub Home : Host → Type 0
Home x = (x.locks.device ≡ true) ⊎ (((u : ℕ) × (locked x u ≡ true)) × AtHome x)

pub home_from : (x : Host) → Holds x → (x.locks.device ≡ true) ⊎ AtHome x → Home x
home_from x (inl t) a = inl t
home_from x (inr l) (inl t) = inl t
home_from x (inr l) (inr a) = inr (l, a)

-- The same locks: both hold the device's, or neither and the same units'.
abbrev pub Like : Host → Host → Type 0
Like x y =
    ((x.locks.device ≡ true) × (y.locks.device ≡ true)) ⊎
    ((x.locks.device ≡ false) × (y.locks.device ≡ false) × ((u : ℕ) → locked y u ≡ locked x u))

pub like_self : (x : Host) → Like x x
like_self x = either x.locks.device (λ t. inl (t, t)) (λ f. inr (f, f, λ u. refl))

pub like_trans : (x y z : Host) → Like x y → Like y z → Like x z
like_trans x y z p q = grind arith

pub like_sym : (x y : Host) → Like x y → Like y x
like_sym x y p = grind arith

pub like_device : (x y : Host) → Like x y → x.locks.device ≡ true → y.locks.device ≡ true
like_device x y (inl p) t = p.1
like_device x y (inr p) t = clash x.locks.device t p.0

has_like : (x y : Host) (u : ℕ) → Like x y → HasLocked x u → HasLocked y u
has_like x y u (inl p) l = inl p.1
has_like x y u (inr p) (inl t) = clash x.locks.device t p.0
has_like x y u (inr p) (inr l) = inr (p.2 u ∙ l)

pub guards_like : (map : UnitMap) (x y : Host) (b : ℕ) → Like x y → Guards map x b → Guards map y b
guards_like map x y b l g = (g.0, g.1, has_like x y g.0 l g.2)

-- What is earned is its own, if what was asked for is.
earned_own : (x : Host) (b : Bool) (o : Option Message) (w : Want) → earned b o ≡ Some w → Own x o → OwnWant x w
earned_own x true o w e own = absurd (none_some w e)
earned_own x false None w e own = absurd (none_some w e)
earned_own x false (Some m) w e own = let i : wanted m ≡ w = cc in subst (OwnWant x) i own

-- Its locks stay, and its transaction is on a unit of its own.
pub kept : (x x' : Host) (b : Bool) (o : Option Message) → Grown (earned b o) x x' → Held x x' → Home x → (x.locks.device ≡ true) ⊎ Own x o → Home x' × Like x x'
kept x x' b o grown held home k = either x.locks.device (λ t. (inl (held.device t), inl (t, held.device t))) (λ f. one_of home (λ t. clash x.locks.device t f) (λ h. one_of k (λ t. clash x.locks.device t f) (λ own. units_only f h own)))
  where
    its : Own x o → (w : Want) → earned b o ≡ Some w → OwnWant x w
    its own w e = earned_own x b o w e own

    units_only : x.locks.device ≡ false → ((u : ℕ) × (locked x u ≡ true)) × AtHome x → Own x o → Home x' × Like x x'
    units_only f h own =
        let device : x'.locks.device ≡ false = is_false x'.locks.device (λ t. its own wants.Device (grown.device t f)) in
        let same : (u : ℕ) → locked x' u ≡ locked x u =
        λ u. agree (locked x' u) (locked x u) (λ t. either (locked x u) (λ y. y) (λ n. its own (wants.Lock u) (grown.unit u t n))) (held.unit u) in
        let at_home : AtHome x' =
        λ u t. held.unit u (either (on x u) (λ y. h.1 u y) (λ n. one_of (grown.on_it u t n) (λ e. its own (wants.Lock u) e) (λ e. its own (wants.Unit u) e))) in
        (inr ((h.0.0, held.unit h.0.0 h.0.1), at_home), inr (f, device, same))

-- Nothing is in its way.
module _ (s : State) (h : ℕ) (i : Sound s) where
  pub free_way : (host_of s h).locks.device ≡ true → (w : Want) → another (stands w) h s.hosts ≡ false
  free_way t w = another_from (stands w) h s.hosts (λ g d. quiet_stands w (host_of s g) (quiet (host_of s g) ((i.apart h g (λ e. d (sym e))).device t)))

  home_way : (u : ℕ) × (locked (host_of s h) u ≡ true) → (w : Want) → OwnWant (host_of s h) w → another (stands w) h s.hosts ≡ false
  home_way l w own = another_from (stands w) h s.hosts (λ g d. nobody g (i.apart h g (λ e. d (sym e))) w own)
    where
      nobody : (g : ℕ) → Apart (host_of s h) (host_of s g) → (v : Want) → OwnWant (host_of s h) v → stands v (host_of s g) ≡ false
      nobody g a wants.Pass n = pass_is (host_of s g) ∙ (off l.0 (host_of s g) (a.unit l.0 l.1)).device
      nobody g a wants.Device n = absurd n
      nobody g a (wants.Lock u) n = a.unit u n
      nobody g a (wants.Unit u) n = let y = off u (host_of s g) (a.unit u n) in unit_from u (host_of s g) y.device y.unit

  pub clear_way : Home (host_of s h) → (o : Option Message) → ((host_of s h).locks.device ≡ true) ⊎ Own (host_of s h) o → blocked s.hosts h o ≡ false
  clear_way home None own = refl
  clear_way home (Some m) own =
      one_of home (λ t. free_way t (wanted m)) (λ l. one_of own (λ t. free_way t (wanted m)) (λ n. home_way l.0 (wanted m) n))

-- The blocks of another's span are not its own: no block is of two units.
pub other_span : (s : State) (h g : ℕ) → Sound s → g ≢ h → (b : ℕ) → start s g ≤ b → b < start s g + reach s g → Guards s.map (host_of s h) b → ⊥
other_span s h g i d b p q guards = go guards.2
  where
    a : Apart (host_of s h) (host_of s g)
    a = i.apart h g (λ e. d (sym e))

    sp : (u : ℕ) × (on (host_of s g) u ≡ true) × In s.map u b
    sp = span_in s.map (host_of s g).transaction (i.fits g) b p q

    go : HasLocked (host_of s h) guards.0 → ⊥
    go (inl t) = both_ways (on (host_of s g) sp.0) (idle_off (host_of s g).transaction (quiet (host_of s g) (a.device t)).idle sp.0) sp.1
    go (inr l) =
        let e : sp.0 ≡ guards.0 = ((named s.map).one_name sp.0 guards.0 sp.2.0 guards.1.0 b sp.2.1 guards.1.1).0 in
        let y : locked (host_of s h) sp.0 ≡ true = rw e l in
        both_ways (on (host_of s g) sp.0) (off sp.0 (host_of s g) (a.unit sp.0 y)).on_it sp.1

-- The blocks of its own span are.
pub own_span : (s : State) (h : ℕ) → Sound s → Home (host_of s h) → (b : ℕ) → start s h ≤ b → b < start s h + reach s h → Guards s.map (host_of s h) b
own_span s h i home b p q =
    let sp = span_in s.map (host_of s h).transaction (i.fits h) b p q in
    (sp.0, sp.2, one_of home (λ t. inl t) (λ l. inr (l.1 sp.0 sp.1)))
