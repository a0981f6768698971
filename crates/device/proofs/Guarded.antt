-- A block is of a unit that is locked for a host, or it is not.
use Rattle.std.proofs.Common.{◌≡◌, ℕ, zero, suc, ◌+◌, ◌-◌, ◌<◌, ◌≤◌, cond, ◌⊎◌, get_or, Some, None, Option, ap, ◌∙◌, sym, subst, inl, inr, arith}
use Rattle.std.proofs.lemmas.Bool.{cases_eq, cases_lt, le-ltb, ltb-true}
use Rattle.std.proofs.lemmas.Option.{cond_some}
use Rattle.flex.specs.declared.unit.Unit.{Unit as DiscUnit}
use Rattle.flex.specs.declared.unit_map.UnitMap.{UnitMap}
use Rattle.flex.specs.Geometries.{size_of}
use Rattle.flex.specs.Units.{blank}
use Rattle.flex.specs.Maps.{unit_at, block_in}
use Rattle.host.specs.declared.record.Host.{Host}
use Rattle.host.specs.Hosts.{locked}
use Rattle.device.specs.Isolation.{In, Guards, HasLocked}
use Rattle.device.proofs.Tests.{clash, either, none_some, one_of}
use Rattle.device.proofs.Fitting.{in_unit}

-- It is so, or it is not.
abbrev Decided : Type 0 → Type 0
Decided P = P ⊎ (P → ⊥)

both : {P Q : Type 0} → Decided P → Decided Q → Decided (P × Q)
both (inl p) (inl q) = inl (p, q)
both (inl p) (inr n) = inr (λ y. n y.1)
both (inr n) q = inr (λ y. n y.0)

below : (P : ℕ → Type 0) → ((u : ℕ) → Decided (P u)) → (n : ℕ) → ((u : ℕ) × P u) ⊎ ((u : ℕ) → u < n → P u → ⊥)
below P d zero = inr (λ u l p. absurd (omega arith))
below P d (suc n) = go (below P d n) (d n)
  where
    go : ((u : ℕ) × P u) ⊎ ((u : ℕ) → u < n → P u → ⊥) → Decided (P n) → ((u : ℕ) × P u) ⊎ ((u : ℕ) → u < suc n → P u → ⊥)
    go (inl y) q = inl y
    go (inr none) (inl y) = inl (n, y)
    go (inr none) (inr y) = inr (λ u l p. one_of (cases_eq u n) (λ e. y (subst P e p)) (λ d. none u (omega arith) p))

in_decided : (o : Option DiscUnit) (b : ℕ) → Decided ((address : ℕ) × (block_in address o ≡ Some b))
in_decided None b = inr (λ y. none_some b y.1)
in_decided (Some u) b = go (cases_lt b u.first) (cases_lt b (u.first + size_of u.geometry))
  where
    go : (b < u.first) ⊎ (u.first ≤ b) → (b < u.first + size_of u.geometry) ⊎ (u.first + size_of u.geometry ≤ b) → Decided ((address : ℕ) × (block_in address (Some u) ≡ Some b))
    go (inl l) q = inr (λ y. let p = cond_some _ _ _ y.1 in omega (arith, p.1))
    go (inr l) (inl r) = inl (b - u.first, in_unit (Some u) b l r)
    go (inr l) (inr r) = inr (λ y. let p = cond_some _ _ _ y.1 in omega (arith, p.1, ltb-true _ _ p.0))

locked_decided : (x : Host) (u : ℕ) → Decided (HasLocked x u)
locked_decided x u =
    either x.locks.device (λ t. inl (inl t)) (λ f. either (locked x u) (λ t. inl (inr t)) (λ g. inr (λ y. one_of y (λ t. clash x.locks.device t f) (λ t. clash (locked x u) t g))))

-- A unit past the map's count has no block.
counted : (map : UnitMap) (u b : ℕ) → map.count ≤ u → In map u b → ⊥
counted map u b l y =
    let none : unit_at map u ≡ None = ap (λ t. cond t (Some (get_or map.units u blank)) None) (le-ltb u map.count l) in
    none_some b (sym (ap (block_in y.0) none) ∙ y.1)

pub guarded : (map : UnitMap) (x : Host) (b : ℕ) → Decided (Guards map x b)
guarded map x b = go (below (λ u. In map u b × HasLocked x u) (λ u. both (in_decided (unit_at map u) b) (locked_decided x u)) map.count)
  where
    go : ((u : ℕ) × (In map u b × HasLocked x u)) ⊎ ((u : ℕ) → u < map.count → In map u b × HasLocked x u → ⊥) → Decided (Guards map x b)
    go (inl y) = inl (y.0, y.1.0, y.1.1)
    go (inr none) = inr (λ g. one_of (cases_lt g.0 map.count) (λ l. none g.0 l (g.1, g.2)) (λ l. counted map g.0 b l g.1))
