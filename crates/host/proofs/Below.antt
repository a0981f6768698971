-- A test of the hosts of a table, each with its place: one of them passes it, or none.
use Rattle.std.proofs.Common.{◌≡◌, ℕ, zero, suc, ◌<◌, Bool, true, false, ◌||◌, List, length, get_or, sym, refl, ap, ◌∙◌, arith, zero-add}
use Rattle.std.proofs.lemmas.Bool.Decides.{nat_tests}
use Rattle.std.specs.List.{list_any, enumerate_from}
use Rattle.std.proofs.lemmas.List.FromFn.{length-enumerate_from, get_or-enumerate_from}
use Rattle.std.proofs.lemmas.List.Recursion.{or_is}
use Rattle.host.specs.declared.record.Host.{Host}
use Rattle.host.specs.Hosts.{blank, host_at, some_below}

module _ (p : ℕ → Bool) where
  some_passes : (n : ℕ) → some_below p n ≡ true → (k : ℕ) × (k < n) × (p k ≡ true)
  unfolding some_below
  some_passes zero e = cc
  some_passes (suc n) e = go (some_passes n) (p n) refl
    where
      go : (some_below p n ≡ true → (k : ℕ) × (k < n) × (p k ≡ true)) → (b : Bool) → p n ≡ b → (k : ℕ) × (k < suc n) × (p k ≡ true)
      go before true q = (n, omega arith, q)
      go before false q = let f = before (sym (ap (λ b. b || some_below p n) q) ∙ e) in (f.0, omega (arith, f.1), f.2)

  none_passes : (n : ℕ) → some_below p n ≡ false → (k : ℕ) → k < n → p k ≡ false
  unfolding some_below
  none_passes zero e k l = absurd (omega arith)
  none_passes (suc n) e k l =
      let before : some_below p n ≡ false → k < n → p k ≡ false = λ f h. none_passes n f k h in
      grind (arith, nat_tests)

pub any_place : (q : ℕ → Host → Bool) (hosts : List Host) → list_any (λ p. q p.0 p.1) (enumerate_from 0 hosts) ≡ some_below (λ g. q g (host_at hosts g)) (length hosts)
any_place q hosts =
    let test : ℕ × Host → Bool = λ p. q p.0 p.1 in
    let at : (k : ℕ) → k < length hosts → test (get_or (enumerate_from 0 hosts) k (0, blank)) ≡ q k (host_at hosts k) =
    λ k l. ap test (get_or-enumerate_from 0 hosts k (0, blank) l) ∙ ap (λ i. q i (host_at hosts k)) (zero-add k) in
    let long = length-enumerate_from 0 hosts in
    sym (
    or_is (list_any test) test refl (λ _ _. refl) (enumerate_from 0 hosts) (0, blank) (some_below (λ g. q g (host_at hosts g)) (length hosts))
    (λ e. let f = some_passes (λ g. q g (host_at hosts g)) (length hosts) e in (f.0, omega (arith, f.1), at f.0 f.1 ∙ f.2))
    (λ e k l. let m : k < length hosts = omega arith in at k m ∙ none_passes (λ g. q g (host_at hosts g)) (length hosts) e k m)
    )
