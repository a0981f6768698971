-- What holds of every state that is reached.
use Rattle.std.proofs.Common.{◌≡◌, ℕ, Bool, true, false, ◌≢◌, ◌⊎◌, List, [], ◌∷◌, length, get_or, set, replicate, Some, None, Option, sym, refl, ap, ◌∙◌, subst, subst₂, inl, inr}
use Rattle.store.specs.Blocks.{Block}
use Rattle.flex.specs.declared.unit_map.UnitMap.{UnitMap}
use Rattle.host.specs.declared.mail.Mail.{Mail}
use Rattle.host.specs.declared.record.Host.{Host}
use Rattle.host.specs.declared.want.Want.{Want}
use Rattle.host.specs.Hosts.{blank, at_start, locked, stands, another}
use Rattle.host.specs.Waits.{silent, powered, mail_at, judged_wait, settled_by}
use Rattle.device.specs.Calls.{Call, by}
use Rattle.device.specs.Device.{State, host_of, mail_of, asked, in_way, next, run, power_on}
use Rattle.device.proofs.Tests.{none_some, clash, one_of, of_row}
use Rattle.device.proofs.Apart.{Apart, apart_from, apart_to}
use Rattle.device.proofs.Served.{earned, no_lock}
use Rattle.device.proofs.Fitting.{Fits}
use Rattle.device.proofs.Steps.{did, map_next, host_next, hosts_kept, mail_next, mail_kept, posted_by, did_grown, did_fits, clear_of}

-- Any two hosts are apart, each transaction is in its unit, each wait has something in its way, and each host has its mail.
pub record Sound (s : State) : Type 0 where
  pub apart : (g k : ℕ) → g ≢ k → Apart (host_of s g) (host_of s k)
  pub fits : (g : ℕ) → Fits s.map (host_of s g).transaction
  pub waits : (g : ℕ) (w : Want) → (mail_of s g).wait ≡ Some w → another (stands w) g s.hosts ≡ true
  pub mailed : length s.mail ≡ length s.hosts

apart_next : (s : State) (c : Call) → Sound s → (g k : ℕ) → g ≢ k → Apart (host_of (next s c) g) (host_of (next s c) k)
apart_next s c i g k n = go (host_next s c g) (host_next s c k)
  where
    go : (host_of (next s c) g ≡ host_of s g) ⊎ ((g ≡ by c) × (host_of (next s c) g ≡ (did s c).host)) → (host_of (next s c) k ≡ host_of s k) ⊎ ((k ≡ by c) × (host_of (next s c) k ≡ (did s c).host)) → Apart (host_of (next s c) g) (host_of (next s c) k)
    go (inl p) (inl q) = subst₂ Apart (sym p) (sym q) (i.apart g k n)
    go (inl p) (inr q) =
        let m : g ≢ by c = λ e. n (e ∙ sym q.0) in
        subst₂ Apart (sym p) (sym q.1) (apart_to (earned (in_way s c) (asked s c)) (host_of s (by c)) (did s c).host (host_of s g) (did_grown s c) (λ w e. clear_of s c w e g m) (i.apart g (by c) m))
    go (inr p) (inl q) =
        let m : k ≢ by c = λ e. n (p.0 ∙ sym e) in
        subst₂ Apart (sym p.1) (sym q) (apart_from (earned (in_way s c) (asked s c)) (host_of s (by c)) (did s c).host (host_of s k) (did_grown s c) (λ w e. clear_of s c w e k m) (i.apart (by c) k (λ e. m (sym e))))
    go (inr p) (inr q) = absurd (n (p.0 ∙ sym q.0))

fits_next : (s : State) (c : Call) → Sound s → (g : ℕ) → Fits (next s c).map (host_of (next s c) g).transaction
fits_next s c i g =
    rw (map_next s c) (one_of
    (host_next s c g)
    (λ e. subst (λ (x : Host). Fits s.map x.transaction) (sym e) (i.fits g))
    (λ e. subst (λ (x : Host). Fits s.map x.transaction) (sym e.1) (did_fits s c (i.fits (by c)))))

settled_waits : (hosts : List Host) (g : ℕ) (o : Option Want) (m : Mail) → m.wait ≡ o → (w : Want) → (settled_by hosts g o m).wait ≡ Some w → another (stands w) g hosts ≡ true
settled_waits hosts g None m e w p = absurd (none_some w (sym e ∙ p))
settled_waits hosts g (Some v) m e w p = go (another (stands v) g hosts) refl p
  where
    go : (b : Bool) → another (stands v) g hosts ≡ b → (judged_wait b v m).wait ≡ Some w → another (stands w) g hosts ≡ true
    go true q r = let i : v ≡ w = cc in rw i at q
    go false q r = absurd (none_some w r)

waits_next : (s : State) (c : Call) (g : ℕ) (w : Want) → (mail_of (next s c) g).wait ≡ Some w → another (stands w) g (next s c).hosts ≡ true
waits_next s c g w e =
    let m = mail_at (set s.mail (by c) (posted_by s c)) g in
    settled_waits (next s c).hosts g m.wait m refl w (sym (ap (λ (l : Mail). l.wait) (mail_next s c g)) ∙ e)

pub sound_next : (s : State) (c : Call) → Sound s → Sound (next s c)
sound_next s c i = record {
  apart = apart_next s c i;
  fits = fits_next s c i;
  waits = waits_next s c;
  mailed = mail_kept s c ∙ i.mailed ∙ sym (hosts_kept s c);
}

pub sound_run : (s : State) (f : List Call) → Sound s → Sound (run s f)
sound_run s [] i = i
sound_run s (c ∷ f) i = sound_run (next s c) f (sound_next s c i)

pub map_run : (s : State) (f : List Call) → (run s f).map ≡ s.map
map_run s [] = refl
map_run s (c ∷ f) = map_run (next s c) f ∙ map_next s c

-- ---- At power on.

record Free (x : Host) : Type 0 where
  device : x.locks.device ≡ false
  units : (u : ℕ) → locked x u ≡ false
  idle : x.transaction ≡ None

free : (g : ℕ) → Free (get_or (replicate 8 at_start) g blank)
free g =
    of_row
    Free
    at_start
    blank
    (record { device = refl; units = no_lock; idle = refl })
    (record { device = refl; units = λ u. refl; idle = refl })
    8
    g

free_apart : (x y : Host) → Free x → Apart x y
free_apart x y f = record {
  device = λ e. clash x.locks.device e f.device;
  unit = λ u e. clash (locked x u) e (f.units u);
}

pub sound_on : (number : ℕ) (map : UnitMap) (blocks : List Block) → Sound (power_on number map blocks)
sound_on number map blocks = record {
  apart = λ g k _. free_apart (host_of (power_on number map blocks) g) (host_of (power_on number map blocks) k) (free g);
  fits = λ g. subst (Fits map) (sym (free g).idle) tt;
  waits = λ g w e.
      let m : (get_or (replicate 8 powered) g silent).wait ≡ None = of_row (λ (l : Mail). l.wait ≡ None) powered silent refl refl 8 g in
      absurd (none_some w (sym m ∙ e));
  mailed = refl;
}
