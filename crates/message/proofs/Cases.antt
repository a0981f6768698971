-- Facts on results that several proofs share.
use Rattle.std.proofs.Common.{◌≡◌, Bool, true, false, cond, Ok, Err, sym, refl}

-- what is accepted is not refused
pub not_both : {A B : Type 0} {x : A} {s : B} → Ok x ≡ Err s → ⊥
not_both e = cc

-- a test that chose `Ok` was passed
pub ok_passed : {A B : Type 0} (b : Bool) (x y : A) (s : B) → cond b (Ok x) (Err s) ≡ Ok y → (b ≡ true) × (x ≡ y)
ok_passed true x y s e = (refl, cc)
ok_passed false x y s e = absurd (not_both (sym e))
