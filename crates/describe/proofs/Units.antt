-- The tables of units, one more at a time.
use Rattle.std.proofs.Common.{◌≡◌, ℕ, suc, ◌+◌, ◌-◌, ◌*◌, ◌<◌, List, [], ◌∷◌, ◌++◌, length, get_or, take, drop, sym, refl, ap, ◌∙◌, arith}
use borrow.Rule.Slice.PartMut.{put_mid}
use Rattle.std.proofs.lemmas.List.{append_assoc, append-nil, length-append, length-take-le}
use Rattle.std.proofs.Math.Seq.{take-suc}
use Rattle.flex.specs.declared.geometry.Geometry.{Geometry}
use Rattle.flex.specs.declared.unit.Unit.{Unit as DiscUnit}
use Rattle.describe.specs.Descriptions.{unit_table, unit_tables}
use Rattle.describe.proofs.Filling.{filled_more}

length_table : (n : ℕ) (g : Geometry) → length (unit_table n g) ≡ 38
length_table n g = refl

pub length_tables : (n : ℕ) (us : List DiscUnit) → length (unit_tables n us) ≡ 38 * length us
length_tables n [] = refl
length_tables n (u ∷ us) =
    let e = length-append (unit_table n u.geometry) (unit_tables (suc n) us) in
    let t = length_table n u.geometry in
    let f = length_tables (suc n) us in
    omega (arith, e, t, f)

tables_push : (n : ℕ) (us : List DiscUnit) (u : DiscUnit) → unit_tables n (us ++ u ∷ []) ≡ unit_tables n us ++ unit_table (n + length us) u.geometry
tables_push n [] u = append-nil (unit_table n u.geometry) ∙ ap (λ k. unit_table k u.geometry) (omega arith)
tables_push n (v ∷ us) u =
    let k : suc n + length us ≡ n + suc (length us) = omega arith in
    ap (λ l. unit_table n v.geometry ++ l) (tables_push (suc n) us u)
    ∙ ap (λ j. unit_table n v.geometry ++ (unit_tables (suc n) us ++ unit_table j u.geometry)) k
    ∙ sym (append_assoc (unit_table n v.geometry) (unit_tables (suc n) us) (unit_table (n + suc (length us)) u.geometry))

-- a turn of the loop: one table more stands before what the part held
module _ (us : List DiscUnit) (k : ℕ) (within : k < length us) where
  pub tables_more : (part first table : List ℕ) (x : DiscUnit) → table ≡ unit_table k (get_or us k x).geometry → part ≡ unit_tables 0 (take k us) ++ drop (38 * k) first →
      put_mid (38 * k) (38 * k + 38 - 38 * k) part table ≡ unit_tables 0 (take (k + 1) us) ++ drop (38 * (k + 1)) first
  tables_more part first table x is e =
      let l : length (take k us) ≡ k = length-take-le k us (omega arith) in
      let zero_l : 0 + length (take k us) ≡ k = omega (arith, l) in
      let next_k : k + 1 ≡ suc k = omega arith in
      let more : take (k + 1) us ≡ take k us ++ get_or us k x ∷ [] = ap (λ j. take j us) next_k ∙ take-suc us k x within in
      let long : length (unit_tables 0 (take k us)) ≡ 38 * k = length_tables 0 (take k us) ∙ ap (λ n. 38 * n) l in
      let next : 38 * k + 38 ≡ 38 * (k + 1) = omega arith in
      let all : unit_tables 0 (take (k + 1) us) ≡ unit_tables 0 (take k us) ++ table =
      ap (unit_tables 0) more ∙ tables_push 0 (take k us) (get_or us k x) ∙ ap (λ j. unit_tables 0 (take k us) ++ unit_table j (get_or us k x).geometry) zero_l ∙ ap (λ t. unit_tables 0 (take k us) ++ t) (sym is) in
      filled_more (unit_tables 0 (take k us)) part first table (38 * k) (38 * k + 38) 38 e long (ap length is ∙ length_table k (get_or us k x).geometry) refl ∙ rw (all, next)
