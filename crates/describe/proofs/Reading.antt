-- A reader of a description learns of each unit what there is to learn.
use Rattle.std.proofs.Common.{◌≡◌, ℕ, zero, suc, ◌+◌, ◌-◌, ◌*◌, ◌/◌, ◌%◌, ◌^◌, ◌<◌, ◌≤◌, true, List, [], ◌∷◌, ◌++◌, fold, length, take, sym, refl, ap, ap₂, ◌∙◌, arith}
use Rattle.std.specs.Prelude.{map, filter, ◌==◌}
use Rattle.std.specs.List.{list_all}
use Rattle.std.proofs.lemmas.Nat.{mul-le}
use Rattle.std.proofs.lemmas.List.{length-take-le, take_at}
use Rattle.std.proofs.Math.Arith.{mod-mul}
use Rattle.std.proofs.Math.Nat.{pow-succ', mul-zero, mod-eq_of_lt}
use Rattle.std.proofs.lemmas.Bool.{and_parts, leb-true}
use Rattle.flex.specs.declared.unit.Unit.{Unit as DiscUnit}
use Rattle.flex.specs.declared.unit_map.UnitMap.{UnitMap}
use Rattle.flex.specs.Geometries.{size_of}
use Rattle.flex.specs.Maps.{listed}
use Rattle.flex.specs.Units.{past, counted, inside, Counted}
use Rattle.flex.proofs.Soundness.{counted_from}
use Rattle.message.specs.Operands.{number}
use Rattle.describe.specs.Descriptions.{bytes_of, controller_table, unit_table, unit_tables, terminator, tables, description}
use Rattle.describe.specs.Readers.{field, type_in, tables_in, tables_of, learned, Learned, known_from, ReadBack}
use Rattle.describe.proofs.Writing.{length_all}

positive_pow : (n : ℕ) → 0 < 256 ^ n
positive_pow zero = omega arith
positive_pow (suc n) = let e = pow-succ' 256 n in omega (arith, e, positive_pow n)

-- the bytes of a number spell it, as far as they go
number_from : (n v high : ℕ) → fold (λ h b. 256 * h + b) high (bytes_of n v) ≡ 256 ^ n * high + v % 256 ^ n
number_from zero v high = omega arith
number_from (suc n) v high =
    let w = 256 ^ n in
    let d = v / w % 256 in
    let more : 256 ^ suc n ≡ 256 * w = pow-succ' 256 n in
    let cut : v % (256 * w) ≡ d * w + v % w = mod-mul v (omega arith) (positive_pow n) in
    let turned : w * (256 * high + d) + v % w ≡ 256 * w * high + (d * w + v % w) = grind arith in
    number_from n v (256 * high + d) ∙ turned ∙ ap₂ (λ i j. i * high + j) (sym more) (sym cut ∙ ap (λ i. v % i) (sym more))

number_of_bytes : (n v : ℕ) → v < 256 ^ n → number (bytes_of n v) ≡ v
number_of_bytes n v l = number_from n v 0 ∙ ap₂ (λ i j. i + j) (mul-zero (256 ^ n)) (mod-eq_of_lt l) ∙ omega arith

-- the tables of units, each by itself
abbrev each : ℕ → List DiscUnit → List (List ℕ)
each n [] = []
each n (u ∷ us) = unit_table n u.geometry ∷ each (suc n) us

tables_read : (most n : ℕ) (us : List DiscUnit) → length us < most → tables_in most (unit_tables n us ++ terminator) ≡ each n us
tables_read zero n us l = absurd (omega arith)
tables_read (suc most) n [] l = refl
tables_read (suc most) n (u ∷ us) l = ap (λ ts. unit_table n u.geometry ∷ ts) (tables_read most (suc n) us (omega arith))

same_learned : (n c d s b n' c' d' s' b' : ℕ) → n ≡ n' → c ≡ c' → d ≡ d' → s ≡ s' → b ≡ b' →
    ◌≡◌ {A = Learned} (record { number = n; cylinders = c; heads = d; sectors = s; blocks = b }) (record { number = n'; cylinders = c'; heads = d'; sectors = s'; blocks = b' })
same_learned n c d s b n' c' d' s' b' en ec ed es eb = rw (en, ec, ed, es, eb) refl

-- what is learned of one unit
one_learned : (n : ℕ) (u : DiscUnit) → Counted u → size_of u.geometry ≤ 256 ^ 6 →
    learned (unit_table n u.geometry) ≡ record { number = n; cylinders = u.geometry.cylinders; heads = u.geometry.heads; sectors = u.geometry.sectors; blocks = size_of u.geometry }
one_learned n u counts small =
    let g = u.geometry in
    let tracks : 1 * 1 ≤ g.cylinders * g.heads = mul-le 1 1 g.cylinders g.heads counts.cylinders.0 counts.heads.0 in
    let some : 1 * 1 ≤ size_of g = mul-le 1 1 (g.cylinders * g.heads) g.sectors tracks counts.sectors.0 in
    let cylinders : number (bytes_of 3 (g.cylinders - 1)) ≡ g.cylinders - 1 = number_of_bytes 3 (g.cylinders - 1) (omega (arith, counts.cylinders.1)) in
    let sectors : number (bytes_of 2 (g.sectors - 1)) ≡ g.sectors - 1 = number_of_bytes 2 (g.sectors - 1) (omega (arith, counts.sectors.1)) in
    let addresses : number (bytes_of 6 (size_of g - 1)) ≡ size_of g - 1 = number_of_bytes 6 (size_of g - 1) (omega arith) in
    same_learned _ _ _ _ _ n g.cylinders g.heads g.sectors (size_of g)
    (omega arith) (omega (arith, cylinders, counts.cylinders.0)) (omega (arith, counts.heads.0)) (omega (arith, sectors, counts.sectors.0)) (omega (arith, addresses, some))

-- and of all, where each is within its counts and none is too long
all_learned : (end n : ℕ) (us : List DiscUnit) → end ≤ 256 ^ 6 → list_all counted us ≡ true → list_all (inside end) us ≡ true →
    map learned (filter (λ table. type_in table == 4) (each n us)) ≡ known_from n us
all_learned end n [] reach counts within = refl
all_learned end n (u ∷ us) reach counts within =
    let c = and_parts (counted u) (list_all counted us) counts in
    let w = and_parts (inside end u) (list_all (inside end) us) within in
    let below : past u ≤ end = leb-true (past u) end w.0 in
    ap₂ (λ l ls. l ∷ ls) (one_learned n u (counted_from u c.0) (omega (arith, below, reach))) (all_learned end (suc n) us reach c.1 w.1)

no_controller : (n : ℕ) (us : List DiscUnit) → filter (λ table. type_in table == 3) (each n us) ≡ []
no_controller n [] = refl
no_controller n (u ∷ us) = no_controller (suc n) us

module _ (m : UnitMap) (host : ℕ) (rest : List ℕ) where
  abbrev message : List ℕ
  message = description m host ++ rest

  abbrev size : ℕ
  size = length (tables m host)

  -- the message's tables, as a reader takes them apart
  apart : tables_of message ≡ controller_table m.count host ∷ each 0 (listed m)
  unfolding description
  apart =
      let long = length_all m host in
      let units : length (listed m) ≡ m.count = length-take-le m.count m.units (omega (arith, m.few, m.full)) in
      let told : field 0 2 message ≡ size = number_of_bytes 2 size (omega (arith, long, m.few)) in
      let body : take size (tables m host ++ rest) ≡ tables m host = take_at (tables m host) rest size refl in
      let some : size ≡ suc (size - 1) = omega (arith, long) in
      ap (λ n. tables_in n (take n (tables m host ++ rest))) told
      ∙ ap (tables_in size) body
      ∙ ap (λ n. tables_in n (tables m host)) some
      ∙ ap (λ ts. controller_table m.count host ∷ ts) (tables_read (size - 1) 0 (listed m) (omega (arith, long, units)))

  pub read_back : ReadBack m host message
  read_back =
      let asked : 256 * 0 + host ≡ host = omega arith in
      record {
        units = ap (λ ts. map learned (filter (λ table. type_in table == 4) ts)) apart ∙ all_learned m.end 0 (listed m) (omega (arith, m.reachable)) m.counts m.within;
        asking = ap (λ ts. map (field 11 1) (filter (λ table. type_in table == 3) ts)) apart ∙ ap (λ ts. map (field 11 1) (controller_table m.count host ∷ ts)) (no_controller 0 (listed m)) ∙ ap (λ h. h ∷ []) asked;
      }
