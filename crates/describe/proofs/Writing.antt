-- The message, written part by part.
use Rattle.std.proofs.Common.{◌≡◌, ℕ, ◌+◌, ◌-◌, ◌*◌, ◌/◌, ◌%◌, ◌^◌, ◌<◌, ◌≤◌, true, false, List, [], ◌∷◌, ◌++◌, length, drop, refl, ap, ap₂, ◌∙◌, arith}
use borrow.Rule.Slice.PartMut.{put_mid}
use Rattle.std.proofs.lemmas.Bool.{le-leb, lt-leb}
use Rattle.std.proofs.lemmas.List.{append_assoc, length-append, length-take-le}
use Rattle.flex.specs.declared.unit_map.UnitMap.{UnitMap}
use Rattle.flex.specs.Maps.{listed}
use Rattle.describe.specs.Descriptions.{bytes_of, controller_table, unit_tables, terminator, tables, description, fits}
use Rattle.describe.proofs.Filling.{filled_more}
use Rattle.describe.proofs.Units.{length_tables}

pub two_bytes : (n : ℕ) → n / 256 % 256 ∷ n % 256 ∷ [] ≡ bytes_of 2 n
two_bytes n =
    let e : n ≡ n / 256 ^ 0 = omega arith in
    ap (λ k. n / 256 % 256 ∷ k % 256 ∷ []) e

module _ (m : UnitMap) (host : ℕ) where
  abbrev pub units : List ℕ
  units = unit_tables 0 (listed m)

  pub length_units : length units ≡ 38 * m.count
  length_units = length_tables 0 (listed m) ∙ ap (λ n. 38 * n) (length-take-le m.count m.units (omega (arith, m.few, m.full)))

  pub length_all : length (tables m host) ≡ 20 + 38 * m.count
  length_all =
      let c : length (controller_table m.count host) ≡ 14 = refl in
      let t : length terminator ≡ 6 = refl in
      let e = length-append (controller_table m.count host) (units ++ terminator) in
      let f = length-append units terminator in
      omega (arith, c, t, e, f, length_units)

  pub length_description : length (description m host) ≡ 22 + 38 * m.count
  unfolding description
  length_description =
      let e = length-append (bytes_of 2 (length (tables m host))) (tables m host) in
      let two : length (bytes_of 2 (length (tables m host))) ≡ 2 = refl in
      omega (arith, e, two, length_all)

  pub too_short : (buffer : List ℕ) (n : ℕ) → n ≡ m.count → length buffer < 16 + 38 * n + 6 → fits m host buffer ≡ false
  too_short buffer n e l = lt-leb (length (description m host)) (length buffer) (omega (arith, length_description))

  pub long_enough : (buffer : List ℕ) (n : ℕ) → n ≡ m.count → 16 + 38 * n + 6 ≤ length buffer → fits m host buffer ≡ true
  long_enough buffer n e l = le-leb (length (description m host)) (length buffer) (omega (arith, length_description, l))

  -- all parts are written, one after the other
  module _ (buffer head controller part last : List ℕ) (end : ℕ) (at_end : end ≡ 16 + 38 * m.count) (is_head : head ≡ bytes_of 2 (end + 6 - 2)) (is_controller : controller ≡ controller_table m.count host) (is_part : part ≡ units) (is_last : last ≡ terminator) where
    after_two : put_mid 2 (16 - 2) (head ++ drop 2 buffer) controller ≡ (head ++ controller) ++ drop 16 buffer
    after_two = filled_more head (head ++ drop 2 buffer) buffer controller 2 16 14 refl (ap length is_head) (ap length is_controller) refl

    after_units : put_mid 16 (end - 16) (put_mid 2 (16 - 2) (head ++ drop 2 buffer) controller) part ≡ ((head ++ controller) ++ part) ++ drop end buffer
    after_units =
        let l : length (head ++ controller) ≡ 16 = ap₂ (λ a b. length (a ++ b)) is_head is_controller in
        let n : length part ≡ 38 * m.count = ap length is_part ∙ length_units in
        filled_more (head ++ controller) _ buffer part 16 end (38 * m.count) after_two l n at_end

    pub all_written :
        put_mid end (end + 6 - end) (put_mid 16 (end - 16) (put_mid 2 (16 - 2) (head ++ drop 2 buffer) controller) part) last
        ≡ description m host ++ drop (length (description m host)) buffer
    unfolding description
    all_written =
        let n : length part ≡ 38 * m.count = ap length is_part ∙ length_units in
        let front : length (head ++ controller) ≡ 16 = ap₂ (λ a b. length (a ++ b)) is_head is_controller in
        let l : length ((head ++ controller) ++ part) ≡ end = omega (arith, length-append (head ++ controller) part, n, front, at_end) in
        let size : end + 6 - 2 ≡ length (tables m host) = omega (arith, length_all, at_end) in
        let parts : ((head ++ controller) ++ part) ++ last ≡ description m host =
        append_assoc (head ++ controller) part last
        ∙ append_assoc head controller (part ++ last)
        ∙ ap₂ (λ a b. a ++ b) (is_head ∙ ap (bytes_of 2) size) (ap₂ (λ a b. a ++ b) is_controller (ap₂ (λ a b. a ++ b) is_part is_last)) in
        let whole : end + 6 ≡ length (description m host) = omega (arith, length_description, at_end) in
        filled_more ((head ++ controller) ++ part) _ buffer last end (end + 6) 6 after_units l (ap length is_last) refl
        ∙ ap₂ (λ a b. a ++ drop b buffer) parts whole
