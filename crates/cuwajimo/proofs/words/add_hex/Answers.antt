use Rattle.std.proofs.Common.{◌≡◌, ℕ, ◌+◌, ◌*◌, ◌<◌, ◌≤◌, cond, List, [], ◌∷◌, ◌++◌, length, get_or, is_ok, Some, None, vec_items, sym, ap, ◌∙◌, subst, arith}
use Rattle.cuwajimo.specs.Words.{hex_digit, hex_bytes}
use Rattle.cuwajimo.proofs.Hexadecimal.{FitsHalf, digit_small, first_turn, second_turn, refused_letter, refused_half, read_all}
use Rattle.cuwajimo.proofs.Troubles.{blamed_for}
use Rattle.cuwajimo.proofs.words.add_hex.Goals as goal
use Rattle.cuwajimo.proofs.words.add_hex.Goals.{in-None, in-Some-high+in_ok-push-in-Some-high}

pub returns-in_default-clause-value : goal.returns-in_default-clause-value
returns-in_default-clause-value c =
    let xs = c.args.word.now in
    let e : c.as_bytes-letter-items.result.now ≡ xs = c.as_bytes-letter-items.ensures.value in
    let i = c.loop-letter.letter-index in
    let within : i < length xs = omega (arith, ap length e, c.loop-letter-test.true) in
    let none : hex_digit (get_or xs i 0) ≡ None = ap (λ (l : List ℕ). hex_digit (get_or l i 0)) (sym e) ∙ sym c.digit.ensures ∙ c.in_default.is in
    blamed_for c.about.result c.args.spot.line (hex_bytes xs ≡ None) c.about.ensures
    (refused_letter xs (vec_items c.args.bytes.now) (vec_items c.loop-letter.bytes) c.loop-letter.high i c.loop-letter.invariant.1 within none)

pub overflow_add-tens : goal.overflow_add-tens
overflow_add-tens c =
    let high : c.in-Some-high.tens < 16 = subst FitsHalf c.in-Some-high.is c.loop-letter.invariant.0 in
    let low : c.in-Some.low < 16 = digit_small (get_or c.as_bytes-letter-items.result.now c.loop-letter.letter-index 0) c.in-Some.low (sym c.digit.ensures ∙ c.in-Some.is) in
    omega arith

pub loop-letter-preserved : goal.loop-letter-preserved
loop-letter-preserved c =
    let xs = c.args.word.now in
    let e : c.as_bytes-letter-items.result.now ≡ xs = c.as_bytes-letter-items.ensures.value in
    let i = c.loop-letter.letter-index in
    let low = c.in-Some.low in
    let bytes = vec_items c.loop-letter.bytes in
    let within : i < length xs = omega (arith, ap length e, c.loop-letter-test.true) in
    let is : hex_digit (get_or xs i 0) ≡ Some low = ap (λ (l : List ℕ). hex_digit (get_or l i 0)) (sym e) ∙ sym c.digit.ensures ∙ c.in-Some.is in
    elim c.match-high.branch [
      | in-None w ↦
          first_turn xs i low _ within is bytes (vec_items c.match-high.bytes) c.loop-letter.high c.match-high.high c.loop-letter.invariant.1 w.in-None.is
          (ap vec_items w.bytes-is) w.high-is
      | in-Some-high+in_ok-push-in-Some-high w ↦
          let more : vec_items c.match-high.bytes ≡ bytes ++ (16 * w.in-Some-high.tens + low) ∷ [] =
          ap vec_items w.bytes-is ∙ w.push.ensures.items ∙ ap (λ r. cond (is_ok r) (bytes ++ (16 * w.in-Some-high.tens + low) ∷ []) bytes) w.in_ok-push-in-Some-high.was in
          second_turn xs i low _ within is bytes (vec_items c.match-high.bytes) c.loop-letter.high c.match-high.high w.in-Some-high.tens c.loop-letter.invariant.1
          w.in-Some-high.is more w.high-is
    ]

pub returns-in-None-high-clause-value : goal.returns-in-None-high-clause-value
returns-in-None-high-clause-value c =
    let xs = c.args.word.now in
    let past : length xs ≤ c.loop-letter.letter-index = omega (arith, ap length c.as_bytes-letter-items.ensures.value, c.loop-letter-test.false) in
    read_all xs (vec_items c.args.bytes.now) (vec_items c.loop-letter.bytes) c.loop-letter.high c.loop-letter.letter-index c.loop-letter.invariant.1 past c.in-None-high.is

pub returns-in-Some-high-2-clause-value : goal.returns-in-Some-high-2-clause-value
returns-in-Some-high-2-clause-value c =
    let xs = c.args.word.now in
    let past : length xs ≤ c.loop-letter.letter-index = omega (arith, ap length c.as_bytes-letter-items.ensures.value, c.loop-letter-test.false) in
    blamed_for c.about-in-Some-high-2.result c.args.spot.line (hex_bytes xs ≡ None) c.about-in-Some-high-2.ensures
    (refused_half xs (vec_items c.args.bytes.now) (vec_items c.loop-letter.bytes) c.loop-letter.high c.loop-letter.letter-index c.loop-letter.invariant.1 c.in-Some-high-2.field-0 past c.in-Some-high-2.is)
