-- Numbers of decimal digits, as `parse` reads them: no definition, but the law that each width of number owes to the trait
-- `Numeral`, with its proof.
use Rattle.std.proofs.Common.{◌≡◌, ℕ, ◌^◌, ◌<◌, Bool, true, false, cond, ◌&&◌, ltb, List, length, is_ok, is_some, Some, None, Ok, Err, Option, Result, sym, refl, ap, ◌∙◌, subst, rules}
use Rattle.std.specs.Str.Parse.{ParsesUnsigned, digits_value, without_leading_plus}
use Rattle.std.specs.Option.{option_map}
use Rattle.std.specs.Result.{result_ok}
use Rattle.std.specs.Str.{all_ascii_digits}
use Rattle.std.proofs.lemmas.Str.Parse.{IsNumeralModel, numerals_by_fold}
use Rattle.std.proofs.lemmas.Bool.{false≢true, lt-ltb, ltb-true}
use Rattle.cuwajimo.specs.Words.{value_after, number_below}

-- What is all decimal digits is the same here as for `parse`, and so is the number that they write.
decimal_digits : IsNumeralModel (λ ds. all_ascii_digits ds ≡ true) (value_after 0)
decimal_digits = numerals_by_fold _ (search rules) value_after (search rules)

module _ (k : ℕ) (word : List ℕ) where
  abbrev digits : List ℕ
  digits = without_leading_plus word

  abbrev value : ℕ
  value = value_after 0 digits

  -- What `parse` converts a word to is the number that its digits write, if it is one and below the limit.
  converted : {E : Type 0} (r : Result ℕ E) → ParsesUnsigned k 10 word r → (some all small : Bool) →
      ltb 0 (length digits) ≡ some → all_ascii_digits digits ≡ all → ltb value (2 ^ k) ≡ small →
      result_ok r ≡ cond (some && all && small) (Some value) None
  converted (Ok n) h true true true p q s = ap Some (h.1 ∙ sym (decimal_digits.same digits (decimal_digits.to digits q)))
  converted (Ok n) h false all small p q s = absurd (false≢true (sym p ∙ lt-ltb 0 (length digits) h.0.0.0))
  converted (Ok n) h true false small p q s = absurd (false≢true (sym q ∙ decimal_digits.from digits h.0.0.1))
  converted (Ok n) h true true false p q s =
      let v : digits_value 10 digits ≡ value = sym (decimal_digits.same digits (decimal_digits.to digits q)) in
      absurd (false≢true (sym s ∙ lt-ltb value (2 ^ k) (subst (λ (i : ℕ). i < 2 ^ k) v h.0.1)))
  converted (Err x) h true true true p q s =
      let v : value ≡ digits_value 10 digits = decimal_digits.same digits (decimal_digits.to digits q) in
      absurd (h ((ltb-true 0 (length digits) p, decimal_digits.to digits q), subst (λ (i : ℕ). i < 2 ^ k) v (ltb-true value (2 ^ k) s)))
  converted (Err x) h true true false p q s = refl
  converted (Err x) h true false small p q s = refl
  converted (Err x) h false all small p q s = refl

  pub parsed : {E : Type 0} (r : Result ℕ E) → ParsesUnsigned k 10 word r → result_ok r ≡ number_below (2 ^ k) word
  parsed r h = converted r h (ltb 0 (length digits)) (all_ascii_digits digits) (ltb value (2 ^ k)) refl refl refl

  is_read : {E : Type 0} (r : Result ℕ E) → is_ok r ≡ is_some (result_ok r)
  is_read (Ok n) = refl
  is_read (Err x) = refl

  pub is_parsed : {E : Type 0} (r : Result ℕ E) → ParsesUnsigned k 10 word r → is_ok r ≡ is_some (number_below (2 ^ k) word)
  is_parsed r h = is_read r ∙ ap is_some (parsed r h)

-- What may be missing stays the same where nothing is done to it.
kept : {X : Type 0} (o : Option X) → option_map (λ x. x) o ≡ o
kept None = refl
kept (Some x) = refl

-- So it is of the numbers of each width: what `parse` converts a word to is the number that it writes below the width's limit, if any.
pub read_below : (k : ℕ) (word : List ℕ) {E : Type 0} (r : Result ℕ E) → ParsesUnsigned k 10 word r → option_map (λ n. n) (result_ok r) ≡ number_below (2 ^ k) word
read_below k word r h = kept (result_ok r) ∙ parsed k word r h
