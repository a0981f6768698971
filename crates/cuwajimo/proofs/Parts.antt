-- Reading some words one after the other.
use Rattle.std.proofs.Common.{◌≡◌, ℕ, ◌+◌, ◌<◌, ◌≤◌, List, [], ◌++◌, length, get_or, drop, Some, None, Option, sym, refl, ap, ◌∙◌, append_assoc, append-nil, arith}
use Rattle.std.specs.Borrow.{Bor}
use Rattle.std.specs.Option.{option_map}
use Rattle.std.proofs.lemmas.List.{at_drop_more, at_drop_all, get_or-map, length-map}
use Rattle.std.proofs.lemmas.Option.{none-some, same_Some}
use Rattle.cuwajimo.specs.Lines.{texts}
use Rattle.cuwajimo.specs.Words.{parts_joined, all_parts}

-- What is read so far and what the words that are left stand for come to.
abbrev pub parts_on : (List ℕ → Option (List ℕ)) → List ℕ → List (List ℕ) → Option (List ℕ)
parts_on part_of so_far words = option_map (λ more. so_far ++ more) (all_parts part_of words)

pub appended : (so_far part : List ℕ) (o : Option (List ℕ)) → option_map (λ more. so_far ++ more) (option_map (λ more. part ++ more) o) ≡ option_map (λ more. (so_far ++ part) ++ more) o
appended so_far part None = refl
appended so_far part (Some more) = ap Some (sym (append_assoc so_far part more))

pub unmapped : (so_far : List ℕ) (o : Option (List ℕ)) → option_map (λ more. so_far ++ more) o ≡ None → o ≡ None
unmapped so_far None e = refl
unmapped so_far (Some more) e = absurd (none-some (so_far ++ more) (sym e))

unprefixed : (o : Option (List ℕ)) → option_map (λ more. [] ++ more) o ≡ o
unprefixed None = refl
unprefixed (Some more) = refl

module _ (part_of : List ℕ → Option (List ℕ)) (words : List (List ℕ)) where
  -- Nothing is read yet.
  pub parts_begin : parts_on part_of [] words ≡ all_parts part_of words
  parts_begin = unprefixed (all_parts part_of words)

  module _ (so_far : List ℕ) (i : ℕ) (invariant : parts_on part_of so_far (drop i words) ≡ all_parts part_of words) where
    -- One more word is read.
    pub parts_turn :
        (part so_far' : List ℕ) → i < length words → part_of (get_or words i []) ≡ Some part → so_far' ≡ so_far ++ part
        → parts_on part_of so_far' (drop (i + 1) words) ≡ all_parts part_of words
    parts_turn part so_far' within is after =
        ap (λ (s : List ℕ). parts_on part_of s (drop (i + 1) words)) after
        ∙ sym (appended so_far part (all_parts part_of (drop (i + 1) words)))
        ∙ ap (λ (o : Option (List ℕ)). option_map (λ more. so_far ++ more) (parts_joined o (all_parts part_of (drop (i + 1) words)))) (sym is)
        ∙ sym (at_drop_more (parts_on part_of so_far) words i [] within)
        ∙ invariant

    -- A word stands for nothing.
    pub parts_refused : i < length words → part_of (get_or words i []) ≡ None → all_parts part_of words ≡ None
    parts_refused within is =
        sym invariant
        ∙ at_drop_more (parts_on part_of so_far) words i [] within
        ∙ ap (λ (o : Option (List ℕ)). option_map (λ more. so_far ++ more) (parts_joined o (all_parts part_of (drop (i + 1) words)))) is

    -- All are read.
    pub parts_end : length words ≤ i → all_parts part_of words ≡ Some so_far
    parts_end past = sym invariant ∙ at_drop_all (parts_on part_of so_far) words i past ∙ ap Some (append-nil so_far)

-- The same of the words that references point to.
abbrev pub no_word : Bor (List ℕ)
no_word = record { ref_ptr = (0, 0); now = [] }

texts_within : (refs : List (Bor (List ℕ))) (i : ℕ) → i < length refs → i < length (texts refs)
texts_within refs i within = omega (arith, length-map refs (λ (w : Bor (List ℕ)). w.now))

module _ (part_of : List ℕ → Option (List ℕ)) (refs : List (Bor (List ℕ))) (so_far : List ℕ) (i : ℕ) (invariant : parts_on part_of so_far (drop i (texts refs)) ≡ all_parts part_of (texts refs)) where
  pub refs_turn :
      (part so_far' : List ℕ) → i < length refs → part_of (get_or refs i no_word).now ≡ Some part → so_far' ≡ so_far ++ part
      → parts_on part_of so_far' (drop (i + 1) (texts refs)) ≡ all_parts part_of (texts refs)
  refs_turn part so_far' within is after =
      parts_turn part_of (texts refs) so_far i invariant part so_far' (texts_within refs i within)
      (ap part_of (get_or-map (λ w. w.now) refs i no_word [] within) ∙ is) after

  pub refs_refused : i < length refs → part_of (get_or refs i no_word).now ≡ None → all_parts part_of (texts refs) ≡ None
  refs_refused within is =
      parts_refused part_of (texts refs) so_far i invariant (texts_within refs i within)
      (ap part_of (get_or-map (λ w. w.now) refs i no_word [] within) ∙ is)

  pub refs_end : length refs ≤ i → all_parts part_of (texts refs) ≡ Some so_far
  refs_end past = parts_end part_of (texts refs) so_far i invariant (omega (arith, length-map refs (λ (w : Bor (List ℕ)). w.now)))

-- What a word's bytes are, where adding them was no trouble.
pub hex_added : (before after : List ℕ) (o : Option (List ℕ)) → option_map (λ bytes. before ++ bytes) o ≡ Some after → (part : List ℕ) × (o ≡ Some part) × (after ≡ before ++ part)
hex_added before after None e = absurd (none-some after e)
hex_added before after (Some part) e = (part, refl, sym (same_Some (before ++ part) after e))
