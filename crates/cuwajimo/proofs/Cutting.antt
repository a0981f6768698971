-- The words that a text is cut to, and one or some of them.
use Rattle.std.proofs.Common.{◌≡◌, ℕ, ◌-◌, ◌≤◌, List, [], ◌∷◌, length, drop, Some, None, Option, sym, ap, ◌∙◌, subst, arith, length-drop}
use Rattle.std.specs.Borrow.{Bor}
use Rattle.std.specs.Iterator.{Yields}
use Rattle.std.specs.Option.{unwrap_or}
use Rattle.std.specs.Slice.{IsGetRangeResult}
use Rattle.std.specs.Str.Iter.{split_whitespace_rest, split_whitespace_steps}
use Rattle.std.specs.declared.str.SplitWhitespace.{SplitWhitespace}
use Rattle.std.proofs.lemmas.List.{take_all, drop_all, drop-map}
use Rattle.cuwajimo.specs.Lines.{AreWords, texts}

pub words_cut :
    (s : SplitWhitespace) (xs : List (Bor (List ℕ))) (t u : SplitWhitespace) → Yields split_whitespace_steps s xs t → split_whitespace_steps t None u
    → AreWords (split_whitespace_rest s) (texts xs)
words_cut s [] t u same last = subst (λ (v : SplitWhitespace). AreWords (split_whitespace_rest v) []) (sym same) last.1
words_cut s (x ∷ xs) t u gave last =
    let w = gave.1 in
    (w.0, split_whitespace_rest gave.0, w.1, w.2, w.3, w.4, w.5, words_cut gave.0 xs t u gave.2 last)

-- What is left of a list behind its first n items.
rest_got : {X : Type 0} (xs : List X) (n : ℕ) (r : Option (Bor (List X))) (none : Bor (List X)) → IsGetRangeResult xs n (length xs) r → none.now ≡ [] → (unwrap_or r none).now ≡ drop n xs
rest_got xs n None none h empty =
    let past : length xs ≤ n = omega (arith, h.0) in
    empty ∙ sym (drop_all n xs past)
rest_got xs n (Some x) none h empty = h.0.2 ∙ take_all (length xs - n) (drop n xs) (omega (arith, length-drop n xs))

-- The same of the words that references point to.
pub words_got :
    (words : List (Bor (List ℕ))) (n : ℕ) (r : Option (Bor (List (Bor (List ℕ))))) (none w : Bor (List (Bor (List ℕ)))) → IsGetRangeResult words n (length words) r
    → none.now ≡ [] → w ≡ unwrap_or r none → texts w.now ≡ drop n (texts words)
words_got words n r none w at empty is =
    ap (λ (v : Bor (List (Bor (List ℕ)))). texts v.now) is ∙ ap texts (rest_got words n r none at empty) ∙ sym (drop-map (λ w. w.now) n words)
