-- The lines of a script and the words of a line, as lists of bytes.
use Rattle.std.specs.Prelude.{◌≡◌, ℕ, ◌<◌, cond, List, [], ◌∷◌, ◌++◌, map, length, ◌==◌}
use Rattle.std.specs.Borrow.{Bor}
use Rattle.std.specs.Char.{is_whitespace, is_not_whitespace}
use Rattle.std.specs.Str.{NoCharPasses, EmptyOrStartsWithPassing}
use Rattle.cuwajimo.specs.declared.line.Line.{Line}

-- What a line says: all before the first '#', which is byte 35.
abbrev pub before_comment : List ℕ → List ℕ
before_comment [] = []
before_comment (c ∷ cs) = cond (c == 35) [] (c ∷ before_comment cs)

-- The words of a text, from its front on: white space, then letters other than white space, one or more, up to its end or the next
-- white space. Behind the last word is nothing but white space.
abbrev pub AreWords : List ℕ → List (List ℕ) → Type 0
AreWords text [] = NoCharPasses is_not_whitespace text
AreWords text (word ∷ words) =
    (gap : List ℕ) × (rest : List ℕ) × (text ≡ gap ++ (word ++ rest)) × (0 < length word)
    × NoCharPasses is_not_whitespace gap × NoCharPasses is_whitespace word × ((more : List ℕ) × EmptyOrStartsWithPassing is_whitespace rest more)
    × AreWords rest words

-- What some references to texts point to.
abbrev pub texts : List (Bor (List ℕ)) → List (List ℕ)
texts words = map (λ w. w.now) words

-- The words of a line.
abbrev pub line_words : Line → List (List ℕ)
line_words line = texts line.words.now
