-- The bytes that follow a code: numbers, the most significant byte first.
use Rattle.std.specs.Prelude.{ℕ, ◌+◌, ◌*◌, cond, List, fold, length, take, drop, Some, None, Option, nat_le}
use Rattle.flex.specs.declared.vector.Vector.{Vector}

-- The number that bytes spell.
abbrev pub number : List ℕ → ℕ
number bs = fold (λ high b. 256 * high + b) 0 bs

-- The number of the first n bytes; none where there are fewer.
abbrev pub number_in : ℕ → List ℕ → Option ℕ
number_in n bs = cond (nat_le n (length bs)) (Some (number (take n bs))) None

-- The vector that six bytes spell: three of cylinder, one of head and two of sector.
abbrev pub vector_of : List ℕ → Vector
vector_of bs = record { cylinder = number (take 3 bs); head = number (take 1 (drop 3 bs)); sector = number (take 2 (drop 4 bs)) }

-- The vector of the first six bytes; none where there are fewer.
abbrev pub vector_within : List ℕ → Option Vector
vector_within bs = cond (nat_le 6 (length bs)) (Some (vector_of bs)) None
