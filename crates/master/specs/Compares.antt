-- The first block by which whoever reads two stores tells them apart.
use Rattle.std.specs.Prelude.{◌≡◌, ℕ, suc, ◌<◌, Bool, true, false, cond, ◌↔◌, List, [], ◌∷◌, length, Some, None, Ok, Err, Option, Result}
use Rattle.std.specs.Option.{option_map}
use Rattle.std.specs.Str.{bytes_eq}
use Rattle.store.specs.declared.fault.StoreFault.{StoreFault}
use Rattle.store.specs.Blocks.{Block, Contents, sound, damaged}
use Rattle.store.specs.Laws.{ReadsAlike}

-- What a read tells: the bytes that it left in its buffer, or its fault.
abbrev pub read_out : Result (Unit {0}) StoreFault → List ℕ → Result (List ℕ) StoreFault
read_out (Ok x) bytes = Ok bytes
read_out (Err f) bytes = Err f

-- Whether two blocks have the same bytes, or are both damaged.
abbrev pub same_contents : Contents → Contents → Bool
same_contents (sound bytes) (sound others) = bytes_eq bytes others
same_contents (sound bytes) damaged = false
same_contents damaged (sound others) = false
same_contents damaged damaged = true

-- The first block that is in one only, is damaged in one only, or has other bytes.
abbrev pub first_unlike : List Block → List Block → Option ℕ
first_unlike [] [] = None
first_unlike [] (y ∷ ys) = Some 0
first_unlike (x ∷ xs) [] = Some 0
first_unlike (x ∷ xs) (y ∷ ys) = cond (same_contents x.contents y.contents) (option_map (λ b. suc b) (first_unlike xs ys)) (Some 0)

-- Whoever reads a block below b gets the same from both, and of block b not everyone does.
pub record FirstUnlike (xs ys : List Block) (b : ℕ) : Type 0 where
  pub below : (i : ℕ) → i < b → ReadsAlike xs ys i
  pub here : ¬ (ReadsAlike xs ys b)

-- There are as many blocks in both, and whoever reads any of them gets the same from both.
pub record AllAlike (xs ys : List Block) : Type 0 where
  pub count : length xs ≡ length ys
  pub blocks : (i : ℕ) → ReadsAlike xs ys i

-- What a comparison says: a block just where it is the first unlike one, none just where all are alike, and the same from either side.
pub record CompareLaw (xs ys : List Block) (answer : Option ℕ) : Type 0 where
  pub found : (b : ℕ) → (answer ≡ Some b) ↔ FirstUnlike xs ys b
  pub none : (answer ≡ None) ↔ AllAlike xs ys
  pub turned : first_unlike ys xs ≡ answer
