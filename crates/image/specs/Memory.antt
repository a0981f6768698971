-- Lent memory as a list of bytes: a part of it, and a part laid over it.
use Rattle.std.specs.Prelude.{ℕ, ◌+◌, List, ◌++◌, length, take, drop}

-- The n bytes from byte `at` on.
abbrev pub part : List ℕ → ℕ → ℕ → List ℕ
part bytes at n = take n (drop at bytes)

-- The memory with `new` in the place of as many bytes from byte `at` on.
abbrev pub laid : List ℕ → ℕ → List ℕ → List ℕ
laid bytes at new = take at bytes ++ (new ++ drop (at + length new) bytes)
