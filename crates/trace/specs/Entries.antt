-- The entries of a trace: its calls, with all that each is given.
use Rattle.std.specs.Prelude.{ℕ, cond, List, [], ◌∷◌, Some, None, Option, ◌==◌, nat_le}
use Rattle.std.specs.Option.{option_map}
use Rattle.trace.specs.declared.call.Call.{Call}
use Rattle.trace.specs.declared.call.Call.TheVariants as calls
use Rattle.trace.specs.declared.filling.Filling.{Filling}
use Rattle.trace.specs.Reading.{◌>>=◌, split, u16_in, u32_in}

-- The buffer that a call lends: how many bytes it has, and those that its front is given.
pub record Lent : Type 0 where
  pub size : ℕ
  pub given : List ℕ

-- Each entry but the last kind names its host.
pub data Entry : Type 0 where
  command : ℕ → List ℕ → Entry
  segment : ℕ → Lent → Entry
  report : ℕ → Lent → Entry
  cancel : ℕ → Entry
  clear : ℕ → Entry
  notice : ℕ → Entry
  fault : ℕ → Entry
  parameters : ℕ → Entry
  locks : ℕ → Entry
  activity : Entry

-- ---- How they are written.

-- A message: two bytes that tell its length, and its bytes.
abbrev pub message_in : List ℕ → Option (List ℕ × List ℕ)
message_in bytes = do
  n ← u16_in bytes
  split n.0 n.1

-- A buffer: four bytes that tell how many it has, four that tell how many are given, at most as many, and these.
abbrev pub lent_in : List ℕ → Option (Lent × List ℕ)
lent_in bytes = do
  size ← u32_in bytes
  count ← u32_in size.1
  given ← cond (nat_le count.0 size.0) (split count.0 count.1) None
  Some (record { size = size.0; given = given.0 }, given.1)

-- An entry begins with a byte for its kind and one for its host.
abbrev pub entry_by : ℕ → ℕ → List ℕ → Option (Entry × List ℕ)
entry_by kind host rest =
    cond (kind == 0)
    (option_map (λ m. (command host m.0, m.1)) (message_in rest))
    (cond (kind == 1)
    (option_map (λ b. (segment host b.0, b.1)) (lent_in rest))
    (cond (kind == 2)
    (option_map (λ b. (report host b.0, b.1)) (lent_in rest))
    (cond (kind == 3)
    (Some (cancel host, rest))
    (cond (kind == 4)
    (Some (clear host, rest))
    (cond (kind == 5)
    (Some (notice host, rest))
    (cond (kind == 6)
    (Some (fault host, rest))
    (cond (kind == 7)
    (Some (parameters host, rest))
    (cond (kind == 8) (Some (locks host, rest)) (cond (kind == 9) (Some (activity, rest)) None)))))))))

-- The first entry, and the bytes after it; none where it is not whole, or of no kind.
abbrev pub entry_in : List ℕ → Option (Entry × List ℕ)
entry_in [] = None
entry_in (kind ∷ []) = None
entry_in (kind ∷ host ∷ rest) = entry_by kind host rest

-- ---- What the code holds of them.

-- The buffer that a filling in the code stands for: its size, and the bytes that its front is given.
abbrev pub lent : Filling → Lent
lent filling = record { size = filling.size; given = filling.given.now }

-- The entry that a call in the code stands for, with all that it is given.
abbrev pub entry : Call → Entry
entry (calls.Command host message) = command host message.now
entry (calls.Segment host filling) = segment host (lent filling)
entry (calls.Report host filling) = report host (lent filling)
entry (calls.Cancel host) = cancel host
entry (calls.Clear host) = clear host
entry (calls.Notice host) = notice host
entry (calls.Fault host) = fault host
entry (calls.Parameters host) = parameters host
entry (calls.Locks host) = locks host
entry calls.Activity = activity

-- How many bytes the buffer has; an entry that lends none has none.
abbrev pub buffer_size : Entry → ℕ
buffer_size (command host message) = 0
buffer_size (segment host buffer) = buffer.size
buffer_size (report host buffer) = buffer.size
buffer_size (cancel host) = 0
buffer_size (clear host) = 0
buffer_size (notice host) = 0
buffer_size (fault host) = 0
buffer_size (parameters host) = 0
buffer_size (locks host) = 0
buffer_size activity = 0
