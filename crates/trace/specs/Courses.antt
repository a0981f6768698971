-- What a trace comes to: its entries one after the other, and the output that they write.
use Rattle.std.specs.Prelude.{ℕ, zero, suc, ◌+◌, Bool, true, false, cond, List, [], ◌∷◌, ◌++◌, length, take, drop, Some, None, Option, nat_le}
use Rattle.trace.specs.declared.ending.Ending.{Ending}
use Rattle.trace.specs.declared.ending.How.{How}
use Rattle.trace.specs.declared.ending.How.TheVariants as hows
use Rattle.trace.specs.Answers.{answer_bytes}
use Rattle.trace.specs.Entries.{Entry, entry_in, buffer_size}
use Rattle.desk.specs.Worlds.{World, Made}
use Rattle.trace.specs.Makings.{made}

-- ---- Reading: the entries up to the end, or up to one that is not whole or of no kind.

-- The entries that some bytes are read to, and whether they go up to the end.
pub record Reading : Type 0 where
  pub entries : List Entry
  pub whole : Bool

-- An entry comes before those that the bytes after it are read to; where there is none, nothing more is read, and the end is not reached.
abbrev pub read_next : (List ℕ → Reading) → Option (Entry × List ℕ) → Reading
read_next others None = record { entries = []; whole = false }
read_next others (Some p) = record { entries = p.0 ∷ (others p.1).entries; whole = (others p.1).whole }

-- The entries of some bytes in n turns. Each entry has at least one byte, so as many turns as there are bytes are enough.
abbrev pub read : ℕ → List ℕ → Reading
read n [] = record { entries = []; whole = true }
read zero (byte ∷ bytes) = record { entries = []; whole = false }
read (suc n) (byte ∷ bytes) = read_next (λ others. read n others) (entry_in (byte ∷ bytes))

-- All entries of some bytes, up to the end, or up to one that is not whole or of no kind.
unfoldable pub reading : List ℕ → Reading
reading bytes = read (length bytes) bytes

-- ---- One entry: sixteen bytes of answer, and behind them the buffer, which is what stands there in the output.

-- How many bytes of the output an entry takes: sixteen of answer, and those of its buffer.
abbrev pub room_for : Entry → ℕ
room_for e = 16 + buffer_size e

-- The output has room for the answer and the buffer of an entry.
abbrev pub has_room : Entry → List ℕ → Bool
has_room e output = nat_le (room_for e) (length output)

-- What an entry comes to: its buffer is what stands in the output behind the sixteen bytes of its answer.
abbrev pub made_in : World → Entry → List ℕ → Made
made_in w e output = made w e (take (buffer_size e) (drop 16 output))

-- The output after an entry: the bytes of its answer, the buffer as it is left, and the rest.
abbrev pub written_in : Made → List ℕ → List ℕ
written_in m rest = answer_bytes m.answer ++ (m.buffer ++ rest)

-- ---- All of them.

-- The world after the entries, the output as it is left, how many bytes of it were written, and how it ended.
pub record Course : Type 0 where
  pub world : World
  pub output : List ℕ
  pub written : ℕ
  pub how : How

-- Here it ends: the world and the output stay, and no more bytes are written.
abbrev pub ended_so : How → World → List ℕ → Course
ended_so how w output = record { world = w; output = output; written = 0; how = how }

-- An entry before the course of those after it: what it writes stands before their output, and its bytes are counted with theirs.
abbrev pub after_entry : Made → ℕ → Course → Course
after_entry m room c = record { world = c.world; output = written_in m c.output; written = room + c.written; how = c.how }

-- The entries one after the other, up to one that the output has no room for; after the last every call was made, or what follows is no call.
abbrev pub played : World → List Entry → Bool → List ℕ → Course
played w [] whole output = ended_so (cond whole hows.Whole hows.NoCall) w output
played w (e ∷ es) whole output =
    cond (has_room e output)
    (after_entry (made_in w e output) (room_for e) (played (made_in w e output).world es whole (drop (room_for e) output)))
    (ended_so hows.NoRoom w output)

-- The calls of a trace, over a device with its tickets and an output.
unfoldable pub course : World → List ℕ → List ℕ → Course
course w calls output = played w (reading calls).entries (reading calls).whole output

-- What the code hands over of one.
abbrev pub runs_to : World → List ℕ → Ending → Course
runs_to w output ending = record { world = w; output = output; written = ending.written; how = ending.how }
