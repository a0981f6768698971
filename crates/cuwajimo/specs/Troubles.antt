-- What ends a run.
use Rattle.std.specs.Prelude.{◌≡◌, ℕ, Ok, Err, Result}
use Rattle.cuwajimo.specs.declared.trouble.Trouble.{Trouble}
use Rattle.cuwajimo.specs.declared.trouble.Trouble.TheVariants.{Line, Script, Io, Usage, Memory}

-- The trouble is with this line of the script, or there was no memory to say so.
abbrev pub Blames : ℕ → Trouble → Type 0
Blames line (Line l what) = l ≡ line
Blames line (Script name e) = ⊥
Blames line (Io e) = ⊥
Blames line Usage = ⊥
Blames line Memory = Unit {0}

-- A refusal blames the line.
abbrev pub Blamed : {X : Type 0} → ℕ → Result X Trouble → Type 0
Blamed line (Ok x) = Unit {0}
Blamed line (Err e) = Blames line e

-- A trouble with a line comes from this; want of memory may always come, and no other.
abbrev pub IfLine : Trouble → Type 0 → Type 0
IfLine (Line l what) P = P
IfLine (Script name e) P = ⊥
IfLine (Io e) P = ⊥
IfLine Usage P = ⊥
IfLine Memory P = Unit {0}

-- Something cannot be printed.
abbrev pub CannotPrint : Trouble → Type 0
CannotPrint (Line l what) = ⊥
CannotPrint (Script name e) = ⊥
CannotPrint (Io e) = Unit {0}
CannotPrint Usage = ⊥
CannotPrint Memory = ⊥

-- Or there is no memory for a buffer.
abbrev pub CannotGoOn : Trouble → Type 0
CannotGoOn (Line l what) = ⊥
CannotGoOn (Script name e) = ⊥
CannotGoOn (Io e) = Unit {0}
CannotGoOn Usage = ⊥
CannotGoOn Memory = Unit {0}
