-- A trace played over a store: from power on to power off.
use Rattle.std.specs.Prelude.{◌≡◌, ℕ, ◌-◌, ◌^◌, min, true, List, ◌++◌, length, take, drop, Some, None, Ok, Err, Option, Result}
use Rattle.store.specs.Blocks.{Block}
use Rattle.image.specs.declared.refusal.Refusal.{Refusal}
use Rattle.flex.specs.declared.status.Status.{Status}
use Rattle.flex.specs.declared.unit_map.UnitMap.{UnitMap}
use Rattle.flex.specs.Maps.{Makes}
use Rattle.trace.specs.declared.ending.Ending.{Ending}
use Rattle.trace.specs.declared.ending.How.{How}
use Rattle.trace.specs.declared.ending.How.TheVariants as hows
use Rattle.trace.specs.Courses.{Course, course}
use Rattle.trace.specs.Endings.{unplayed}
use Rattle.trace.specs.Heads.{Heading}
use Rattle.desk.specs.Worlds.{at_start, at_end}

-- The blocks that the store means afterwards, the output as it is left, how many bytes of it were written, and how it ended.
pub record Outcome : Type 0 where
  pub blocks : List Block
  pub output : List ℕ
  pub written : ℕ
  pub how : How

-- What the code hands over of one.
abbrev pub tells : List Block → List ℕ → Ending → Outcome
tells blocks output ending = record { blocks = blocks; output = output; written = ending.written; how = ending.how }

-- Of an output the first 2 ^ 56 - 1 bytes are used, or all of fewer.
abbrev pub used : List ℕ → ℕ
used output = min (length output) (2 ^ 56 - 1)

-- The outcome of a course: the blocks after the tickets that are still open were cancelled, and the output with its unused part behind.
abbrev pub over : Course → List ℕ → Outcome
over c unused = record { blocks = (at_end c.world).blocks; output = c.output ++ unused; written = c.written; how = c.how }

-- Before a device is built, a refusal does nothing.
abbrev pub refused : How → List Block → List ℕ → Outcome
refused how blocks output = record { blocks = blocks; output = output; written = 0; how = how }

-- With a map, the course of the calls on a device powered on over the blocks, in the used part of the output; without one, a refusal.
abbrev pub outcome : Result UnitMap Status → ℕ → List Block → List ℕ → List ℕ → Outcome
outcome (Ok map) number blocks calls output = over (course (at_start number map blocks) calls (take (used output) output)) (drop (used output) output)
outcome (Err status) number blocks calls output = refused hows.NoMap blocks output

-- A head and calls, played over a store of these blocks: it comes to the outcome of the map that the head's units make, if they make one.
pub record Plays (h : Heading) (calls : List ℕ) (blocks : List Block) (output : List ℕ) (o : Outcome) : Type 0 where
  pub map : Result UnitMap Status
  pub made : Makes h.units h.end map
  pub is : o ≡ outcome map h.device blocks calls output

-- A whole trace, over a store that is refused or means these blocks: the head is looked for first, then the refusal, then the map.
abbrev pub PlaysAll : Option (Heading × List ℕ) → Option Refusal → List Block → List ℕ → Outcome → Type 0
PlaysAll None refusal blocks output o = o ≡ refused hows.NoHead blocks output
PlaysAll (Some p) (Some refusal) blocks output o = o ≡ refused hows.NoImage blocks output
PlaysAll (Some p) None blocks output o = Plays p.0 p.1 blocks output o

-- Why nothing is played: over a store of any blocks, and with any output, the trace comes to this refusal.
pub record IsRefused (head : Option (Heading × List ℕ)) (refusal : Option Refusal) (how : How) : Type 0 where
  pub comes : (blocks : List Block) (output : List ℕ) → PlaysAll head refusal blocks output (refused how blocks output)
  pub early : unplayed how ≡ true
