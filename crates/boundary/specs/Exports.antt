-- What the boundary's functions return.
use Rattle.std.specs.Prelude.{◌≡◌, ℕ, ◌^◌, true, List, Some, None, Option}
use Rattle.store.specs.Blocks.{Block}
use Rattle.image.specs.declared.refusal.Refusal.{Refusal}
use Rattle.layer.specs.Guards.{guard}
use Rattle.layer.specs.Windows.{window}
use Rattle.master.specs.Compares.{first_unlike}
use Rattle.trace.specs.declared.ending.Ending.{Ending}
use Rattle.trace.specs.Endings.{packed, unplayed}
use Rattle.trace.specs.Heads.{Heading}
use Rattle.trace.specs.Plays.{PlaysAll, tells}

-- The number tells how a trace ended, over memory that is refused or holds the first blocks and afterwards the second, with the output before and after. Where nothing was played the memory is unchanged.
pub record Returns (head : Option (Heading × List ℕ)) (refusal : Option Refusal) (blocks left : List Block) (Unchanged : Type 0) (before after : List ℕ) (number : ℕ) : Type 0 where
  pub ending : Ending
  pub plays : PlaysAll head refusal blocks before (tells left after ending)
  pub early : unplayed ending.how ≡ true → Unchanged
  pub is : number ≡ packed ending.how ending.written

-- The blocks that a window on one run and a write guard on another show of those below.
abbrev pub piled : ℕ → ℕ → ℕ → ℕ → List Block → List Block
piled window-first window-count guard-first guard-count blocks =
    guard (window blocks (record { first = window-first; count = window-count })) (record { first = guard-first; count = guard-count })

-- The number that tells a block, or that none differs: 2^32, which no block has.
abbrev pub block_number : Option ℕ → ℕ
block_number None = 2 ^ 32
block_number (Some block) = block

-- What a comparison returns of one run of these blocks with one run of a master's.
abbrev pub compared : List Block → ℕ → ℕ → List Block → ℕ → ℕ → ℕ
compared blocks first count masters master-first master-count =
    block_number (first_unlike (window blocks (record { first = first; count = count })) (window masters (record { first = master-first; count = master-count })))
