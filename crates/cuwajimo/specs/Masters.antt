-- The memory of a master.
use Rattle.std.specs.Prelude.{◌≡◌, ℕ, zero, suc, cond, List, [], ◌++◌, Some, None, Option, nat_le}
use Rattle.std.specs.Option.{option_map}
use Rattle.store.specs.Blocks.{Block}
use Rattle.store.specs.Counts.{most_blocks}
use Rattle.master.specs.Masters.{master_blocks, master_meaning}
use Rattle.master.specs.declared.master.Master.{Master}
use Rattle.cuwajimo.specs.declared.plan.MasterSource.{MasterSource}
use Rattle.cuwajimo.specs.declared.plan.MasterSource.TheVariants as masters
use Rattle.cuwajimo.specs.Bytes.{pattern_block}

-- So many blocks in pattern p, one after the other: all but the last, and the last.
abbrev pub pattern_bytes : ℕ → ℕ → List ℕ
pattern_bytes p zero = []
pattern_bytes p (suc n) = pattern_bytes p n ++ pattern_block p n

-- Of more blocks than a master may have nothing is made.
abbrev pub allotted : ℕ → ℕ
allotted n = cond (nat_le n most_blocks) n 0

-- The memory that a master is brought into, if there is a line of one: the blocks of its pattern; of a file any bytes.
abbrev pub MasterLoaded : Option MasterSource → Option (List ℕ) → Type 0
MasterLoaded None None = Unit {0}
MasterLoaded None (Some bytes) = ⊥
MasterLoaded (Some source) None = ⊥
MasterLoaded (Some (masters.Pattern n p)) (Some bytes) = bytes ≡ pattern_bytes p (allotted n)
MasterLoaded (Some (masters.File file)) (Some bytes) = Unit {0}

-- The blocks that it shows.
abbrev pub shown_by : Option (List ℕ) → Option (List Block)
shown_by memory = option_map master_blocks memory

-- What a master means, if there is one.
abbrev pub meant_by : Option Master → Option (List Block)
meant_by master = option_map master_meaning master
