-- What a master means: memory that is only read, with its blocks one after the other.
use Rattle.std.specs.Prelude.{ℕ, ◌*◌, ◌/◌, ◌%◌, Bool, cond, ◌&&◌, List, length, ◌==◌, nat_le}
use Rattle.store.specs.declared.fault.Protection.TheVariants as protections
use Rattle.store.specs.Blocks.{Block, sound}
use Rattle.image.specs.Memory.{part}
use Rattle.store.specs.Counts.{most_blocks}
use Rattle.image.specs.Images.{blocks_by}
use Rattle.master.specs.declared.master.Master.{Master}

-- A length fits when it is whole blocks, no more than a store may have.
abbrev pub master_fits : ℕ → Bool
master_fits bytes = bytes % 256 == 0 && nat_le (bytes / 256) most_blocks

-- How many blocks memory of this length has: where it does not fit, none.
abbrev pub master_size : ℕ → ℕ
master_size bytes = cond (master_fits bytes) (bytes / 256) 0

-- Block b is the 256 bytes from byte 256 x b on, sound and protected.
abbrev pub master_block : List ℕ → ℕ → Block
master_block bytes b = record { contents = sound (part bytes (256 * b) 256); protection = protections.Protected }

-- All blocks of the memory.
abbrev pub master_blocks : List ℕ → List Block
master_blocks bytes = blocks_by (master_size (length bytes)) (master_block bytes)

-- What a master means, from the memory that it shows.
abbrev pub master_meaning : Master → List Block
master_meaning master = master_blocks master.bytes.now
