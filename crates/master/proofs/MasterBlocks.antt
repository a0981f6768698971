-- The blocks of a master, by its memory.
use Rattle.std.proofs.Common.{◌≡◌, ℕ, ◌+◌, ◌*◌, ◌<◌, ◌≤◌, false, List, length, arith}
use Rattle.store.specs.declared.fault.Protection.TheVariants as protections
use Rattle.store.specs.Blocks.{read_of, read_answer, buffer_of, read_buffer}
use Rattle.image.specs.Memory.{part}
use Rattle.image.specs.Images.{asked}
use Rattle.image.specs.Lawful.{length_numbered}
use Rattle.image.proofs.Calls.{then_answer, then_leaves, reads_answer, reads_buffer}
use Rattle.master.specs.Masters.{master_size, master_block, master_blocks}
use Rattle.master.specs.Sized.{inside_master}

-- a block that is there has its bytes in the memory
pub in_memory : (n b : ℕ) → b < master_size n → 256 * b + 256 ≤ n
in_memory n b h = omega (arith, inside_master n)

module _ (bytes : List ℕ) where
  abbrev size : ℕ
  size = master_size (length bytes)

  pub length_master : length (master_blocks bytes) ≡ size
  length_master = length_numbered size (master_block bytes)

  -- what a read answers and leaves
  pub master_reads : (b : ℕ) (buffer : List ℕ) → (then_answer (asked (length buffer) b size) (read_of b (master_block bytes b).contents) ≡ read_answer (master_blocks bytes) b buffer) × (then_leaves (asked (length buffer) b size) (buffer_of buffer (master_block bytes b).contents) buffer ≡ read_buffer (master_blocks bytes) b buffer)
  master_reads b buffer =
      (reads_answer size (λ _. false) (λ i. part bytes (256 * i) 256) protections.Protected b buffer, reads_buffer size (λ _. false) (λ i. part bytes (256 * i) 256) protections.Protected b buffer)
