-- A master has few enough blocks, and each is whole.
-- What is shown here is what the ghost member asks of it; nothing here is a rule to believe.
use Rattle.std.specs.Prelude.{ℕ, ◌*◌, ◌/◌, ◌%◌, ◌≤◌, false, List, length, ◌==◌, nat_le}
use Rattle.std.proofs.Common.{arith}
use Rattle.std.proofs.lemmas.Bool.{and_parts, cond_both, leb-true}
use Rattle.store.specs.declared.fault.Protection.TheVariants as protections
use Rattle.store.specs.Blocks.{Sized}
use Rattle.image.specs.Memory.{part}
use Rattle.store.specs.Counts.{most_blocks}
use Rattle.image.specs.Lawful.{length_part, sized_numbered}
use Rattle.master.specs.Masters.{master_fits, master_size, master_blocks}

-- It has no more blocks than the limit.
few_master : (n : ℕ) → master_size n ≤ most_blocks
few_master n =
    cond_both (master_fits n) (n / 256) 0 (λ m. m ≤ most_blocks)
    (λ e. leb-true (n / 256) most_blocks (and_parts (n % 256 == 0) (nat_le (n / 256) most_blocks) e).1)
    (λ _. omega arith)

-- Its blocks lie in its memory.
pub inside_master : (n : ℕ) → 256 * master_size n ≤ n
inside_master n = cond_both (master_fits n) (n / 256) 0 (λ m. 256 * m ≤ n) (λ _. omega arith) (λ _. omega arith)

-- So its blocks are few enough and whole.
pub master_sized : (bytes : List ℕ) → Sized (master_blocks bytes)
master_sized bytes =
    sized_numbered (master_size (length bytes)) (λ _. false) (λ i. part bytes (256 * i) 256) protections.Protected (few_master (length bytes))
    (λ i h. length_part bytes (256 * i) 256 (omega (arith, inside_master (length bytes))))
