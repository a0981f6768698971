-- A flat image has few enough blocks, and each sound one is whole.
-- What is shown here is what the store's ghost member asks of it; nothing here is a rule to believe.
use Rattle.std.specs.Prelude.{ℕ, ◌+◌, ◌*◌, ◌/◌, ◌%◌, ◌≤◌, ◌&&◌, List, length, Some, None, ◌==◌, nat_le}
use Rattle.std.proofs.Common.{arith}
use Rattle.std.specs.Option.{unwrap_or}
use Rattle.std.proofs.lemmas.Bool.{and_parts, cond_both, leb-true}
use Rattle.store.specs.declared.fault.Protection.{Protection}
use Rattle.store.specs.Blocks.{Sized}
use Rattle.store.specs.Counts.{most_blocks}
use Rattle.image.specs.Memory.{part}
use Rattle.image.specs.Lawful.{length_part, sized_numbered}
use Rattle.flat.specs.Lengths.{flat_fits, flat_size}
use Rattle.flat.specs.Flat.{flat_blocks, marked}

-- An image has no more blocks than the limit.
few_flat : (n m : ℕ) → flat_size n m ≤ most_blocks
few_flat n m =
    cond_both (flat_fits n m) (Some (n / 256)) None (λ o. unwrap_or o 0 ≤ most_blocks)
    (λ e. leb-true (n / 256) most_blocks (and_parts (nat_le (n / 256) most_blocks) (m == (n / 256 + 7) / 8) (and_parts (n % 256 == 0) (nat_le (n / 256) most_blocks && m == (n / 256 + 7) / 8) e).1).0)
    (λ _. omega arith)

-- Its blocks lie in its memory.
inside_flat : (n m : ℕ) → 256 * flat_size n m ≤ n
inside_flat n m = cond_both (flat_fits n m) (Some (n / 256)) None (λ o. 256 * unwrap_or o 0 ≤ n) (λ _. omega arith) (λ _. omega arith)

-- So its blocks are few enough and whole.
pub flat_sized : (bytes damage : List ℕ) (p : Protection) → Sized (flat_blocks bytes damage p)
flat_sized bytes damage p =
    sized_numbered (flat_size (length bytes) (length damage)) (marked damage) (λ i. part bytes (256 * i) 256) p (few_flat (length bytes) (length damage))
    (λ i h. length_part bytes (256 * i) 256 (omega (arith, inside_flat (length bytes) (length damage))))
