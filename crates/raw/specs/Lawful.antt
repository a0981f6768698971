-- A raw image has few enough blocks, and each sound one is whole.
-- What is shown here is what the store's ghost member asks of it; nothing here is a rule to believe.
use Rattle.std.specs.Prelude.{ℕ, ◌+◌, ◌-◌, ◌*◌, ◌/◌, ◌%◌, ◌<◌, ◌≤◌, not, ◌&&◌, List, length, is_some, Some, None, ◌==◌, nat_le, nat_lt, slice_index}
use Rattle.std.proofs.Common.{arith}
use Rattle.std.specs.Option.{unwrap_or}
use Rattle.std.proofs.lemmas.Nat.{div_below, mod_below, mul-add-lt}
use Rattle.std.proofs.lemmas.Bool.{and_parts, cond_both, eqb-true, leb-true}
use Rattle.store.specs.declared.fault.Protection.{Protection}
use Rattle.store.specs.Blocks.{Sized}
use Rattle.store.specs.Counts.{most_blocks}
use Rattle.image.specs.Memory.{part}
use Rattle.image.specs.Lawful.{length_part, sized_numbered}
use Rattle.raw.specs.Lengths.{records_fit, raw_fits, raw_count, misplaced, raw_size}
use Rattle.raw.specs.Raw.{place_of, raw_record, raw_blocks}

-- An image has no more blocks than the limit.
few_counted : (n t r : ℕ) → unwrap_or (raw_count n t r) 0 ≤ most_blocks
few_counted n t r =
    cond_both (raw_fits n t r) (Some (t * (r - 1))) None (λ o. unwrap_or o 0 ≤ most_blocks)
    (λ e. leb-true (t * (r - 1)) most_blocks (and_parts (n == 276 * (r * t)) (nat_le (t * (r - 1)) most_blocks) (and_parts (records_fit r) (n == 276 * (r * t) && nat_le (t * (r - 1)) most_blocks) e).1).1)
    (λ _. omega arith)

few_raw : (n : ℕ) (spares : List ℕ) (r : ℕ) → raw_size n spares r ≤ most_blocks
few_raw n spares r = cond_both (is_some (misplaced r spares)) 0 (unwrap_or (raw_count n (length spares) r) 0) (λ m. m ≤ most_blocks) (λ _. omega arith) (λ _. few_counted n (length spares) r)

-- A block that is there is one of those that the lengths make.
pub counted_raw : (n : ℕ) (spares : List ℕ) (r : ℕ) → (i : ℕ) → i < raw_size n spares r → i < unwrap_or (raw_count n (length spares) r) 0
counted_raw n spares r i = cond_both (is_some (misplaced r spares)) 0 (unwrap_or (raw_count n (length spares) r) 0) (λ m. i < m → i < unwrap_or (raw_count n (length spares) r) 0) (λ _ h. absurd (omega arith)) (λ _ h. h)

-- And each of those lies in a record of a track.
inside_counted : (spares : List ℕ) (n r : ℕ) → (i : ℕ) → i < unwrap_or (raw_count n (length spares) r) 0 → 276 * raw_record spares r i + 276 ≤ n
inside_counted spares n r i =
    cond_both (raw_fits n t r) (Some (t * (r - 1))) None (λ o. i < unwrap_or o 0 → 276 * raw_record spares r i + 276 ≤ n)
    (λ e h.
    let f = and_parts (records_fit r) (n == 276 * (r * t) && nat_le (t * (r - 1)) most_blocks) e in
    let two = leb-true 2 r (and_parts (nat_le 2 r) (nat_le r 256) f.0).0 in
    let long = eqb-true n (276 * (r * t)) (and_parts (n == 276 * (r * t)) (nat_le (t * (r - 1)) most_blocks) f.1).0 in
    let m = mod_below i (r - 1) (omega arith) in
    let place = cond_both (nat_lt (i % (r - 1)) (slice_index spares (i / (r - 1)))) (i % (r - 1)) (i % (r - 1) + 1) (λ x. x < r) (λ _. omega arith) (λ _. omega arith) in
    omega (arith, mul-add-lt (i / (r - 1)) r (place_of (slice_index spares (i / (r - 1))) (i % (r - 1))) t (div_below i (r - 1) t (omega arith) h) place))
    (λ _ h. absurd (omega arith))
  where
    t : ℕ
    t = length spares

-- So a block that is there does.
pub inside_raw : (spares : List ℕ) (n r : ℕ) → (i : ℕ) → i < raw_size n spares r → 276 * raw_record spares r i + 276 ≤ n
inside_raw spares n r i h = inside_counted spares n r i (counted_raw n spares r i h)

-- So its blocks are few enough and whole.
pub raw_sized : (bytes spares : List ℕ) (records : ℕ) (p : Protection) → Sized (raw_blocks bytes spares records p)
raw_sized bytes spares r p =
    sized_numbered (raw_size (length bytes) spares r) (λ i. not (slice_index bytes (276 * raw_record spares r i) == 0)) (λ i. part bytes (276 * raw_record spares r i + 6) 256) p (few_raw (length bytes) spares r)
    (λ i h. length_part bytes (276 * raw_record spares r i + 6) 256 (omega (arith, inside_raw spares (length bytes) r i h)))
