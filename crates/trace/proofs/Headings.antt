-- The units of a head, eight bytes each.
use Rattle.std.proofs.Common.{◌≡◌, ℕ, zero, suc, ◌*◌, ◌/◌, List, ◌∷◌, length, take, drop, map, refl, ap, ◌∙◌, arith}
use Rattle.std.specs.Simd.{first_chunks}
use Rattle.trace.specs.Heads.{unit_of, units_of}

chunks_told : (n : ℕ) (bytes : List ℕ) → map unit_of (first_chunks 8 n bytes) ≡ units_of n bytes
chunks_told zero bytes = refl
chunks_told (suc n) bytes = ap (λ us. unit_of (take 8 bytes) ∷ us) (chunks_told n (drop 8 bytes))

-- The units that the chunks of their bytes tell.
pub units_told :
    (n : ℕ) (bytes : List ℕ) (chunks : List (List ℕ)) → length bytes ≡ 8 * n → chunks ≡ first_chunks 8 (length bytes / 8) bytes
    → map unit_of chunks ≡ units_of n bytes
units_told n bytes chunks long front =
    let many : length bytes / 8 ≡ n = omega arith in
    ap (map unit_of) front ∙ chunks_told (length bytes / 8) bytes ∙ ap (λ k. units_of k bytes) many
