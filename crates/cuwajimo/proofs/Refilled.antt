-- A whole vector that was filled through a slice of it.
use Rattle.std.proofs.Common.{◌≡◌, ℕ, ◌≤◌, List, ◌++◌, length, take, drop, ap, ◌∙◌, arith}
use Rattle.std.proofs.lemmas.List.{take_all, take-append-le}

pub refilled : (new old wanted : List ℕ) (n : ℕ) → new ≡ wanted → n ≡ length wanted → take n (new ++ drop (length new) old) ≡ wanted
refilled new old wanted n e long =
    let few : n ≤ length new = omega (arith, ap length e) in
    let all : length new ≤ n = omega (arith, ap length e) in
    take-append-le n new (drop (length new) old) few ∙ take_all n new all ∙ e
