use Rattle.std.proofs.Common.{◌≡◌, ℕ, suc, ◌+◌, ◌*◌, ◌^◌, ◌≤◌, length, get_or, take, ap, ◌∙◌, add-one, lit<, arith}
use Rattle.std.proofs.Math.Nat.{pow-suc, pow-le-pow_right}
use Rattle.std.proofs.lemmas.List.{length-take-le}
use Rattle.std.proofs.lemmas.List.Sums.{fold_more}
use Rattle.message.specs.Operands.{number}
use Rattle.message.proofs.operand.number.Goals as goal

power_more : (i : ℕ) → 256 ^ (i + 1) ≡ 256 * 256 ^ i
power_more i = let e : 256 ^ suc i ≡ 256 ^ i * 256 = pow-suc 256 i in rw add-one (omega arith)

pub overflow_mul-number : goal.overflow_mul-number
overflow_mul-number g c =
    let i = c.loop-byte.byte-index in
    let room : i + 1 ≤ 8 = omega arith in
    let most : 256 ^ (i + 1) ≤ 256 ^ 8 = pow-le-pow_right (lit< tt) room in
    omega (arith, power_more i)

pub loop-byte-preserved : goal.loop-byte-preserved
loop-byte-preserved g c =
    let i = c.loop-byte.byte-index in
    let bs = c.in_ok-bytes.bytes.now in
    let first = c.in_ok-bytes.ensures.cases in
    let size = ap length first.same ∙ length-take-le _ _ first.enough in
    let more : number (take (i + 1) bs) ≡ 256 * number (take i bs) + get_or bs i 0 = fold_more _ 0 bs i 0 (omega arith) in
    (omega arith, omega (arith, power_more i))
