-- A buffer that is filled from its front on, part by part.
use Rattle.std.proofs.Common.{◌≡◌, ℕ, ◌+◌, ◌-◌, List, ◌++◌, length, take, drop, sym, refl, ap, ◌∙◌, arith}
use borrow.Rule.Slice.PartMut.{put_mid}
use Rattle.std.proofs.lemmas.List.{take_all, take_at, drop_at, drop-drop}
use Rattle.std.proofs.lemmas.Slice.{put_mid-paste}

-- One whose front is filled, with one part more.
pub filled_more : (d b b₀ ys : List ℕ) (n m k : ℕ) → b ≡ d ++ drop n b₀ → length d ≡ n → length ys ≡ k → m ≡ n + k → put_mid n (m - n) b ys ≡ (d ++ ys) ++ drop m b₀
filled_more d b b₀ ys n m k e ld ly em =
    let w : k ≡ m - n = omega arith in
    let p = put_mid-paste n (m - n) b ys ys k refl w (sym ly) in
    let t : take n b ≡ d = ap (take n) e ∙ take_at d (drop n b₀) n ld in
    let y : take k ys ≡ ys = take_all k ys (omega arith) in
    let r : drop (n + k) b ≡ drop m b₀ = sym (drop-drop k n b) ∙ ap (λ (l : List ℕ). drop k (drop n l)) e ∙ ap (drop k) (drop_at d (drop n b₀) n ld) ∙ drop-drop k n b₀ ∙ ap (λ (j : ℕ). drop j b₀) (sym em) in
    p ∙ rw (t, y, r)
