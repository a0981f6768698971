-- Filling and marking an image, block by block and line by line.
use Rattle.std.proofs.Common.{◌≡◌, ℕ, suc, ◌+◌, ◌-◌, ◌<◌, ◌≤◌, List, length, get_or, drop, sym, ap, ◌∙◌, arith}
use Rattle.std.proofs.lemmas.List.{at_drop_more, at_drop_all}
use Rattle.store.specs.Blocks.{Block, written}
use Rattle.image.specs.Images.{harmed}
use Rattle.cuwajimo.specs.declared.plan.Fill.{Fill}
use Rattle.cuwajimo.specs.Bytes.{pattern_block}
use Rattle.cuwajimo.specs.Fills.{patterned_from, harmed_all, filled, filled_all}

pub pattern_turn :
    (p n b : ℕ) (blocks blocks' whole : List Block) (bytes : List ℕ) → b < n → patterned_from p (n - b) b blocks ≡ whole → bytes ≡ pattern_block p b
    → blocks' ≡ written blocks b bytes → patterned_from p (n - (b + 1)) (b + 1) blocks' ≡ whole
pattern_turn p n b blocks blocks' whole bytes within so_far is after =
    let left : n - b ≡ suc (n - (b + 1)) = omega arith in
    ap (λ (bs : List Block). patterned_from p (n - (b + 1)) (b + 1) bs) (after ∙ ap (λ (l : List ℕ). written blocks b l) is)
    ∙ sym (ap (λ (k : ℕ). patterned_from p k b blocks) left)
    ∙ so_far

pub pattern_end : (p n b : ℕ) (blocks whole : List Block) → n ≤ b → patterned_from p (n - b) b blocks ≡ whole → blocks ≡ whole
pattern_end p n b blocks whole past so_far =
    let none : n - b ≡ 0 = omega arith in sym (ap (λ (k : ℕ). patterned_from p k b blocks) none) ∙ so_far

pub harm_turn :
    (xs : List ℕ) (i : ℕ) (blocks blocks' whole : List Block) → i < length xs → harmed_all blocks (drop i xs) ≡ whole → blocks' ≡ harmed blocks (get_or xs i 0)
    → harmed_all blocks' (drop (i + 1) xs) ≡ whole
harm_turn xs i blocks blocks' whole within so_far after =
    ap (λ (bs : List Block). harmed_all bs (drop (i + 1) xs)) after ∙ sym (at_drop_more (harmed_all blocks) xs i 0 within) ∙ so_far

pub harm_end : (xs : List ℕ) (i : ℕ) (blocks whole : List Block) → length xs ≤ i → harmed_all blocks (drop i xs) ≡ whole → blocks ≡ whole
harm_end xs i blocks whole past so_far = sym (at_drop_all (harmed_all blocks) xs i past) ∙ so_far

pub fill_turn :
    (xs : List Fill) (i : ℕ) (fill : Fill) (blocks blocks' whole : List Block) → i < length xs → fill ≡ get_or xs i fill → filled_all (drop i xs) blocks ≡ whole
    → blocks' ≡ filled fill blocks → filled_all (drop (i + 1) xs) blocks' ≡ whole
fill_turn xs i fill blocks blocks' whole within is so_far after =
    ap (λ (bs : List Block). filled_all (drop (i + 1) xs) bs) (after ∙ ap (λ (f : Fill). filled f blocks) is)
    ∙ sym (at_drop_more (λ (l : List Fill). filled_all l blocks) xs i fill within)
    ∙ so_far

pub fill_end : (xs : List Fill) (i : ℕ) (blocks whole : List Block) → length xs ≤ i → filled_all (drop i xs) blocks ≡ whole → blocks ≡ whole
fill_end xs i blocks whole past so_far = sym (at_drop_all (λ (l : List Fill). filled_all l blocks) xs i past) ∙ so_far
