-- What the lines of a script do to the blocks of an image.
use Rattle.std.specs.Prelude.{ℕ, zero, suc, ◌+◌, List, [], ◌∷◌, length, vec_items}
use Rattle.store.specs.Blocks.{Block, written}
use Rattle.image.specs.Images.{harmed}
use Rattle.cuwajimo.specs.declared.plan.Fill.{Fill}
use Rattle.cuwajimo.specs.declared.plan.Fill.TheVariants.{Pattern, Damage}
use Rattle.cuwajimo.specs.Bytes.{pattern_block}

-- The pattern is written into n blocks, from block b on.
abbrev pub patterned_from : ℕ → ℕ → ℕ → List Block → List Block
patterned_from p zero b blocks = blocks
patterned_from p (suc n) b blocks = patterned_from p n (b + 1) (written blocks b (pattern_block p b))

-- And so into every block.
abbrev pub patterned : ℕ → List Block → List Block
patterned p blocks = patterned_from p (length blocks) 0 blocks

-- Some blocks are marked damaged, one after the other.
abbrev pub harmed_all : List Block → List ℕ → List Block
harmed_all blocks [] = blocks
harmed_all blocks (b ∷ bs) = harmed_all (harmed blocks b) bs

-- What one line does: it writes a pattern into every block, of which a protected one stays, or marks some blocks damaged.
abbrev pub filled : Fill → List Block → List Block
filled (Pattern p) blocks = patterned p blocks
filled (Damage bs) blocks = harmed_all blocks (vec_items bs)

-- What all lines do, in their order.
abbrev pub filled_all : List Fill → List Block → List Block
filled_all [] blocks = blocks
filled_all (fill ∷ fills) blocks = filled_all fills (filled fill blocks)
