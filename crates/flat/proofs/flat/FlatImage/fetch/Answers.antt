-- What the block's mark and bytes give is what the store's definitions ask.
use Rattle.std.proofs.Common.{◌≡◌, length, ◌∙◌, arith, rules}
use Rattle.std.proofs.lemmas.List.{length-take, length-drop}
use Rattle.image.proofs.Parts.{copied}
use Rattle.flat.proofs.FlatBlocks.{in_memory, flat_reads}
use Rattle.flat.proofs.flat.FlatImage.fetch.Goals as goal

pub returns-then-is_marked : goal.returns-then-is_marked
returns-then-is_marked c =
    let s = c.args.self.now in
    let e = flat_reads s.bytes.now s.damage.now s.protection c.args.block c.args.buffer.now in
    search rules

pub returns : goal.returns
returns c =
    let s = c.args.self.now in
    let e = flat_reads s.bytes.now s.damage.now s.protection c.args.block c.args.buffer.now in
    let whole : length c.args.buffer.now ≡ 256 = search rules in
    let inside = in_memory (length s.bytes.now) (length s.damage.now) c.args.block (search rules) in
    let same : c.in_ok-number.number ≡ c.args.block = search rules in
    let done = c.copy_block.ensures ∙ copied _ _ (simp (length-take, length-drop) (omega (arith, inside, same))) whole in
    search rules
