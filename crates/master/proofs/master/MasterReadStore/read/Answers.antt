-- What the memory gives is what the store's definitions ask.
use Rattle.std.proofs.Common.{◌≡◌, length, ◌∙◌, arith, rules}
use Rattle.std.proofs.lemmas.List.{length-take, length-drop}
use Rattle.image.proofs.Parts.{copied}
use Rattle.master.proofs.MasterBlocks.{in_memory, master_reads}
use Rattle.master.proofs.master.MasterReadStore.read.Goals as goal

pub returns : goal.returns
returns c =
    let s = c.args.self.now in
    let e = master_reads s.bytes.now c.args.block c.args.buffer.now in
    let whole : length c.args.buffer.now ≡ 256 = search rules in
    let inside = in_memory (length s.bytes.now) c.args.block (search rules) in
    let same : c.in_ok-number.number ≡ c.args.block = search rules in
    let done = c.copy_block.ensures ∙ copied _ _ (simp (length-take, length-drop) (omega (arith, inside, same))) whole in
    search rules
