use Rattle.std.proofs.Common.{◌<◌, true, length, arith, rules}
use Rattle.flat.specs.Lengths.{flat_size}
use Rattle.flat.specs.Flat.{with_mark}
use Rattle.flat.proofs.FlatBlocks.{length_flat, in_map, flat_harmed, flat_harms}
use Rattle.flat.proofs.OneBit.{marks_one}
use Rattle.flat.proofs.Told.{spare_stays}
use Rattle.flat.proofs.flat.FlatImage.mark_damaged.Goals as goal

pub returns-then-block-count : goal.returns-then-block-count
returns-then-block-count c =
    let s = c.args.self.now in
    let h : c.args.block < flat_size (length s.bytes.now) (length s.damage.now) = omega arith in
    let l = length_flat s.bytes.now s.damage.now s.protection in
    let e = flat_harmed s.bytes.now s.damage.now s.protection c.args.block h in
    let f = flat_harms s.bytes.now s.damage.now s.protection c.args.block in
    let g = marks_one s.damage.now c.args.block (in_map (length s.bytes.now) (length s.damage.now) c.args.block h) in
    let t = spare_stays (length s.bytes.now) s.damage.now c.args.block true (with_mark s.damage.now c.args.block) h g in
    search rules
