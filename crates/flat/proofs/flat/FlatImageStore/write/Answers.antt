use Rattle.std.proofs.Common.{◌≡◌, ◌+◌, ◌-◌, ◌*◌, ◌<◌, false, length, sym, ◌∙◌, arith, rules}
use Rattle.store.proofs.Writes.{permitted}
use Rattle.image.proofs.Parts.{laid_over, length_laid}
use Rattle.flat.specs.Lengths.{flat_size}
use Rattle.flat.specs.Flat.{without_mark}
use Rattle.flat.proofs.OneBit.{unmarks_one}
use Rattle.flat.proofs.Told.{spare_stays}
use Rattle.flat.proofs.FlatBlocks.{in_map, in_memory, flat_wrote, flat_writes}
use Rattle.flat.proofs.flat.FlatImageStore.write.Goals as goal

pub returns-in_err-permit : goal.returns-in_err-permit
returns-in_err-permit c =
    let s = c.args.self.now in
    let e = flat_writes s.bytes.now s.damage.now s.protection c.args.block c.args.bytes.now in
    search rules

pub returns : goal.returns
returns c =
    let s = c.args.self.now in
    let h : c.args.block < flat_size (length s.bytes.now) (length s.damage.now) = search rules in
    let w : length c.args.bytes.now ≡ 256 = search rules in
    let e = flat_wrote s.bytes.now s.damage.now s.protection c.args.block c.args.bytes.now h w (permitted c.args.block s.protection (sym c.permit.ensures ∙ c.in_ok-permit.was)) in
    let g = unmarks_one s.damage.now c.args.block (in_map (length s.bytes.now) (length s.damage.now) c.args.block h) in
    let l = laid_over s.bytes.now (256 * c.args.block) (256 * c.args.block + 256 - 256 * c.args.block) c.args.bytes.now (omega arith) in
    let long = length_laid s.bytes.now (256 * c.args.block) c.args.bytes.now (omega (arith, in_memory (length s.bytes.now) (length s.damage.now) c.args.block h, w)) in
    let t = spare_stays (length s.bytes.now) s.damage.now c.args.block false (without_mark s.damage.now c.args.block) h g in
    search rules
