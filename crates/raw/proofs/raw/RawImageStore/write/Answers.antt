use Rattle.std.proofs.Common.{◌≡◌, ◌+◌, ◌-◌, ◌*◌, ◌<◌, length, set, sym, ◌∙◌, arith, rules, length-set}
use Rattle.std.proofs.lemmas.List.{length-take, length-drop}
use Rattle.store.proofs.Writes.{permitted}
use Rattle.image.proofs.Parts.{copied, laid_over}
use Rattle.raw.specs.Lengths.{raw_size}
use Rattle.raw.specs.Raw.{raw_record, with_data}
use Rattle.raw.specs.Lawful.{inside_raw}
use Rattle.raw.proofs.RawBlocks.{raw_writes, raw_wrote, writes_record}
use Rattle.raw.proofs.Records.{records_two, no_spare}
use Rattle.raw.proofs.Told.{rest_stays}
use Rattle.raw.proofs.raw.RawImageStore.write.Goals as goal

pub returns-in_err-permit : goal.returns-in_err-permit
returns-in_err-permit c = let s = c.args.self.now in let e = raw_writes s.bytes.now s.spares.now s.records s.protection c.args.block c.args.bytes.now in search rules

pub returns : goal.returns
returns c =
    let s = c.args.self.now in
    let h : c.args.block < raw_size (length s.bytes.now) s.spares.now s.records = search rules in
    let w : length c.args.bytes.now ≡ 256 = search rules in
    let e = raw_wrote s.bytes.now s.spares.now s.records s.protection c.args.block c.args.bytes.now h w (permitted c.args.block s.protection (sym c.permit.ensures ∙ c.in_ok-permit.was)) in
    let g = writes_record s.bytes.now (raw_record s.spares.now s.records c.args.block) c.args.bytes.now (inside_raw s.spares.now (length s.bytes.now) s.records c.args.block h) w in
    let from = 276 * raw_record s.spares.now s.records c.args.block + 6 in
    let l = laid_over (set s.bytes.now (276 * raw_record s.spares.now s.records c.args.block) 0) from (from + 256 - from) c.args.bytes.now (omega arith) in
    let k = c.start-at.ensures.inside in
    let done = c.copy_block.ensures ∙ copied _ _ w (simp (length-take, length-drop, length-set) (omega (arith, k))) in
    let two = records_two (length s.bytes.now) s.spares.now s.records c.args.block h in
    let number = raw_record s.spares.now s.records c.args.block in
    let r = rest_stays s.bytes.now (with_data s.bytes.now number c.args.bytes.now) s.spares.now s.records number g.others g.header g.trailer (no_spare s.spares.now s.records two c.args.block) in
    search rules
