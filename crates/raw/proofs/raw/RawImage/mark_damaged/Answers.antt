use Rattle.std.proofs.Common.{◌+◌, ◌*◌, ◌<◌, length, arith, rules}
use Rattle.raw.specs.Lengths.{raw_size}
use Rattle.raw.specs.Raw.{raw_record, with_flag}
use Rattle.raw.specs.Lawful.{inside_raw}
use Rattle.raw.proofs.Records.{records_two, no_spare}
use Rattle.raw.proofs.Told.{rest_stays}
use Rattle.raw.proofs.RawBlocks.{raw_harmed, raw_harms, flag_others, flag_rest}
use Rattle.raw.proofs.raw.RawImage.mark_damaged.Goals as goal

pub returns-then-block-count : goal.returns-then-block-count
returns-then-block-count c =
    let s = c.args.self.now in
    let h : c.args.block < raw_size (length s.bytes.now) s.spares.now s.records = search rules in
    let e = raw_harmed s.bytes.now s.spares.now s.records s.protection c.args.block h in
    let f = raw_harms s.bytes.now s.spares.now s.records s.protection c.args.block in
    let k = raw_record s.spares.now s.records c.args.block in
    let inside = inside_raw s.spares.now (length s.bytes.now) s.records c.args.block h in
    let two = records_two (length s.bytes.now) s.spares.now s.records c.args.block h in
    let r = rest_stays s.bytes.now (with_flag s.bytes.now k) s.spares.now s.records k (flag_others s.bytes.now k 1 inside) (flag_rest s.bytes.now k 1 inside (276 * k + 1) 5 (omega arith)) (flag_rest s.bytes.now k 1 inside (276 * k + 262) 14 (omega arith)) (no_spare s.spares.now s.records two c.args.block) in
    search rules
