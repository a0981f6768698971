use Rattle.std.proofs.Common.{◌≡◌, true, length, is_some, rules}
use Rattle.raw.specs.Lengths.{raw_count}
use Rattle.raw.proofs.Records.{first_misplaced, laid_out}
use Rattle.raw.proofs.raw.RawImage.check.Goals as goal

pub returns-in-Some-clause-law : goal.returns-in-Some-clause-law
returns-in-Some-clause-law c = first_misplaced c.args.records c.in-Some.track c.args.spares.now (search rules)

pub returns-in-None-clause-law : goal.returns-in-None-clause-law
returns-in-None-clause-law c =
    let some : is_some (raw_count c.args.bytes (length c.args.spares.now) c.args.records) ≡ true = search rules in
    laid_out c.args.bytes c.args.spares.now c.args.records some (search rules)
