use Rattle.std.proofs.Common.{rules}
use Rattle.trace.proofs.Headings.{units_told}
use Rattle.trace.proofs.head.Head.split.Goals as goal

pub returns : goal.returns
returns c =
    let units = units_told c.from.result c.in_ok-units.units.now c.as_chunks.result.0.now c.in_ok-units.ensures.cases.3 c.as_chunks.ensures.front in
    search (rules, units)
