use Rattle.std.proofs.Common.{rules}
use Rattle.layer.proofs.Parts.{same_below}
use Rattle.master.proofs.compare.compare_runs.Goals as goal

pub returns-clause-one_same : goal.returns-clause-one_same
returns-clause-one_same g c =
    let d = c.compare-differs in
    let e = same_below (λ s. (s.ghost_name, g.A.ReadStore.base_of s.now)) (λ s. g.A.ReadStore.blocks s.now) d.new.a c.new-unit.result d.ensures.one_same d.ensures.one_base in
    search rules

pub returns-clause-other_same : goal.returns-clause-other_same
returns-clause-other_same g c =
    let d = c.compare-differs in
    let e = same_below (λ s. (s.ghost_name, g.B.ReadStore.base_of s.now)) (λ s. g.B.ReadStore.blocks s.now) d.new.b c.new-of.result d.ensures.other_same d.ensures.other_base in
    search rules
