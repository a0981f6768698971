use Rattle.std.proofs.Common.{sym, ap, ◌∙◌}
use Rattle.std.proofs.lemmas.List.{take_rest}
use Rattle.message.specs.Drafts.{stepped}
use Rattle.message.proofs.Scanning.{others, scan_more, step_ends}
use Rattle.message.proofs.decode.scan.Goals as goal

pub slice_bounds-left-count : goal.slice_bounds-left-count
slice_bounds-left-count c =
    step_ends c.args.map.now c.loop-left.left.now c.loop-left.draft (stepped c.step.new.draft c.step.result) c.in-len1-up.len_at_least c.step.ensures c.step.new.draft c.in_ok-taken.taken
    (ap (stepped c.step.new.draft) c.in_ok-taken.was)

pub slice_bounds-left-start : goal.slice_bounds-left-start
slice_bounds-left-start c =
    step_ends c.args.map.now c.loop-left.left.now c.loop-left.draft (stepped c.step.new.draft c.step.result) c.in-len1-up.len_at_least c.step.ensures c.step.new.draft c.in_ok-taken.taken
    (ap (stepped c.step.new.draft) c.in_ok-taken.was)

pub loop-left-preserved : goal.loop-left-preserved
loop-left-preserved c =
    let more = scan_more c.args.map.now c.loop-left.left.now c.loop-left.draft (stepped c.step.new.draft c.step.result) c.in-len1-up.len_at_least c.step.ensures c.step.new.draft c.in_ok-taken.taken (ap (stepped c.step.new.draft) c.in_ok-taken.was) in
    rw (take_rest (others c.loop-left.left.now) c.in_ok-taken.taken) (sym more ∙ c.loop-left.invariant)
