use Rattle.std.proofs.Common.{Ok, ap, ◌∙◌}
use Rattle.cuwajimo.specs.Masters.{meant_by}
use Rattle.cuwajimo.proofs.Running.{was_served, was_refused}
use Rattle.cuwajimo.proofs.case.CaseRun.run_over.Goals as goal

pub returns-in-Served : goal.returns-in-Served
returns-in-Served g c =
    let known = g.W.Write.contents in
    was_served c.args.self.case.now c.args.source.now c.args.medium.now (meant_by c.args.self.master) (known c.args.out.now) (known c.on_pile-served.new.out) (known c.finish.new.out) (known c.decided.new.out) c.finish.result c.on_pile-served.result
    c.decided.result c.on_pile-served.new.medium c.on_pile-served.ensures.refusal c.on_pile-served.ensures.done c.decided.ensures (c.in_ok-decided.was ∙ ap Ok c.in-Served.is) c.finish.ensures

pub returns-in-Refused : goal.returns-in-Refused
returns-in-Refused g c =
    let known = g.W.Write.contents in
    was_refused c.args.self.case.now c.args.source.now c.args.medium.now (meant_by c.args.self.master) (known c.args.out.now) (known c.on_pile-served.new.out) (known c.decline.new.out) (known c.decided.new.out) c.decline.result c.on_pile-served.result
    c.decided.result c.on_pile-served.new.medium c.on_pile-served.ensures.refusal c.on_pile-served.ensures.done c.decided.ensures (c.in_ok-decided.was ∙ ap Ok c.in-Refused.is) c.decline.ensures.printed
