use Rattle.cuwajimo.proofs.MediaLeft.{shown_stays, stays_where_ok}
use Rattle.cuwajimo.proofs.case.CaseRun.answer_off.Goals as goal

pub returns-in_ok-decided-in-Blocks-clause-left : goal.returns-in_ok-decided-in-Blocks-clause-left
returns-in_ok-decided-in-Blocks-clause-left g c =
    let plan = c.args.self.case.now.plan in
    shown_stays plan c.args.medium.now c.on_pile-shown.new.medium c.on_pile-shown.result _ _ c.on_pile-shown.ensures.done

pub returns-in-Save-clause-left : goal.returns-in-Save-clause-left
returns-in-Save-clause-left g c = stays_where_ok c.save.result c.args.self.case.now.plan c.args.medium.now

pub returns-in_default-clause-left : goal.returns-in_default-clause-left
returns-in_default-clause-left g c = stays_where_ok c.nothing.result c.args.self.case.now.plan c.args.medium.now
