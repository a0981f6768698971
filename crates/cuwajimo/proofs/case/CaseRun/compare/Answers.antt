use Rattle.cuwajimo.proofs.MediaLeft.{pile_stays, shown_stays}
use Rattle.cuwajimo.proofs.case.CaseRun.compare.Goals as goal

pub returns-clause-left : goal.returns-clause-left
returns-clause-left g c =
    shown_stays c.args.self.case.now.plan c.args.medium.now c.on_pile-compared.new.medium c.on_pile-compared.result _ _ c.on_pile-compared.ensures.done

pub returns-in_default-clause-left : goal.returns-in_default-clause-left
returns-in_default-clause-left g c = pile_stays c.args.self.case.now.plan c.args.medium.now
