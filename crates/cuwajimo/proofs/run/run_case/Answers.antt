use Rattle.std.proofs.Common.{List, subst, vec_items}
use Rattle.std.specs.Option.{option_map}
use Rattle.cuwajimo.specs.declared.plan.Fill.{Fill}
use Rattle.cuwajimo.specs.Left.{Prepared}
use Rattle.cuwajimo.specs.Masters.{meant_by}
use Rattle.cuwajimo.proofs.Running.{run_with}
use Rattle.cuwajimo.proofs.run.run_case.Goals as goal

pub returns : goal.returns
returns g c =
    run_with c.run_over.result c.args.case.now c.in-Some-source.source c.in_ok-medium.medium c.prepare.new.medium (option_map vec_items c.in_ok-memory.memory) (meant_by c.master_over-master.result) (g.W.Write.contents c.args.out.now) (g.W.Write.contents c.run_over.new.out)
    c.in-Some-source.is c.in_ok-medium.ensures (subst (λ (fills : List Fill). Prepared fills c.in_ok-medium.medium c.prepare.new.medium) c.as_slice.ensures.value c.prepare.ensures) c.in_ok-memory.ensures c.master_over-master.ensures c.run_over.ensures
