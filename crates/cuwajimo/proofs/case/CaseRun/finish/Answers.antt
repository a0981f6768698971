use Rattle.std.proofs.Common.{◌≡◌, ◌∙◌, ◌∷◌, sym}
use Rattle.cuwajimo.specs.Calls.{calls_off}
use Rattle.cuwajimo.specs.Masters.{meant_by}
use Rattle.cuwajimo.proofs.Printed.{after_settled}
use Rattle.cuwajimo.proofs.case.CaseRun.finish.Goals as goal

pub returns : goal.returns
returns g c =
    let case = c.args.self.case.now in
    let all : calls_off case ≡ c.in-Some.field-0-0.now ∷ c.in-Some.after.now = sym c.as_slice.ensures.value ∙ c.in-Some.ensures.cases.0 in
    after_settled c.answer_all_off.result case.plan c.args.source.now c.args.medium.now (meant_by c.args.self.master) c.in-Some.field-0-0.now c.in-Some.after.now (calls_off case) (g.W.Write.contents c.args.out.now) (g.W.Write.contents c.writeln.new.self)
    (g.W.Write.contents c.answer_all_off.new.out) all c.in_ok-writeln.ensures.bytes c.answer_all_off.ensures
