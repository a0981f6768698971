use Rattle.std.proofs.Common.{◌≡◌, ◌+◌, ◌<◌, ◌≤◌, ◌∷◌, ◌++◌, ◌∙◌, List, ap, append-nil, drop, get_or, length, subst, sym, vec_items}
use Rattle.std.proofs.KnownBytes.{Appends-trans}
use Rattle.std.proofs.lemmas.List.{at_drop_more, drop_all}
use Rattle.std.specs.Io.KnownBytes.{Appends}
use Rattle.desk.specs.Worlds.{World, world}
use Rattle.cuwajimo.specs.declared.call.Call.{Call}
use Rattle.cuwajimo.specs.Printed.{act_line, all_lines, device_line}
use Rattle.cuwajimo.specs.Sessions.{all_left}
use Rattle.cuwajimo.proofs.Printed.{next_printed}
use Rattle.cuwajimo.proofs.case.CaseRun.answer_all.Goals as goal

pub loop-call-preserved : goal.loop-call-preserved
loop-call-preserved g c =
    let means = g.S.ReadStore.blocks in
    let calls = vec_items c.args.self.case.now.on in
    let so_far = c.loop-call.invariant.1 in
    let before = world means c.loop-call.session in
    let rest = drop (c.loop-call.call-index + 1) calls in
    let i = c.loop-call.call-index in
    let call = c.call-item.result in
    let items = c.deref-call-items.ensures.value in
    let split : call ∷ rest ≡ drop i calls =
    ap (λ (x : Call). x ∷ rest) (c.call-item.is ∙ ap (λ (cs : List Call). get_or cs i call) items)
    ∙ sym (at_drop_more (λ (cs : List Call). cs) calls i call (subst (λ (cs : List Call). i < length cs) items c.loop-call-test.true)) in
    let left = c.in_ok-answer.ensures.left in (
      ap (λ (w : World). all_left w rest) left ∙ ap (all_left before) split ∙ c.loop-call.invariant.0,
      next_printed (g.W.Write.contents c.announce.new.out) (g.W.Write.contents c.loop-call.out) (g.W.Write.contents c.answer.new.out) so_far.0 (act_line before c.call-item.result.act)
          (all_lines (world means c.answer.new.session) rest) (all_lines (world means c.args.session.now) calls) so_far.1 c.in_ok-answer.ensures.printed
          (ap (λ (w : World). so_far.0 ++ (act_line before c.call-item.result.act ++ all_lines w rest)) left ∙ ap (λ (cs : List Call). so_far.0 ++ all_lines before cs) split ∙ so_far.2),
      c.answer.ensures.base ∙ c.loop-call.invariant.2,
    )

pub returns-clause-printed : goal.returns-clause-printed
returns-clause-printed g c =
    let means = g.S.ReadStore.blocks in
    let plan = c.args.self.case.now.plan in
    let calls = vec_items c.args.self.case.now.on in
    let so_far = c.loop-call.invariant.1 in
    let first = world means c.args.session.now in
    let begun : Appends (g.W.Write.contents c.args.out.now) (g.W.Write.contents c.announce.new.out) (device_line plan.device (length (vec_items plan.units)) (length (means c.args.session.now.device.store))) =
    subst (λ n. Appends (g.W.Write.contents c.args.out.now) (g.W.Write.contents c.announce.new.out) (device_line plan.device (length (vec_items plan.units)) n)) c.size.ensures c.in_ok-announce.ensures.printed in
    let all : so_far.0 ≡ all_lines first calls =
    sym (append-nil so_far.0)
    ∙ ap (λ (cs : List Call). so_far.0 ++ all_lines (world means c.loop-call.session) cs)
    (sym (drop_all c.loop-call.call-index calls (subst (λ (cs : List Call). length cs ≤ c.loop-call.call-index) c.deref-call-items.ensures.value c.loop-call-test.false)))
    ∙ so_far.2 in
    Appends-trans (g.W.Write.contents c.args.out.now) (g.W.Write.contents c.announce.new.out) (g.W.Write.contents c.loop-call.out) _ (all_lines first calls) begun
    (subst (Appends (g.W.Write.contents c.announce.new.out) (g.W.Write.contents c.loop-call.out)) all so_far.1)
