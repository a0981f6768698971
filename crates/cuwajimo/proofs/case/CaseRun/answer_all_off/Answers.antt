use Rattle.std.proofs.Common.{◌≡◌, ◌+◌, ◌∷◌, ◌++◌, ◌∙◌, List, [], ap, append-nil, append_assoc, drop, refl, subst, sym}
use Rattle.std.proofs.KnownBytes.{Appends-trans}
use Rattle.std.proofs.lemmas.List.{at_drop_more, drop_all}
use Rattle.std.specs.Io.KnownBytes.{Appends}
use Rattle.cuwajimo.specs.declared.call.Call.{Call}
use Rattle.cuwajimo.specs.Masters.{meant_by}
use Rattle.cuwajimo.specs.Printed.{AfterOff, off_lines}
use Rattle.cuwajimo.proofs.case.CaseRun.answer_all_off.Goals as goal

pub loop-call-preserved : goal.loop-call-preserved
loop-call-preserved g c =
    let plan = c.args.self.case.now.plan in
    let source = c.args.source.now in
    let of = meant_by c.args.self.master in
    let calls = c.args.calls.now in
    let before = c.loop-call.invariant in
    let i = c.loop-call.call-index in
    let call = c.call-item.result in
    let rest = drop (i + 1) calls in
    let more = off_lines plan source c.loop-call.medium of call.act in
    let split : call ∷ rest ≡ drop i calls =
    ap (λ (x : Call). x ∷ rest) c.call-item.is
    ∙ sym (at_drop_more (λ (cs : List Call). cs) calls i call c.loop-call-test.true) in (
      before.0 ++ more,
      Appends-trans (g.W.Write.contents c.args.out.now) (g.W.Write.contents c.loop-call.out) (g.W.Write.contents c.answer_off.new.out) before.0 more before.1 c.in_ok-answer_off.ensures.printed,
      λ text is.
          subst (AfterOff plan source c.args.medium.now of calls) (sym (append_assoc before.0 more text))
          (before.2 (more ++ text) (subst (λ (cs : List Call). AfterOff plan source c.loop-call.medium of cs (more ++ text)) split (c.answer_off.new.medium, c.in_ok-answer_off.ensures.left, text, is, refl))),
    )

pub returns : goal.returns
returns g c =
    let plan = c.args.self.case.now.plan in
    let source = c.args.source.now in
    let of = meant_by c.args.self.master in
    let calls = c.args.calls.now in
    let before = c.loop-call.invariant in
    let none : AfterOff plan source c.loop-call.medium of (drop c.loop-call.call-index calls) [] =
    subst (λ (cs : List Call). AfterOff plan source c.loop-call.medium of cs []) (sym (drop_all c.loop-call.call-index calls c.loop-call-test.false)) refl in
    (before.0 ++ [], before.2 [] none, subst (Appends (g.W.Write.contents c.args.out.now) (g.W.Write.contents c.loop-call.out)) (sym (append-nil before.0)) before.1)
