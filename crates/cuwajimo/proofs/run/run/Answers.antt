use Rattle.std.proofs.Common.{◌≡◌, ◌+◌, ◌∷◌, ◌++◌, ◌∙◌, List, [], ap, append-nil, append_assoc, drop, refl, subst, sym}
use Rattle.std.proofs.KnownBytes.{Appends-trans}
use Rattle.std.proofs.lemmas.List.{at_drop_more, drop_all}
use Rattle.std.specs.Io.KnownBytes.{Appends}
use Rattle.cuwajimo.specs.declared.case.Case.{Case}
use Rattle.cuwajimo.specs.Printed.{AreRun}
use Rattle.cuwajimo.proofs.run.run.Goals as goal

pub loop-case-preserved : goal.loop-case-preserved
loop-case-preserved g c =
    let cases = c.args.cases.now in
    let before = c.loop-case.invariant in
    let i = c.loop-case.case-index in
    let case = c.case-item.result in
    let now = c.in_ok-run_case.ensures in
    let split : case ∷ drop (i + 1) cases ≡ drop i cases =
    ap (λ (x : Case). x ∷ drop (i + 1) cases) c.case-item.is
    ∙ sym (at_drop_more (λ (cs : List Case). cs) cases i case c.loop-case-test.true) in (
      before.0 ++ now.0,
      Appends-trans (g.W.Write.contents c.args.out.now) (g.W.Write.contents c.loop-case.out) (g.W.Write.contents c.run_case.new.out) before.0 now.0 before.1 now.2,
      λ text is.
          subst (AreRun cases) (sym (append_assoc before.0 now.0 text))
          (before.2 (now.0 ++ text) (subst (λ (cs : List Case). AreRun cs (now.0 ++ text)) split (now.0, text, now.1, is, refl))),
    )

pub returns : goal.returns
returns g c =
    let cases = c.args.cases.now in
    let before = c.loop-case.invariant in
    let none : AreRun (drop c.loop-case.case-index cases) [] = subst (λ (cs : List Case). AreRun cs []) (sym (drop_all c.loop-case.case-index cases c.loop-case-test.false)) refl in
    (before.0 ++ [], before.2 [] none, subst (Appends (g.W.Write.contents c.args.out.now) (g.W.Write.contents c.loop-case.out)) (sym (append-nil before.0)) before.1)
