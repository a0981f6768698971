use Rattle.std.proofs.Common.{◌≡◌, ◌+◌, ◌∷◌, ◌++◌, ◌∙◌, List, ap, append-nil, drop, subst, sym}
use Rattle.std.proofs.lemmas.List.{at_drop_more, drop_all}
use Rattle.std.specs.Io.KnownBytes.{Appends}
use Rattle.cuwajimo.specs.declared.call.Call.{Call}
use Rattle.cuwajimo.specs.Printed.{nothing_line, nothing_lines}
use Rattle.cuwajimo.proofs.Printed.{next_printed}
use Rattle.cuwajimo.proofs.say.nothing_of.Goals as goal

pub loop-call-preserved : goal.loop-call-preserved
loop-call-preserved g c =
    let calls = c.args.calls.now in
    let so_far = c.loop-call.invariant in
    let i = c.loop-call.call-index in
    let call = c.call-item.result in
    let rest = drop (i + 1) calls in
    let split : call ∷ rest ≡ drop i calls =
    ap (λ (x : Call). x ∷ rest) c.call-item.is
    ∙ sym (at_drop_more (λ (cs : List Call). cs) calls i call c.loop-call-test.true) in
    next_printed (g.W.Write.contents c.args.out.now) (g.W.Write.contents c.loop-call.out) (g.W.Write.contents c.nothing.new.out) so_far.0 (nothing_line call.act) (nothing_lines rest) (nothing_lines calls)
    so_far.1 c.in_ok-nothing.ensures.printed (ap (λ (cs : List Call). so_far.0 ++ nothing_lines cs) split ∙ so_far.2)

pub returns-clause-printed : goal.returns-clause-printed
returns-clause-printed g c =
    let calls = c.args.calls.now in
    let so_far = c.loop-call.invariant in
    let all : so_far.0 ≡ nothing_lines calls =
    sym (append-nil so_far.0) ∙ ap (λ (cs : List Call). so_far.0 ++ nothing_lines cs) (sym (drop_all c.loop-call.call-index calls c.loop-call-test.false)) ∙ so_far.2 in
    subst (Appends (g.W.Write.contents c.args.out.now) (g.W.Write.contents c.loop-call.out)) all so_far.1
