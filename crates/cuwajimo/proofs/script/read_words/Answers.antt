use Rattle.std.proofs.Common.{◌≡◌, false, Ok, Option, not, is_some, ap, ◌∙◌, subst, ◌++◌}
use Rattle.cuwajimo.specs.declared.call.Call.{Call}
use Rattle.cuwajimo.specs.CallLines.{IsCallOn, NamesCall}
use Rattle.cuwajimo.specs.Calls.{calls_on, calls_off}
use Rattle.cuwajimo.specs.Lines.{line_words}
use Rattle.cuwajimo.specs.Readings.{ReadsNamedInMemory}
use Rattle.cuwajimo.proofs.Folding.{no_first, call_read, plan_read}
use Rattle.cuwajimo.proofs.script.read_words.Goals as goal

pub returns-in-Some : goal.returns-in-Some
returns-in-Some c =
    let words = line_words c.args.line in
    let n = c.args.line.spot.line in
    let on : IsCallOn n words c.in-Some.call = subst (λ (o : Option Call). ReadsNamedInMemory n (NamesCall words) (IsCallOn n words) (Ok o)) c.in-Some.is c.in_ok-call.ensures in
    call_read n words c.args.case.now c.add.new.self c.in-Some.call c.add.result on c.add.ensures.added c.add.ensures.memory

pub returns-in-None : goal.returns-in-None
returns-in-None c =
    let words = line_words c.args.line in
    let n = c.args.line.spot.line in
    let case = c.args.case.now in
    let unnamed : NamesCall words → ⊥ = subst (λ (o : Option Call). ReadsNamedInMemory n (NamesCall words) (IsCallOn n words) (Ok o)) c.in-None.is c.in_ok-call.ensures in
    let none : is_some c.first.result ≡ false = c.is_none.ensures ∙ ap not c.if-is_none.true in
    plan_read n words case c.read.new.self c.read.result unnamed (no_first (calls_on case ++ calls_off case) c.first.result c.first.ensures none) c.read.ensures
