use Rattle.std.proofs.Common.{Ok, Option, subst, ◌∙◌}
use Rattle.std.specs.Prelude.{slice_get}
use Rattle.std.proofs.lemmas.Option.{none-some}
use Rattle.std.proofs.lemmas.Result.{err_from_is_err_and}
use Rattle.cuwajimo.specs.declared.call.Call.{Call}
use Rattle.cuwajimo.specs.declared.call.HostAct.{HostAct}
use Rattle.cuwajimo.specs.CallLines.{AsksFor, IsCallOn, NamesHostAct, host_act_names, common_names}
use Rattle.cuwajimo.specs.Lines.{line_words}
use Rattle.cuwajimo.specs.Readings.{ReadsNamedInMemory}
use Rattle.cuwajimo.proofs.Asked.{host_named, no_host_line, no_common_line}
use Rattle.cuwajimo.proofs.Named.{of_the_first, of_the_others}
use Rattle.cuwajimo.proofs.Troubles.{blamed_for, if_line_weaker}
use Rattle.cuwajimo.proofs.call.read_call.Goals as goal

pub returns-in_err-act : goal.returns-in_err-act
returns-in_err-act c =
    let words = line_words c.args.line in
    let refused = c.in_err-act.ensures in
    let p = err_from_is_err_and c.from_residual.result c.from_residual.ensures.1 in
    rw (p.1, p.2) (
      refused.0,
      of_the_first host_act_names common_names (slice_get words 0) refused.1,
      if_line_weaker c.in_err-act.field-0.0 ((act : HostAct) → AsksFor words act → ⊥) ((call : Call) → IsCallOn c.args.line.spot.line words call → ⊥)
          (λ none call on. no_host_line words refused.1 (λ host act line. none act line.asked) call.act on.said) refused.2,
    )

pub returns-in_err-number-in-Some : goal.returns-in_err-number-in-Some
returns-in_err-number-in-Some c =
    let words = line_words c.args.line in
    let line = c.args.line.spot.line in
    let step = c.from_residual-in_err-number-in-Some in
    let asks : AsksFor words c.in-Some.act = subst (λ (o : Option HostAct). ReadsNamedInMemory line (NamesHostAct words) (AsksFor words) (Ok o)) c.in-Some.is c.in_ok-act.ensures in
    let named = host_named (slice_get words 0) c.in-Some.act asks.name in
    let e = c.in_err-number-in-Some.field-0.0 in
    let p = err_from_is_err_and step.result step.ensures.1 in
    rw (p.1, p.2) (
      c.in_err-number-in-Some.ensures.line,
      of_the_first host_act_names common_names (slice_get words 0) named,
      blamed_for e line ((call : Call) → IsCallOn line words call → ⊥) c.in_err-number-in-Some.ensures.line
          (λ call on. no_host_line words named (λ host act said. none-some host (c.in_err-number-in-Some.ensures.value ∙ said.number)) call.act on.said),
    )

pub returns-in_err-act-in-None : goal.returns-in_err-act-in-None
returns-in_err-act-in-None c =
    let words = line_words c.args.line in
    let line = c.args.line.spot.line in
    let step = c.from_residual-in_err-act-in-None in
    let unnamed : NamesHostAct words → ⊥ = subst (λ (o : Option HostAct). ReadsNamedInMemory line (NamesHostAct words) (AsksFor words) (Ok o)) c.in-None.is c.in_ok-act.ensures in
    let refused = c.in_err-act-in-None.ensures in
    let p = err_from_is_err_and step.result step.ensures.1 in
    rw (p.1, p.2) (
      refused.0,
      of_the_others host_act_names common_names (slice_get words 0) refused.1,
      blamed_for c.in_err-act-in-None.field-0.0 line ((call : Call) → IsCallOn line words call → ⊥) refused.0
          (λ call on. no_common_line words unnamed refused.2 call.act on.said),
    )
