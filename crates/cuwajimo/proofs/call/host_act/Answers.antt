use Rattle.std.proofs.Common.{◌≡◌, drop, None, inl, inr}
use Rattle.std.specs.Prelude.{slice_get, codes}
use Rattle.std.proofs.lemmas.Result.{err_from_is_err_and}
use Rattle.cuwajimo.specs.declared.call.HostAct.{HostAct}
use Rattle.cuwajimo.specs.declared.call.HostAct.TheVariants.{Cancel, Clear, Notice, Fault, Params}
use Rattle.cuwajimo.specs.declared.call.Filling.{Filling}
use Rattle.cuwajimo.specs.CallLines.{AsksFor, IsFilling}
use Rattle.cuwajimo.specs.Lines.{line_words}
use Rattle.cuwajimo.specs.Words.{all_bytes}
use Rattle.cuwajimo.proofs.Asked.{not_command, not_filling, bare_read, host_named}
use Rattle.cuwajimo.proofs.Named.{reads_name}
use Rattle.cuwajimo.proofs.Troubles.{if_line_weaker}
use Rattle.cuwajimo.proofs.call.host_act.Goals as goal

pub returns-in_err-hex-in-Some-command : goal.returns-in_err-hex-in-Some-command
returns-in_err-hex-in-Some-command c =
    let words = line_words c.args.line in
    let named = reads_name (slice_get words 0) c.first.result c.in-Some-command.field-0 (codes "command") c.first.ensures c.in-Some-command.is c.in-Some-command.is-command in
    let e = c.in_err-hex-in-Some-command.field-0.0 in
    let p = err_from_is_err_and c.from_residual.result c.from_residual.ensures.1 in
    rw (p.1, p.2) (
      c.in_err-hex-in-Some-command.ensures.line,
      inl named,
      if_line_weaker e (all_bytes (drop 2 words) ≡ None) ((act : HostAct) → AsksFor words act → ⊥) (not_command words named) c.in_err-hex-in-Some-command.ensures.value,
    )

pub returns-in_err-size_and_hex-in-Some-segment : goal.returns-in_err-size_and_hex-in-Some-segment
returns-in_err-size_and_hex-in-Some-segment c =
    let words = line_words c.args.line in
    let named = reads_name (slice_get words 0) c.first.result c.in-Some-segment.field-0 (codes "segment") c.first.ensures c.in-Some-segment.is c.in-Some-segment.is-segment in
    let e = c.in_err-size_and_hex-in-Some-segment.field-0.0 in
    let p = err_from_is_err_and c.from_residual-in_err-size_and_hex-in-Some-segment.result c.from_residual-in_err-size_and_hex-in-Some-segment.ensures.1 in
    rw (p.1, p.2) (
      c.in_err-size_and_hex-in-Some-segment.ensures.0,
      inr (inl named),
      if_line_weaker e ((filling : Filling) → IsFilling words filling → ⊥) ((act : HostAct) → AsksFor words act → ⊥) (not_filling words (inl named)) c.in_err-size_and_hex-in-Some-segment.ensures.1,
    )

pub returns-in_err-size_and_hex-in-Some-report : goal.returns-in_err-size_and_hex-in-Some-report
returns-in_err-size_and_hex-in-Some-report c =
    let words = line_words c.args.line in
    let named = reads_name (slice_get words 0) c.first.result c.in-Some-report.field-0 (codes "report") c.first.ensures c.in-Some-report.is c.in-Some-report.is-report in
    let e = c.in_err-size_and_hex-in-Some-report.field-0.0 in
    let p = err_from_is_err_and c.from_residual-in_err-size_and_hex-in-Some-report.result c.from_residual-in_err-size_and_hex-in-Some-report.ensures.1 in
    rw (p.1, p.2) (
      c.in_err-size_and_hex-in-Some-report.ensures.0,
      inr (inr (inl named)),
      if_line_weaker e ((filling : Filling) → IsFilling words filling → ⊥) ((act : HostAct) → AsksFor words act → ⊥) (not_filling words (inr (inl named))) c.in_err-size_and_hex-in-Some-report.ensures.1,
    )

pub returns-in-Some-cancel : goal.returns-in-Some-cancel
returns-in-Some-cancel c =
    let words = line_words c.args.line in
    let named = reads_name (slice_get words 0) c.first.result c.in-Some-cancel.field-0 (codes "cancel") c.first.ensures c.in-Some-cancel.is c.in-Some-cancel.is-cancel in
    bare_read words c.args.line.spot.line Cancel c.alone.result (host_named (slice_get words 0) Cancel named) (inl named) (λ end. record { name = named; operands = end })
    c.alone.ensures.value c.alone.ensures.line

pub returns-in-Some-clear : goal.returns-in-Some-clear
returns-in-Some-clear c =
    let words = line_words c.args.line in
    let named = reads_name (slice_get words 0) c.first.result c.in-Some-clear.field-0 (codes "clear") c.first.ensures c.in-Some-clear.is c.in-Some-clear.is-clear in
    bare_read words c.args.line.spot.line Clear c.alone-in-Some-clear.result (host_named (slice_get words 0) Clear named) (inr (inl named)) (λ end. record { name = named; operands = end })
    c.alone-in-Some-clear.ensures.value c.alone-in-Some-clear.ensures.line

pub returns-in-Some-notice : goal.returns-in-Some-notice
returns-in-Some-notice c =
    let words = line_words c.args.line in
    let named = reads_name (slice_get words 0) c.first.result c.in-Some-notice.field-0 (codes "notice") c.first.ensures c.in-Some-notice.is c.in-Some-notice.is-notice in
    bare_read words c.args.line.spot.line Notice c.alone-in-Some-notice.result (host_named (slice_get words 0) Notice named) (inr (inr (inl named))) (λ end. record { name = named; operands = end })
    c.alone-in-Some-notice.ensures.value c.alone-in-Some-notice.ensures.line

pub returns-in-Some-fault : goal.returns-in-Some-fault
returns-in-Some-fault c =
    let words = line_words c.args.line in
    let named = reads_name (slice_get words 0) c.first.result c.in-Some-fault.field-0 (codes "fault") c.first.ensures c.in-Some-fault.is c.in-Some-fault.is-fault in
    bare_read words c.args.line.spot.line Fault c.alone-in-Some-fault.result (host_named (slice_get words 0) Fault named) (inr (inr (inr (inl named)))) (λ end. record { name = named; operands = end })
    c.alone-in-Some-fault.ensures.value c.alone-in-Some-fault.ensures.line

pub returns-in-Some-params : goal.returns-in-Some-params
returns-in-Some-params c =
    let words = line_words c.args.line in
    let named = reads_name (slice_get words 0) c.first.result c.in-Some-params.field-0 (codes "params") c.first.ensures c.in-Some-params.is c.in-Some-params.is-params in
    bare_read words c.args.line.spot.line Params c.alone-in-Some-params.result (host_named (slice_get words 0) Params named) (inr (inr (inr (inr (inl named))))) (λ end. record { name = named; operands = end })
    c.alone-in-Some-params.ensures.value c.alone-in-Some-params.ensures.line
