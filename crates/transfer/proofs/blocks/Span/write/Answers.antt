use Rattle.std.proofs.Common.{is_some, ap, sym, ◌∙◌, arith}
use Rattle.std.specs.Result.{result_err}
use Rattle.transfer.proofs.WriteTurns.{one_more, stopped_there}
use Rattle.transfer.proofs.blocks.Span.write.Goals as goal

pub returns-in-Err : goal.returns-in-Err
returns-in-Err g c =
    let done = stopped_there _ _ _ _ _ _ _ _ c.args.buffer.now _ c.loop-k.invariant.1 (omega (arith, c.loop-k-test.true)) c.requires.room c.write_one.ensures.fault c.write_one.ensures.after (ap (λ r. is_some (result_err r)) c.in-Err.is) in
    record { tried = done.0; fault = ap result_err (sym c.in-Err.is) ∙ done.1; after = done.2; base = c.write_one.ensures.base ∙ c.loop-k.invariant.0 }

pub loop-k-preserved : goal.loop-k-preserved
loop-k-preserved g c =
    (c.write_one.ensures.base ∙ c.loop-k.invariant.0, one_more _ _ _ _ _ _ _ _ c.args.buffer.now _ c.loop-k.invariant.1 (omega (arith, c.loop-k-test.true)) c.requires.room c.write_one.ensures.fault c.write_one.ensures.after (ap (λ r. is_some (result_err r)) c.in_default.is))
