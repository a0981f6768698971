use Rattle.std.proofs.Common.{◌≡◌, Ok, Err, rules}
use Rattle.flex.specs.declared.status.Status.TheVariants.{MessageLength}
use Rattle.message.specs.Decoding.{decoded}
use Rattle.message.proofs.Laws.{accepts, refuses}
use Rattle.message.proofs.decode.decode.Goals as goal

pub returns-then-is_empty : goal.returns-then-is_empty
unfolding decoded
returns-then-is_empty c =
    let e : Err MessageLength ≡ decoded c.args.map.now c.args.own c.args.message.now = search rules in
    record { is = e; accepts = accepts _ _ _ _ e; refuses = refuses _ _ _ _ e }

pub returns-in_err-scan : goal.returns-in_err-scan
unfolding decoded
returns-in_err-scan c =
    let e : c.from_residual.result ≡ decoded c.args.map.now c.args.own c.args.message.now = search rules in
    record { is = e; accepts = accepts _ _ _ _ e; refuses = refuses _ _ _ _ e }

pub returns : goal.returns
unfolding decoded
returns c =
    let e : Ok c.finish.result ≡ decoded c.args.map.now c.args.own c.args.message.now = search rules in
    record { is = e; accepts = accepts _ _ _ _ e; refuses = refuses _ _ _ _ e }
