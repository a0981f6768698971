use Rattle.std.proofs.Common.{length, arith, rules}
use Rattle.std.proofs.lemmas.List.FromFn.{fill_by_all}
use Rattle.host.specs.Waits.{settle, settled, silent, mail_at}
use Rattle.host.proofs.Settling.{settled_more}
use Rattle.host.proofs.mail.settle.Goals as goal

pub loop-place-preserved : goal.loop-place-preserved
loop-place-preserved c = settled_more c.args.hosts.now c.args.mail.now _ c.loop-place.place _ (omega arith) c.loop-place.invariant (search rules)

pub returns : goal.returns
unfolding settle
returns c =
    let hosts = c.args.hosts.now in
    let ms = c.args.mail.now in
    fill_by_all (λ g. settled hosts g (mail_at ms g)) _ (length ms) silent (omega arith) (λ k h. c.loop-place.invariant.0 k (omega arith))
