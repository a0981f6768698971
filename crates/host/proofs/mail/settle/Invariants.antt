use Rattle.host.proofs.Settling.{SettledTo}
use Rattle.host.proofs.mail.settle.Given as goal

abbrev pub invariant-loop-place : goal.invariant-loop-place
invariant-loop-place l = SettledTo l.hosts l.initial.mail l.place l.mail
