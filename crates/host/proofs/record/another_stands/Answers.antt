use Rattle.std.proofs.Common.{ℕ, Bool, not, ◌&&◌, ◌==◌, ◌∙◌, rules, tests}
use Rattle.std.proofs.lemmas.Iterator.{YieldsList-from_slice}
use Rattle.std.proofs.lemmas.Iterator.Consumers.{YieldsList-from_enumerate}
use Rattle.std.proofs.lemmas.Iterator.Search.{any_from_yields_List}
use Rattle.host.specs.declared.record.Host.{Host}
use Rattle.host.specs.Hosts.{stands}
use Rattle.host.proofs.Below.{any_place}
use Rattle.host.proofs.record.another_stands.Goals as goal

pub returns : goal.returns
returns c =
    let hosts = c.args.hosts.now in
    let test : ℕ × Host → Bool = λ p. not (p.0 == c.args.place) && stands c.args.want p.1 in
    any_from_yields_List test _ _ _ c.any.ensures.ran
    (YieldsList-from_enumerate (YieldsList-from_slice hosts cc) (cc))
    (λ x b q k. search (rules, tests))
    ∙ any_place (λ g host. not (g == c.args.place) && stands c.args.want host) hosts
