use Rattle.std.proofs.Common.{◌≡◌, ap, ◌∙◌, rules}
use Rattle.layer.specs.Guards.{guarded}
use Rattle.layer.specs.Windows.{windowed}
use Rattle.cuwajimo.specs.Plans.{layers}
use Rattle.cuwajimo.proofs.Layers.{plain_layers}
use Rattle.cuwajimo.proofs.pile.layered.Goals as goal

pub returns : goal.returns
returns g c =
    let blocks = g.S.ReadStore.blocks in
    let e : c.new-2.result ≡ layers c.args.plan.now c.args.image = search rules in
    record {
      exact = e;
      plain = λ none.
          ap (guarded (windowed blocks)) e
          ∙ plain_layers blocks c.args.plan.now c.args.image (g.S.ReadStore.sized c.args.image).few none;
    }
