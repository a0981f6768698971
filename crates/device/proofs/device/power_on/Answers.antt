use Rattle.std.proofs.Common.{ℕ, List, replicate, sym, ap, ◌∙◌, subst, refl}
use Rattle.store.specs.Blocks.{Block}
use Rattle.flex.specs.declared.unit_map.UnitMap.{UnitMap}
use Rattle.host.specs.declared.mail.Mail.{Mail}
use Rattle.host.specs.declared.record.Host.{Host}
use Rattle.host.specs.Hosts.{at_start}
use Rattle.device.specs.Device.{State}
use Rattle.device.specs.Isolation.{IsolationFrom}
use Rattle.device.specs.Laws.{ApartnessFrom, ExclusionFrom, WaitsFrom}
use Rattle.device.specs.Notices.{NoticesFrom}
use Rattle.device.specs.Faults.{FaultsFrom}
use Rattle.device.specs.Orders.{EitherOrderFrom}
use Rattle.device.specs.Transfers.{MovingFrom, TransfersFrom}
use Rattle.device.specs.Describing.{DescribingFrom}
use Rattle.device.proofs.Laws.{exclusion, waits}
use Rattle.device.proofs.Runs.{isolation, apartness}
use Rattle.device.proofs.Notices.{notices_from}
use Rattle.device.proofs.Faults.{faults_from}
use Rattle.device.proofs.Orders.{either_order}
use Rattle.device.proofs.Refusals.{refusals_from}
use Rattle.device.proofs.States.{sound_on}
use Rattle.device.proofs.Transfers.{moving_from, transfers_from}
use Rattle.device.proofs.Describing.{describing_from}
use Rattle.device.proofs.Sample.{sampled, sampled_by_device}
use Rattle.device.proofs.Needed.{needed}
use Rattle.device.proofs.OrdersSample.{either_sampled, either_needed}
use Rattle.device.proofs.Small.{small_device}
use Rattle.device.proofs.device.power_on.Goals as goal

abbrev built : ℕ → UnitMap → List Block → Host → Mail → State
built n map bs x m = record { number = n; map = map; hosts = replicate 8 x; mail = replicate 8 m; activity = 0; blocks = bs }

pub returns : goal.returns
returns g c =
    let n = c.args.number in
    let map = c.args.map in
    let bs = g.S.ReadStore.blocks c.args.store in
    let made = ap (λ x. built n map bs x c.powered.result) c.at_start.ensures ∙ ap (built n map bs at_start) c.powered.ensures in
    record {
      made = made;
      base = refl;
      isolation = subst IsolationFrom (sym made) (isolation n map bs);
      apartness = subst ApartnessFrom (sym made) (apartness n map bs);
      either_order = subst EitherOrderFrom (sym made) (either_order n map bs);
      exclusion = subst ExclusionFrom (sym made) (exclusion n map bs);
      waits = subst WaitsFrom (sym made) (waits n map bs);
      notices = subst NoticesFrom (sym made) (notices_from n map bs);
      faults = subst FaultsFrom (sym made) (faults_from n map bs);
      refusals = refusals_from _;
      moving = subst MovingFrom (sym made) (moving_from _ (sound_on n map bs));
      transfers = subst TransfersFrom (sym made) (transfers_from _ (g.S.ReadStore.sized c.args.store).whole (sound_on n map bs));
      describing = subst DescribingFrom (sym made) (describing_from _ (sound_on n map bs));
      sampled = sampled;
      sampled_by_device = sampled_by_device;
      needed = needed;
      either_sampled = either_sampled;
      either_needed = either_needed;
      table = small_device;
    }
