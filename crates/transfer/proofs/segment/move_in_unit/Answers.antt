use Rattle.std.proofs.Common.{◌≡◌, ◌+◌, refl, sym, ap, ◌∙◌}
use Rattle.flex.specs.Maps.{unit_at}
use Rattle.host.specs.Progress.{segment_of}
use Rattle.transfer.specs.Segments.{first_of, span, laid, untried, Moved, moved_by_command}
use Rattle.transfer.proofs.Starting.{nothing_left, not_tried}
use Rattle.transfer.proofs.segment.move_in_unit.Goals as goal

pub returns-in-None : goal.returns-in-None
returns-in-None g c =
    let map = c.args.map.now in
    let t = c.args.transaction in
    let bs = g.S.ReadStore.blocks c.args.store.now in
    let b = first_of map t.unit + t.at in
    let none = nothing_left t (unit_at map t.unit) c.requires.lies (sym c.in-None.ensures.is) in
    let is : moved_by_command t.command t b (span bs b (segment_of t)) c.args.buffer.now ≡ untried t c.args.buffer.now =
    ap (λ n. moved_by_command t.command t b (span bs b n) c.args.buffer.now) none ∙ not_tried t.command t b c.args.buffer.now in
    record {
      progress = c.not_tried.ensures ∙ sym (ap (λ (m : Moved). m.progress) is);
      buffer = sym (ap (λ (m : Moved). m.buffer) is);
      after = sym (ap (λ (m : Moved). laid bs b m.put) is);
      base = refl;
    }
