-- What the calls of a case make of a device.
use Rattle.std.specs.Prelude.{ℕ, List, [], ◌∷◌, Ok, Err, Result, vec_items}
use Rattle.store.specs.Blocks.{Block}
use Rattle.flex.specs.declared.status.Status.{Status}
use Rattle.flex.specs.declared.unit_map.UnitMap.{UnitMap}
use Rattle.device.specs.Calls as calls
use Rattle.device.specs.Device.{host_of, viewed}
use Rattle.desk.specs.Desks.{held}
use Rattle.desk.specs.Worlds.{World, Made, beside, by_call, by_segment, by_report, by_cancel, parameters_told, at_start, at_end}
use Rattle.cuwajimo.specs.declared.call.Act.{Act}
use Rattle.cuwajimo.specs.declared.call.Act.TheVariants as acts
use Rattle.cuwajimo.specs.declared.call.HostAct.{HostAct}
use Rattle.cuwajimo.specs.declared.call.HostAct.TheVariants as host_acts
use Rattle.cuwajimo.specs.declared.call.Call.{Call}
use Rattle.cuwajimo.specs.declared.session.Outcome.{Outcome}
use Rattle.cuwajimo.specs.declared.session.Outcome.TheVariants.{Served, Refused}
use Rattle.cuwajimo.specs.Bytes.{repeating}

-- The buffer that a call lends: so many bytes, those of its line over and over. Other calls lend an empty one.
abbrev pub lent : HostAct → List ℕ
lent (host_acts.Command bytes) = []
lent (host_acts.Segment filling) = repeating (vec_items filling.bytes) filling.size
lent (host_acts.Report filling) = repeating (vec_items filling.bytes) filling.size
lent host_acts.Cancel = []
lent host_acts.Clear = []
lent host_acts.Notice = []
lent host_acts.Fault = []
lent host_acts.Params = []

-- A host's call: its answer, the buffer as it is left, and the device and its tickets after it.
abbrev pub host_made : World → ℕ → HostAct → List ℕ → Made
host_made w h (host_acts.Command bytes) buffer = beside buffer (by_call w h (calls.command h (vec_items bytes)))
host_made w h (host_acts.Segment filling) buffer = by_segment w h (held w.desk h) buffer
host_made w h (host_acts.Report filling) buffer = by_report w h (held w.desk h) buffer
host_made w h host_acts.Cancel buffer = beside buffer (by_cancel w h (held w.desk h))
host_made w h host_acts.Clear buffer = beside buffer (by_call w h (calls.clear h))
host_made w h host_acts.Notice buffer = beside buffer (by_call w h (calls.notice h))
host_made w h host_acts.Fault buffer = beside buffer (by_call w h (calls.fault h))
host_made w h host_acts.Params buffer = beside buffer (parameters_told (viewed h (host_of w.state h).parameters), w)

-- The device and its tickets after a host's call, made with the buffer that the call lends.
abbrev pub host_left : World → ℕ → HostAct → World
host_left w h act = (host_made w h act (lent act)).world

-- Only a host's call changes anything while the device is on.
abbrev pub act_left : World → Act → World
act_left w (acts.Host h act) = host_left w h act
act_left w acts.Locks = w
act_left w acts.Activity = w
act_left w acts.Off = w
act_left w (acts.Blocks first count) = w
act_left w (acts.Compare pile master) = w
act_left w acts.Save = w

-- The calls of a case, one after the other.
abbrev pub all_left : World → List Call → World
all_left w [] = w
all_left w (call ∷ calls) = all_left (act_left w call.act) calls

-- The blocks that a device over them leaves at power off, after its calls. Where the units make no map there is no device, and they stay.
abbrev pub blocks_left : Result UnitMap Status → ℕ → List Block → List Call → List Block
blocks_left (Ok map) number blocks calls = (at_end (all_left (at_start number map blocks) calls)).blocks
blocks_left (Err status) number blocks calls = blocks

-- With a map of its units a case is served, without one it is refused.
abbrev pub outcome_of : Result UnitMap Status → Outcome
outcome_of (Ok map) = Served
outcome_of (Err status) = Refused
