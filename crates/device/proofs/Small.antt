-- The small device's table, by computing it.
use Rattle.std.proofs.Common.{refl}
use Rattle.message.specs.Decoding.{decoded}
use Rattle.host.specs.Hosts.{stands, some_below}
use Rattle.host.specs.Messages.{judged, refused, accepted}
use Rattle.host.specs.Waits.{settle}
use Rattle.transfer.specs.Segments.{moved_by_command}
use Rattle.device.specs.Device.{answer, next}
use Rattle.device.specs.Small.{Table, small_state, table}

pub small_device : Table
unfolding answer next decoded stands some_below judged refused accepted settle moved_by_command small_state table
small_device = refl
