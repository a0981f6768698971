-- What an entry of a trace makes of a device and its tickets.
use Rattle.std.specs.Prelude.{ℕ, List, ◌++◌, length, drop}
use Rattle.device.specs.Calls as calls
use Rattle.device.specs.Device.{host_of, viewed}
use Rattle.desk.specs.Desks.{held}
use Rattle.desk.specs.declared.answer.Answer.TheVariants as answers
use Rattle.desk.specs.Worlds.{World, Made, beside, by_call, by_segment, by_report, by_cancel, parameters_told, locks_told}
use Rattle.trace.specs.Entries.{Entry, command, segment, report, cancel, clear, notice, fault, parameters, locks, activity}

-- The given bytes are laid into the front of the buffer.
abbrev pub laid : List ℕ → List ℕ → List ℕ
laid given buffer = given ++ drop (length given) buffer

-- An entry's call is made: a segment and a report take the buffer with the given bytes laid in, all others leave it, and views change nothing.
unfoldable pub made : World → Entry → List ℕ → Made
made w (command h message) buffer = beside buffer (by_call w h (calls.command h message))
made w (segment h lent) buffer = by_segment w h (held w.desk h) (laid lent.given buffer)
made w (report h lent) buffer = by_report w h (held w.desk h) (laid lent.given buffer)
made w (cancel h) buffer = beside buffer (by_cancel w h (held w.desk h))
made w (clear h) buffer = beside buffer (by_call w h (calls.clear h))
made w (notice h) buffer = beside buffer (by_call w h (calls.notice h))
made w (fault h) buffer = beside buffer (by_call w h (calls.fault h))
made w (parameters h) buffer = beside buffer (parameters_told (viewed h (host_of w.state h).parameters), w)
made w (locks h) buffer = beside buffer (locks_told (viewed h (host_of w.state h).locks), w)
made w activity buffer = beside buffer (answers.Activity w.state.activity, w)
