-- The words of the lines that a host's calls print.
use Rattle.std.specs.Prelude.{ℕ, Bool, true, false, cond, List, [], ◌++◌, ◌&&◌, length, take, codes, decimal, flat_map}
use Rattle.store.specs.Faults.{kind_word}
use Rattle.flex.specs.declared.status.Status.{Status}
use Rattle.flex.specs.Statuses.{numbers_of}
use Rattle.message.specs.declared.parameters.Parameters.{Parameters}
use Rattle.host.specs.declared.fault.HostFault.{HostFault}
use Rattle.desk.specs.declared.answer.Answer.{Answer}
use Rattle.desk.specs.declared.answer.Answer.TheVariants as answers
use Rattle.cuwajimo.specs.declared.call.HostAct.{HostAct}
use Rattle.cuwajimo.specs.declared.call.HostAct.TheVariants as acts
use Rattle.cuwajimo.specs.declared.say.HostSaid.{HostSaid}
use Rattle.cuwajimo.specs.Calls.{host_act_name}
use Rattle.cuwajimo.specs.Sums.{fnv, hex_digits}

-- Bytes, two digits each.
abbrev pub hex_text : List ℕ → List ℕ
hex_text bytes = flat_map (hex_digits 2) bytes

-- A status is its two numbers.
abbrev pub status_words : Status → List ℕ
status_words status = decimal (numbers_of status).0 ++ (codes "/" ++ decimal (numbers_of status).1)

-- A fault: its kind, the block's number in the pile, the unit and the block's address there.
abbrev pub met_words : HostFault → List ℕ
met_words met =
    kind_word met.fault.store.kind ++ (codes " block " ++ (decimal met.fault.store.block ++ (codes " unit " ++ (decimal met.unit ++ (codes " address " ++ decimal met.address)))))

-- A host's parameters: the unit, the address and the length that its next message goes by.
abbrev pub parameters_words : Parameters → List ℕ
parameters_words p = codes "unit " ++ (decimal p.unit ++ (codes " address " ++ (decimal p.address ++ (codes " length " ++ decimal p.length))))

-- The word for an execution ticket that a call is answered with: after a segment there is more to move.
abbrev pub goes_on : HostAct → List ℕ
goes_on (acts.Command bytes) = codes "execution"
goes_on (acts.Segment filling) = codes "more"
goes_on (acts.Report filling) = codes "execution"
goes_on acts.Cancel = codes "execution"
goes_on acts.Clear = codes "execution"
goes_on acts.Notice = codes "execution"
goes_on acts.Fault = codes "execution"
goes_on acts.Params = codes "execution"

-- The kind of ticket that a call takes, where it takes one of a kind.
abbrev pub wanted : HostAct → List ℕ
wanted (acts.Command bytes) = []
wanted (acts.Segment filling) = codes "execution "
wanted (acts.Report filling) = codes "report "
wanted acts.Cancel = []
wanted acts.Clear = []
wanted acts.Notice = []
wanted acts.Fault = []
wanted acts.Params = []

-- A segment and a report lend a buffer.
abbrev pub lends : HostAct → Bool
lends (acts.Command bytes) = false
lends (acts.Segment filling) = true
lends (acts.Report filling) = true
lends acts.Cancel = false
lends acts.Clear = false
lends acts.Notice = false
lends acts.Fault = false
lends acts.Params = false

-- A call that is done: a report tells its 13 bytes, a notice or a fault that there is none.
abbrev pub done_words : HostAct → List ℕ → List ℕ
done_words (acts.Command bytes) buffer = codes "done"
done_words (acts.Segment filling) buffer = codes "done"
done_words (acts.Report filling) buffer = codes "done " ++ hex_text (take 13 buffer)
done_words acts.Cancel buffer = codes "done"
done_words acts.Clear buffer = codes "done"
done_words acts.Notice buffer = codes "none"
done_words acts.Fault buffer = codes "none"
done_words acts.Params buffer = codes "done"

-- What a call's line tells of its answer. A host's locks and the activity are no answers to a host's call of a script.
abbrev pub told_words : HostAct → Answer → List ℕ → List ℕ
told_words act (answers.Refused status) buffer = codes "refused " ++ status_words status
told_words act answers.Done buffer = done_words act buffer
told_words act answers.Execution buffer = goes_on act
told_words act answers.Report buffer = codes "report"
told_words act answers.NoTicket buffer = codes "no " ++ (wanted act ++ codes "ticket")
told_words act (answers.Notice status) buffer = status_words status
told_words act (answers.Fault met) buffer = met_words met
told_words act (answers.Parameters p) buffer = parameters_words p
told_words act (answers.Locks held) buffer = []
told_words act (answers.Activity count) buffer = []

-- How many bytes a buffer has, and their hash.
abbrev pub lent_words : List ℕ → List ℕ
lent_words buffer = codes ", buffer " ++ (decimal (length buffer) ++ (codes " " ++ hex_digits 16 (fnv buffer)))

-- The call was made, unless the host had no ticket for it.
abbrev pub was_made : Answer → Bool
was_made (answers.Refused status) = true
was_made answers.Done = true
was_made answers.Execution = true
was_made answers.Report = true
was_made answers.NoTicket = false
was_made (answers.Notice status) = true
was_made (answers.Fault met) = true
was_made (answers.Parameters p) = true
was_made (answers.Locks held) = true
was_made (answers.Activity count) = true

-- A call that lends a buffer tells of it, unless it was not made.
abbrev pub tells_buffer : HostAct → Answer → Bool
tells_buffer act answer = lends act && was_made answer

-- The words of the line: the call's name, its host, what came of it, and the buffer.
abbrev pub host_words : ℕ → HostAct → Answer → List ℕ → List ℕ
host_words h act answer buffer =
    host_act_name act ++ (codes " " ++ (decimal h ++ (codes ": " ++ (told_words act answer buffer ++ cond (tells_buffer act answer) (lent_words buffer) []))))

-- So it is printed, by what the code holds of it.
abbrev pub host_said : HostSaid → List ℕ
host_said said = host_words said.host said.act.now said.answer said.buffer.now
