-- The bytes of the answers to the calls of a trace.
use Rattle.std.specs.Prelude.{ℕ, ◌+◌, ◌-◌, ◌*◌, Bool, List, [], ◌∷◌, ◌++◌, length, replicate, if◌then◌else◌}
use Rattle.std.specs.Int.{w16, w32, w64, to_be_bytes}
use Rattle.store.specs.declared.fault.FaultKind.{FaultKind}
use Rattle.store.specs.declared.fault.FaultKind.TheVariants as kinds
use Rattle.flex.specs.declared.status.Status.{Status}
use Rattle.flex.specs.Statuses.{numbers_of}
use Rattle.message.specs.declared.parameters.Parameters.{Parameters}
use Rattle.host.specs.declared.fault.HostFault.{HostFault}
use Rattle.host.specs.declared.locks.Locks.{Locks}
use Rattle.desk.specs.declared.answer.Answer.{Answer}
use Rattle.desk.specs.declared.answer.Answer.TheVariants as answers

-- Sixteen bytes: those that tell something, and zeros.
abbrev pub filled : List ℕ → List ℕ
filled bytes = bytes ++ replicate (16 - length bytes) 0

-- The status of a refusal or a notice: the number that says which of the two it is, then the group and the code.
abbrev pub status_bytes : ℕ → Status → List ℕ
status_bytes number status = filled (number ∷ (numbers_of status).0 ∷ (numbers_of status).1 ∷ [])

-- The number that tells a fault's kind.
abbrev pub kind_number : FaultKind → ℕ
kind_number kinds.Length = 0
kind_number kinds.Beyond = 1
kind_number kinds.Damaged = 2
kind_number kinds.Protected = 3

-- A fault: 6, its kind, the block's number in four bytes, the unit, and the block's address there in four; the most significant byte comes first.
abbrev pub fault_bytes : HostFault → List ℕ
fault_bytes f = filled (6 ∷ kind_number f.fault.store.kind ∷ to_be_bytes w32 f.fault.store.block ++ f.unit ∷ to_be_bytes w32 f.address)

-- Parameters: 7, the unit, then the address and the length in four bytes each, the most significant byte first.
abbrev pub parameters_bytes : Parameters → List ℕ
parameters_bytes p = filled (7 ∷ p.unit ∷ to_be_bytes w32 p.address ++ to_be_bytes w32 p.length)

-- A bit for each unit whose lock is held, that of the first unit lowest.
abbrev pub unit_bits : List Bool → ℕ
unit_bits [] = 0
unit_bits (held ∷ others) = (if held then 1 else 0) + 2 * unit_bits others

-- A host's locks: 8, then 1 if it holds the device's, else 0, and the bits of the units in two bytes, the most significant byte first.
abbrev pub locks_bytes : Locks → List ℕ
locks_bytes l = filled (8 ∷ (if l.device then 1 else 0) ∷ to_be_bytes w16 (unit_bits l.units))

-- The first byte says what an answer is.
unfoldable pub answer_bytes : Answer → List ℕ
answer_bytes (answers.Refused status) = status_bytes 0 status
answer_bytes answers.Done = filled (1 ∷ [])
answer_bytes answers.Execution = filled (2 ∷ [])
answer_bytes answers.Report = filled (3 ∷ [])
answer_bytes answers.NoTicket = filled (4 ∷ [])
answer_bytes (answers.Notice status) = status_bytes 5 status
answer_bytes (answers.Fault fault) = fault_bytes fault
answer_bytes (answers.Parameters parameters) = parameters_bytes parameters
answer_bytes (answers.Locks locks) = locks_bytes locks
answer_bytes (answers.Activity count) = filled (9 ∷ to_be_bytes w64 count)
