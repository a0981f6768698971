-- What a fault call answers, by what the host's segments met.
use Rattle.std.specs.Prelude.{◌≡◌, ℕ, suc, ◌<◌, Bool, true, false, cond, List, [], ◌∷◌, ◌++◌, take, is_some, Some, None, Ok, Err, Option, Result}
use Rattle.std.specs.List.{slice_get}
use Rattle.store.specs.declared.fault.StoreFault.{StoreFault}
use Rattle.store.specs.Blocks.{Block, read_at, write_at}
use Rattle.message.specs.declared.command.Command.{Command}
use Rattle.message.specs.declared.command.Command.TheVariants as commands
use Rattle.host.specs.declared.fault.HostFault.{HostFault}
use Rattle.host.specs.declared.transaction.Transaction.{Transaction}
use Rattle.device.specs.Calls.{Call, clear, fault, Answer, accepted, moved, done, faulted}
use Rattle.transfer.specs.Segments.{span}
use Rattle.device.specs.Device.{State, host_of, start, reach, answer, next, run}
use Rattle.device.specs.Isolation.{by_host}

-- The fault of one block, if the store answers with one: it is kept with the unit and the block's address there.
abbrev pub fault_here : Result (Unit {0}) StoreFault → ℕ → ℕ → List HostFault
fault_here (Ok x) u a = []
fault_here (Err f) u a = record { fault = record { store = f }; unit = u; address = a } ∷ []

-- The faults that the store answers with at the blocks of a span of unit u, in order. The span begins at block b of the store, and at address a
-- of the unit.
abbrev pub faults_in : (ℕ → Option Block → Result (Unit {0}) StoreFault) → ℕ → ℕ → ℕ → List (Option Block) → List HostFault
faults_in asked u b a [] = []
faults_in asked u b a (o ∷ os) = fault_here (asked b o) u a ++ faults_in asked u (suc b) (suc a) os

-- The faults that a segment meets, by its command. Read and Verify read each block of the span. A Write writes its blocks up to the first fault, and
-- with something to report it writes none. Nothing else asks the store for a block.
abbrev pub faults_met : Option Command → Transaction → ℕ → List (Option Block) → List HostFault
faults_met (Some commands.Read) t b os = faults_in read_at t.unit b t.at os
faults_met (Some commands.Verify) t b os = faults_in read_at t.unit b t.at os
faults_met (Some commands.Write) t b os = cond (is_some t.outcome) [] (take 1 (faults_in write_at t.unit b t.at os))
faults_met other t b os = []

-- The faults that the next segment of an open transaction meets; with none open, no faults.
abbrev pub faults_of : Option Transaction → ℕ → List (Option Block) → List HostFault
faults_of None b os = []
faults_of (Some t) b os = faults_met t.command t b os

-- The faults that the next segment of host h meets.
abbrev pub faults_next : State → ℕ → List HostFault
faults_next s h = faults_of (host_of s h).transaction (start s h) (span s.blocks (start s h) (reach s h))

-- The call is a clear.
abbrev pub is_clear : Call → Bool
is_clear (clear h) = true
is_clear other = false

-- What a host's segments have met after its call c, by what c is answered: an accepted message and a clear that is done begin anew, and a
-- segment that is moved adds what it meets, `here`.
abbrev pub met_after : Call → List HostFault → Answer → List HostFault → List HostFault
met_after c here (accepted k) met = []
met_after c here (moved k buffer) met = met ++ here
met_after c here done met = cond (is_clear c) [] met
met_after c here other met = met

-- What host h's segments meet in a run from s, in order, since its latest accepted message or clear there; before the run they had met `met`.
abbrev pub met_since : ℕ → State → List Call → List HostFault → List HostFault
met_since h s [] met = met
met_since h s (c ∷ cs) met = met_since h (next s c) cs (cond (by_host h c) (met_after c (faults_next s h) (answer s c) met) met)

-- FAULTS, from a device in state `start`, where nothing was met: after any list of calls, host h's fault call answers the first store fault that its
-- segments met since its latest accepted message or clear, and none where they met none.
abbrev pub FaultsFrom : State → Type 0
FaultsFrom start = (calls : List Call) (h : ℕ) → h < 8 → answer (run start calls) (fault h) ≡ faulted (slice_get (met_since h start calls []) 0)
