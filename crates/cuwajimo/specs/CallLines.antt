-- The line of each call, as the list of its words.
use Rattle.std.specs.Prelude.{◌≡◌, ℕ, ◌^◌, List, [], ◌∷◌, ◌++◌, drop, Some, None, vec_items, slice_get, codes}
use Rattle.cuwajimo.specs.declared.call.Act.{Act}
use Rattle.cuwajimo.specs.declared.call.Act.TheVariants as acts
use Rattle.cuwajimo.specs.declared.call.Filling.{Filling}
use Rattle.cuwajimo.specs.declared.call.HostAct.{HostAct}
use Rattle.cuwajimo.specs.declared.call.HostAct.TheVariants as host_acts
use Rattle.cuwajimo.specs.declared.call.Call.{Call}
use Rattle.layer.specs.declared.run.Run.{Run}
use Rattle.cuwajimo.specs.Calls.{host_act_name, act_name}
use Rattle.cuwajimo.specs.Words.{IsOneOf, number_in, all_bytes}

-- Nothing stands after so many words.
abbrev pub EndsAfter : List (List ℕ) → ℕ → Type 0
EndsAfter words n = slice_get words n ≡ None

-- A buffer's size stands after the name of an act and the host, a number below 2^32, and after it the bytes that fill the buffer.
pub record IsFilling (words : List (List ℕ)) (filling : Filling) : Type 0 where
  pub size : number_in (2 ^ 32) (slice_get words 2) ≡ Some filling.size
  pub bytes : all_bytes (drop 3 words) ≡ Some (vec_items filling.bytes)

-- What stands after the name of an act and the host: the bytes of a command's message, a buffer's size and bytes, or nothing.
abbrev pub AreHostOperands : List (List ℕ) → HostAct → Type 0
AreHostOperands words (host_acts.Command bytes) = all_bytes (drop 2 words) ≡ Some (vec_items bytes)
AreHostOperands words (host_acts.Segment filling) = IsFilling words filling
AreHostOperands words (host_acts.Report filling) = IsFilling words filling
AreHostOperands words host_acts.Cancel = EndsAfter words 2
AreHostOperands words host_acts.Clear = EndsAfter words 2
AreHostOperands words host_acts.Notice = EndsAfter words 2
AreHostOperands words host_acts.Fault = EndsAfter words 2
AreHostOperands words host_acts.Params = EndsAfter words 2

-- The line asks for this act, whoever the host is: its first word is the act's name, and what stands after the host is the act's.
pub record AsksFor (words : List (List ℕ)) (act : HostAct) : Type 0 where
  pub name : slice_get words 0 ≡ Some (host_act_name act)
  pub operands : AreHostOperands words act

-- The line of an act for a host: the host, a number below 256, is its second word.
pub record IsHostLine (words : List (List ℕ)) (host : ℕ) (act : HostAct) : Type 0 where
  pub asked : AsksFor words act
  pub number : number_in 256 (slice_get words 1) ≡ Some host

-- What stands after the name of `blocks`: two numbers below 2^32, and nothing after them.
pub record AreBlocks (words : List (List ℕ)) (first count : ℕ) : Type 0 where
  pub from : number_in (2 ^ 32) (slice_get words 1) ≡ Some first
  pub number : number_in (2 ^ 32) (slice_get words 2) ≡ Some count
  pub end : EndsAfter words 3

-- The call is a `blocks` of two such numbers.
abbrev pub IsBlocks : List (List ℕ) → Act → Type 0
IsBlocks words (acts.Host host act) = ⊥
IsBlocks words acts.Locks = ⊥
IsBlocks words acts.Activity = ⊥
IsBlocks words acts.Off = ⊥
IsBlocks words (acts.Blocks first count) = AreBlocks words first count
IsBlocks words (acts.Compare pile master) = ⊥
IsBlocks words acts.Save = ⊥

-- What stands after the name of `compare`: a run of the pile's blocks and one of the master's, each by two numbers below 2^32, and nothing after them.
pub record AreCompared (words : List (List ℕ)) (pile master : Run) : Type 0 where
  pub from : number_in (2 ^ 32) (slice_get words 1) ≡ Some pile.first
  pub number : number_in (2 ^ 32) (slice_get words 2) ≡ Some pile.count
  pub master_from : number_in (2 ^ 32) (slice_get words 3) ≡ Some master.first
  pub master_number : number_in (2 ^ 32) (slice_get words 4) ≡ Some master.count
  pub end : EndsAfter words 5

-- The call is a `compare` of two such runs.
abbrev pub IsCompare : List (List ℕ) → Act → Type 0
IsCompare words (acts.Host host act) = ⊥
IsCompare words acts.Locks = ⊥
IsCompare words acts.Activity = ⊥
IsCompare words acts.Off = ⊥
IsCompare words (acts.Blocks first count) = ⊥
IsCompare words (acts.Compare pile master) = AreCompared words pile master
IsCompare words acts.Save = ⊥

-- What stands after the name of a call that is for no host: the run of `blocks`, the runs of `compare`, or nothing.
abbrev pub AreCommonOperands : List (List ℕ) → Act → Type 0
AreCommonOperands words (acts.Host host act) = ⊥
AreCommonOperands words acts.Locks = EndsAfter words 1
AreCommonOperands words acts.Activity = EndsAfter words 1
AreCommonOperands words acts.Off = EndsAfter words 1
AreCommonOperands words (acts.Blocks first count) = AreBlocks words first count
AreCommonOperands words (acts.Compare pile master) = AreCompared words pile master
AreCommonOperands words acts.Save = EndsAfter words 1

-- The line of a call that is for no host: its first word is the call's name, and what stands after it is the call's.
pub record IsCommonLine (words : List (List ℕ)) (act : Act) : Type 0 where
  pub name : slice_get words 0 ≡ Some (act_name act)
  pub operands : AreCommonOperands words act

-- The line of a call, for a host or for none.
abbrev pub IsCallLine : List (List ℕ) → Act → Type 0
IsCallLine words (acts.Host host act) = IsHostLine words host act
IsCallLine words acts.Locks = IsCommonLine words acts.Locks
IsCallLine words acts.Activity = IsCommonLine words acts.Activity
IsCallLine words acts.Off = IsCommonLine words acts.Off
IsCallLine words (acts.Blocks first count) = IsCommonLine words (acts.Blocks first count)
IsCallLine words (acts.Compare pile master) = IsCommonLine words (acts.Compare pile master)
IsCallLine words acts.Save = IsCommonLine words acts.Save

-- The names of the acts for a host.
abbrev pub host_act_names : List (List ℕ)
host_act_names = codes "command" ∷ codes "segment" ∷ codes "report" ∷ codes "cancel" ∷ codes "clear" ∷ codes "notice" ∷ codes "fault" ∷ codes "params" ∷ []

-- The names of the calls that are for no host.
abbrev pub common_names : List (List ℕ)
common_names = codes "locks" ∷ codes "activity" ∷ codes "off" ∷ codes "save" ∷ codes "blocks" ∷ codes "compare" ∷ []

-- The names of all calls.
abbrev pub call_names : List (List ℕ)
call_names = host_act_names ++ common_names

-- The first word is the name of an act for a host.
abbrev pub NamesHostAct : List (List ℕ) → Type 0
NamesHostAct words = IsOneOf host_act_names (slice_get words 0)

-- It is the name of a call that is for no host.
abbrev pub NamesCommon : List (List ℕ) → Type 0
NamesCommon words = IsOneOf common_names (slice_get words 0)

-- It is the name of a call.
abbrev pub NamesCall : List (List ℕ) → Type 0
NamesCall words = IsOneOf call_names (slice_get words 0)

-- A call is what its line says, and has the line's number.
pub record IsCallOn (line : ℕ) (words : List (List ℕ)) (call : Call) : Type 0 where
  pub said : IsCallLine words call.act
  pub line_is : call.line ≡ line
