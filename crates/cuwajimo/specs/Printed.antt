-- What the calls of a case print.
use Rattle.std.specs.Prelude.{◌≡◌, ◌⊎◌, ℕ, zero, suc, ◌+◌, List, [], ◌∷◌, ◌++◌, length, codes, decimal, Some, None, Ok, Err, Option, Result, vec_items}
use Rattle.std.specs.Io.KnownBytes.{Appends}
use Rattle.layer.specs.declared.run.Run.{Run}
use Rattle.layer.specs.Windows.{window}
use Rattle.master.specs.Compares.{first_unlike}
use Rattle.store.specs.Blocks.{Block}
use Rattle.flex.specs.declared.status.Status.{Status}
use Rattle.flex.specs.declared.unit_map.UnitMap.{UnitMap}
use Rattle.flex.specs.Maps.{Makes}
use Rattle.desk.specs.Worlds.{World, Made, at_start}
use Rattle.image.specs.declared.refusal.Refusal.{Refusal}
use Rattle.image.specs.Refusals.{refusal_text}
use Rattle.cuwajimo.specs.declared.call.Act.{Act}
use Rattle.cuwajimo.specs.declared.call.Act.TheVariants as acts
use Rattle.cuwajimo.specs.declared.call.Call.{Call}
use Rattle.cuwajimo.specs.declared.call.HostAct.{HostAct}
use Rattle.cuwajimo.specs.declared.case.Case.{Case}
use Rattle.cuwajimo.specs.declared.plan.Plan.{Plan}
use Rattle.cuwajimo.specs.declared.medium.Medium.{Medium}
use Rattle.cuwajimo.specs.declared.medium.Medium.TheVariants as media
use Rattle.cuwajimo.specs.declared.plan.Source.{Source}
use Rattle.cuwajimo.specs.declared.plan.Source.TheVariants as sources
use Rattle.cuwajimo.specs.declared.run.Saved.{Saved}
use Rattle.cuwajimo.specs.declared.run.Saved.TheVariants as saves
use Rattle.cuwajimo.specs.declared.session.Outcome.{Outcome}
use Rattle.cuwajimo.specs.Answers.{host_words, status_words}
use Rattle.cuwajimo.specs.Calls.{act_name, calls_off, calls_on}
use Rattle.cuwajimo.specs.Scripts.{HasNoCall}
use Rattle.cuwajimo.specs.Holders.{holders_of, holders_words}
use Rattle.cuwajimo.specs.Left.{Prepared, PileLeft, PileStays}
use Rattle.cuwajimo.specs.Masters.{MasterLoaded, shown_by}
use Rattle.cuwajimo.specs.Media.{medium_offered, medium_refusal, Loaded}
use Rattle.cuwajimo.specs.Plans.{pile_blocks}
use Rattle.cuwajimo.specs.Sessions.{lent, host_made, act_left, blocks_left, outcome_of}
use Rattle.cuwajimo.specs.Shown.{block_said, shown_at}

-- A line ends with a line feed.
abbrev pub line : List ℕ → List ℕ
line words = words ++ 10 ∷ []

-- What a call is asked of: `blocks`, `compare` and `save` of the store that is left after `off`, any other of the device.
abbrev pub needed : Act → List ℕ
needed (acts.Host h act) = codes "device"
needed acts.Locks = codes "device"
needed acts.Activity = codes "device"
needed acts.Off = codes "device"
needed (acts.Blocks first count) = codes "store"
needed (acts.Compare pile master) = codes "store"
needed acts.Save = codes "store"

-- A call for which there is no store, or no device.
abbrev pub nothing_line : Act → List ℕ
nothing_line act = line (act_name act ++ (codes ": no " ++ needed act))

-- Several calls, one after the other.
abbrev pub nothing_lines : List Call → List ℕ
nothing_lines [] = []
nothing_lines (call ∷ calls) = nothing_line call.act ++ nothing_lines calls

-- An image that is refused: with which status.
abbrev pub refused_line : Refusal → List ℕ
refused_line refusal = line (codes "image: refused " ++ refusal_text refusal)

-- A host's call that has come to this.
abbrev pub made_line : ℕ → HostAct → Made → List ℕ
made_line h act m = line (host_words h act m.answer m.buffer)

-- A host's call, made with the buffer that it lends.
abbrev pub host_line : World → ℕ → HostAct → List ℕ
host_line w h act = made_line h act (host_made w h act (lent act))

-- A call while the device is on: who holds its locks, how many blocks were asked for, and for `blocks`, `compare` and `save` that there is no store.
abbrev pub act_line : World → Act → List ℕ
act_line w (acts.Host h act) = host_line w h act
act_line w acts.Locks = line (holders_words (holders_of w.state.hosts))
act_line w acts.Activity = line (codes "activity: " ++ decimal w.state.activity)
act_line w acts.Off = nothing_line acts.Off
act_line w (acts.Blocks first count) = nothing_line (acts.Blocks first count)
act_line w (acts.Compare pile master) = nothing_line (acts.Compare pile master)
act_line w acts.Save = nothing_line acts.Save

-- The calls of a case, one after the other.
abbrev pub all_lines : World → List Call → List ℕ
all_lines w [] = []
all_lines w (call ∷ calls) = act_line w call.act ++ all_lines (act_left w call.act) calls

-- The device's own line: its number, how many units the map has, and how many blocks the pile.
abbrev pub device_line : ℕ → ℕ → ℕ → List ℕ
device_line number units blocks = line (codes "device " ++ (decimal number ++ (codes ": " ++ (decimal units ++ (codes " units, " ++ (decimal blocks ++ codes " blocks"))))))

-- A case whose units make a map: the device's line, and one for each call before `off`. Where they make none: with which status it is refused.
abbrev pub served_lines : Result UnitMap Status → Plan → List Block → List Call → List ℕ
served_lines (Ok map) plan blocks calls = device_line plan.device (length (vec_items plan.units)) (length blocks) ++ all_lines (at_start plan.device map blocks) calls
served_lines (Err status) plan blocks calls = line (codes "map: refused " ++ status_words status)

-- Block n of a pile.
abbrev pub block_line : List Block → ℕ → List ℕ
block_line blocks n = line (block_said (record { block = n; shown = shown_at blocks n }))

-- So many blocks of a pile from the first on: all but the last, and the last.
abbrev pub block_lines : List Block → ℕ → ℕ → List ℕ
block_lines blocks first zero = []
block_lines blocks first (suc n) = block_lines blocks first n ++ block_line blocks (first + n)

-- An image that came from files is written back to them, and any other to none.
abbrev pub saved_of : Source → Medium → Saved
saved_of (sources.Flat blocks) medium = saves.NoFile
saved_of (sources.FlatFiles bytes damage) (media.Flat memory map) = saves.Written
saved_of (sources.FlatFiles bytes damage) (media.Raw memory spares records) = saves.NoFile
saved_of (sources.Raw records spares) medium = saves.NoFile
saved_of (sources.RawFiles bytes spares records) (media.Flat memory map) = saves.NoFile
saved_of (sources.RawFiles bytes spares records) (media.Raw memory places counted) = saves.Written

-- The word for what came of a `save`.
abbrev pub saved_word : Saved → List ℕ
saved_word saves.Written = codes "written"
saved_word saves.NoFile = codes "no file"

-- A `save` of an image that is in this memory.
abbrev pub save_line : Source → Medium → List ℕ
save_line source medium = line (codes "save: " ++ saved_word (saved_of source medium))

-- Blocks of a pile over an image, unless the image is refused.
abbrev pub shown_lines : Option Refusal → List Block → ℕ → ℕ → List ℕ
shown_lines None blocks first count = block_lines blocks first count
shown_lines (Some refusal) blocks first count = refused_line refusal

-- What is told of a comparison: the first block that differs, or that none does.
abbrev pub compared_words : Option ℕ → List ℕ
compared_words None = codes "none differs"
compared_words (Some block) = codes "block " ++ (decimal block ++ codes " differs")

-- A run of a pile's blocks is compared with a run of a master's, and counted from their first.
abbrev pub compare_line : List Block → Run → List Block → Run → List ℕ
compare_line blocks pile of master = line (codes "compare: " ++ compared_words (first_unlike (window blocks pile) (window of master)))

-- Where there is no master that is told; else runs of a pile over an image are compared, unless the image is refused.
abbrev pub compared_lines : Option Refusal → List Block → Run → Option (List Block) → Run → List ℕ
compared_lines refusal blocks pile None master = line (codes "compare: no master")
compared_lines None blocks pile (Some of) master = compare_line blocks pile of master
compared_lines (Some refusal) blocks pile (Some of) master = refused_line refusal

-- A call after `off`, over an image that is in this memory and with the blocks of the master, if there is one: `blocks` shows the pile's, `compare`
-- compares them with the master's, `save` tells whether the image was written, and for any other there is no device.
abbrev pub off_lines : Plan → Source → Medium → Option (List Block) → Act → List ℕ
off_lines plan source medium of (acts.Host h act) = nothing_line (acts.Host h act)
off_lines plan source medium of acts.Locks = nothing_line acts.Locks
off_lines plan source medium of acts.Activity = nothing_line acts.Activity
off_lines plan source medium of acts.Off = nothing_line acts.Off
off_lines plan source medium of (acts.Blocks first count) = shown_lines (medium_refusal medium) (pile_blocks plan (medium_offered medium plan.protection)) first count
off_lines plan source medium of (acts.Compare pile master) = compared_lines (medium_refusal medium) (pile_blocks plan (medium_offered medium plan.protection)) pile of master
off_lines plan source medium of acts.Save = save_line source medium

-- What is printed is some text that is as it should be.
abbrev pub Prints : (List ℕ → Type 0) → Option (List ℕ) → Option (List ℕ) → Type 0
Prints Is old new = (text : List ℕ) × Is text × Appends old new text

-- The calls after `off`, one after the other, each over what is then in the image's memory, which is what a `save` writes: no call changes what the pile
-- shows of it.
abbrev pub AfterOff : Plan → Source → Medium → Option (List Block) → List Call → List ℕ → Type 0
AfterOff plan source medium of [] text = text ≡ []
AfterOff plan source medium of (call ∷ calls) text = (then : Medium) × PileStays plan medium then × (rest : List ℕ) × AfterOff plan source then of calls rest × (text ≡ off_lines plan source medium of call.act ++ rest)

-- The calls from `off` on, if there are any: that the pile is settled, and then those after it.
abbrev pub FromOff : Plan → Source → Medium → Option (List Block) → List Call → List ℕ → Type 0
FromOff plan source medium of [] text = text ≡ []
FromOff plan source medium of (call ∷ calls) text = (rest : List ℕ) × AfterOff plan source medium of calls rest × (text ≡ line (codes "off: settled") ++ rest)

-- A case served over a store of these blocks: by the map that its units make, or by none, the outcome, the blocks after its calls before `off`,
-- and what is printed, by what an output is known to hold before and after.
pub record Serves (case : Case) (blocks : List Block) (outcome : Outcome) (after : List Block) (old new : Option (List ℕ)) : Type 0 where
  pub map : Result UnitMap Status
  pub made : Makes (vec_items case.plan.units) case.plan.end map
  pub ended : outcome ≡ outcome_of map
  pub left : after ≡ blocks_left map case.plan.device blocks (vec_items case.on)
  pub printed : Appends old new (served_lines map case.plan blocks (vec_items case.on))

-- The calls of a case that has no device.
abbrev pub declined_lines : Case → List ℕ
declined_lines case = nothing_lines (calls_on case) ++ nothing_lines (calls_off case)

-- What is printed after the calls before `off`: with a device the calls from `off` on, over what it left in the image's memory; without one, that
-- there is none.
abbrev pub AfterServed : Result UnitMap Status → Case → Source → Medium → Option (List Block) → List ℕ → Type 0
AfterServed (Ok map) case source medium of text =
    (then : Medium)
    × PileLeft case.plan medium (blocks_left (Ok map) case.plan.device (pile_blocks case.plan (medium_offered medium case.plan.protection)) (calls_on case)) then
    × FromOff case.plan source then of (calls_off case) text
AfterServed (Err status) case source medium of text = text ≡ declined_lines case

-- What a case prints whose image is in this memory: that it is refused; or what its device answers, or that its units make no map.
abbrev pub RunOver : Option Refusal → Case → Source → Medium → Option (List Block) → List ℕ → Type 0
RunOver (Some refusal) case source medium of text = text ≡ refused_line refusal ++ declined_lines case
RunOver None case source medium of text =
    (map : Result UnitMap Status)
    × Makes (vec_items case.plan.units) case.plan.end map
    × (rest : List ℕ)
    × AfterServed map case source medium of rest
    × (text ≡ served_lines map case.plan (pile_blocks case.plan (medium_offered medium case.plan.protection)) (calls_on case) ++ rest)

-- What a case prints: nothing, where it has no call; else what it prints over the memory that its image was brought into, as its building lines made it, and
-- with the master that its line brings in.
abbrev pub IsRun : Case → List ℕ → Type 0
IsRun case text =
    (HasNoCall case × (text ≡ []))
    ⊎ ((source : Source) × (case.plan.source ≡ Some source) × (loaded : Medium) × Loaded source loaded × (medium : Medium) × Prepared (vec_items case.plan.fills) loaded medium
    × (memory : Option (List ℕ)) × MasterLoaded case.plan.master memory × RunOver (medium_refusal medium) case source medium (shown_by memory) text)

-- The cases of a script, one after the other.
abbrev pub AreRun : List Case → List ℕ → Type 0
AreRun [] text = text ≡ []
AreRun (case ∷ cases) text = (first : List ℕ) × (rest : List ℕ) × IsRun case first × AreRun cases rest × (text ≡ first ++ rest)
