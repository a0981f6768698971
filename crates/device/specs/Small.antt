-- A small device, and a table of messages with what they come to: device 5 over a flat open store of 64 sound blocks, block b filled with the byte b,
-- with all hosts cleared.
use Rattle.std.specs.Prelude.{◌≡◌, ℕ, zero, suc, true, List, [], ◌∷◌, ◌++◌, replicate, refl}
use Rattle.std.proofs.Common.{lit≤}
use Rattle.store.specs.Blocks.{Block}
use Rattle.flex.specs.declared.status.Status.{Status}
use Rattle.flex.specs.declared.status.Status.TheVariants as statuses
use Rattle.flex.specs.declared.unit.Unit.{Unit as DiscUnit}
use Rattle.flex.specs.declared.unit_map.UnitMap.{UnitMap}
use Rattle.flex.specs.Maps.{padded}
use Rattle.host.specs.declared.transaction.Phase.{Phase}
use Rattle.device.specs.Calls.{Call, command, segment, clear, Answer, accepted, moved, reported, refusal, returned}
use Rattle.host.specs.declared.transaction.Phase.TheVariants as phases
use Rattle.device.specs.Device.{State, host_of, run, power_on, phase_on}
use Rattle.device.specs.Isolation.{answers}
use Rattle.device.specs.Sample.{filled_with, lock_unit, read_unit, ask_report}

-- Unit 0 has 4 × 2 × 5 blocks, from block 0 on.
abbrev pub unit_0 : DiscUnit
unit_0 = record { first = 0; geometry = record { cylinders = 4; heads = 2; sectors = 5 } }

-- Unit 1 has 3 × 1 × 8 blocks, from block 40 on.
abbrev pub unit_1 : DiscUnit
unit_1 = record { first = 40; geometry = record { cylinders = 3; heads = 1; sectors = 8 } }

-- The map of these two units. Its stated end is 64.
abbrev pub small_map : UnitMap
small_map = record {
  units = padded (unit_0 ∷ unit_1 ∷ []);
  count = 2;
  end = 64;
  full = refl;
  some = lit≤ tt;
  few = lit≤ tt;
  reachable = lit≤ tt;
  counts = refl;
  once = refl;
  within = refl;
}

-- So many open sound blocks, each filled with one byte: the first with this byte, each further one with the byte above.
abbrev pub blocks_from : ℕ → ℕ → List Block
blocks_from byte zero = []
blocks_from byte (suc n) = filled_with byte ∷ blocks_from (suc byte) n

-- Every row starts here afresh.
unfoldable pub small_state : State
small_state =
    run (power_on 5 small_map (blocks_from 0 64)) (clear 0 ∷ clear 1 ∷ clear 2 ∷ clear 3 ∷ clear 4 ∷ clear 5 ∷ clear 6 ∷ clear 7 ∷ [])

-- What is seen of an answer: of a ticket its phase, and of a buffer every byte.
pub data Seen : Type 0 where
  accepts : Phase → Seen
  moves : Phase → List ℕ → Seen
  reports : List ℕ → Seen
  refuses : Status → Seen
  hands_back : Status → List ℕ → Seen
  answers_else : Seen

-- An answer as it is seen: a refusal by its status, and by the buffer that it hands back with a ticket; a call that is done, a notice and a fault are
-- not told apart.
abbrev pub seen : Answer → Seen
seen (accepted k) = accepts (phase_on k)
seen (moved k buffer) = moves (phase_on k) buffer
seen (reported buffer) = reports buffer
seen (refusal s) = refuses s
seen (returned s k buffer) = hands_back s buffer
seen other = answers_else

-- What is seen of each answer of a list, in order.
abbrev pub all_seen : List Answer → List Seen
all_seen [] = []
all_seen (a ∷ more) = seen a ∷ all_seen more

-- A row: the calls, what is seen of each, and a host with its target address after them.
pub record Row : Type 0 where
  pub calls : List Call
  pub sees : List Seen
  pub host : ℕ
  pub address : ℕ

-- Host 0 moves a segment, with a buffer of so many bytes, each of them this byte.
abbrev pub move : ℕ → ℕ → Call
move size byte = segment (record { device = 5; host = 0 }) (replicate size byte)

-- The bytes of so many blocks of the small device, from block b on.
abbrev pub bytes_from : ℕ → ℕ → List ℕ
bytes_from b zero = []
bytes_from b (suc n) = replicate 256 b ++ bytes_from (suc b) n

-- The buffer of a report: the report's 13 bytes, and after them what it held.
abbrev pub told : List ℕ → Seen
told bytes = reports (bytes ++ replicate 3 0xaa)

-- A report without a status: all is well.
abbrev pub fine : Seen
fine = told (replicate 13 0)

-- A report of 8/5.
abbrev pub end_of_volume : Seen
end_of_volume = told (1 ∷ 8 ∷ 5 ∷ replicate 10 0)

-- Unit 0, vector 2, 1, 3.
abbrev pub to_28 : Call
to_28 = command 0 (0x20 ∷ 0x11 ∷ 0 ∷ 0 ∷ 2 ∷ 1 ∷ 0 ∷ 3 ∷ [])

-- Host 0's message for the last block of unit 0, block 39, with this command.
abbrev pub last_block : ℕ → Call
last_block code = command 0 (0x20 ∷ 0x10 ∷ 0 ∷ 0 ∷ 0 ∷ 0 ∷ 0 ∷ 0x27 ∷ 0x18 ∷ 0 ∷ 0 ∷ 1 ∷ 0 ∷ code ∷ [])

-- The twelve rows; what each shows stands above it.
unfoldable pub table : List Row
table =
    -- unit 0, vector 2, 1, 3: address 28
    record { calls = to_28 ∷ ask_report 0 ∷ []; sees = accepts phases.Report ∷ fine ∷ []; host = 0; address = 28 }
    -- unit 0, vector 0, 2, 0: 1/3, and the address, which was 28, is 0
    ∷ record {
      calls = to_28 ∷ ask_report 0 ∷ command 0 (0x20 ∷ 0x11 ∷ 0 ∷ 0 ∷ 0 ∷ 2 ∷ 0 ∷ 0 ∷ []) ∷ [];
      sees = accepts phases.Report ∷ fine ∷ refuses statuses.AddressBounds ∷ [];
      host = 0;
      address = 0;
    }
    -- an empty message: 2/0
    ∷ record { calls = command 0 [] ∷ []; sees = refuses statuses.MessageLength ∷ []; host = 0; address = 0 }
    -- No Op alone: straight to a report of 0
    ∷ record { calls = command 0 (0x34 ∷ []) ∷ ask_report 0 ∷ []; sees = accepts phases.Report ∷ fine ∷ []; host = 0; address = 0 }
    -- there is no unit 2: 1/2
    ∷ record { calls = command 0 (0x22 ∷ 0x00 ∷ []) ∷ []; sees = refuses statuses.ModuleAddressing ∷ []; host = 0; address = 0 }
    -- a command is the last code: 1/6
    ∷ record { calls = command 0 (0x00 ∷ 0x20 ∷ []) ∷ []; sees = refuses statuses.MessageSequence ∷ []; host = 0; address = 0 }
    -- a length of 257 bytes: 1/4
    ∷ record { calls = command 0 (0x18 ∷ 0 ∷ 0 ∷ 1 ∷ 1 ∷ 0x00 ∷ []) ∷ []; sees = refuses statuses.ParameterBounds ∷ []; host = 0; address = 0 }
    -- two blocks from the last on: 8/5, and address 0
    ∷ record {
      calls = command 0 (0x20 ∷ 0x10 ∷ 0 ∷ 0 ∷ 0 ∷ 0 ∷ 0 ∷ 0x27 ∷ 0x18 ∷ 0 ∷ 0 ∷ 2 ∷ 0 ∷ 0x00 ∷ []) ∷ ask_report 0 ∷ [];
      sees = accepts phases.Report ∷ end_of_volume ∷ [];
      host = 0;
      address = 0;
    }
    -- the last block alone: one segment, with that block's bytes, and address 40
    ∷ record {
      calls = last_block 0x00 ∷ move 256 0x81 ∷ ask_report 0 ∷ [];
      sees = accepts phases.Execution ∷ moves phases.Report (bytes_from 39 1) ∷ fine ∷ [];
      host = 0;
      address = 40;
    }
    -- Read after clear is of the whole unit: segments of 8,192 and 2,048 bytes, and no less will do; a longer buffer's other bytes stay
    ∷ record {
      calls = command 0 (0x00 ∷ []) ∷ move 8191 0x81 ∷ move 8192 0x82 ∷ move 2047 0x83 ∷ move 2050 0x84 ∷ ask_report 0 ∷ [];
      sees = accepts phases.Execution
          ∷ hands_back statuses.BadBuffer (replicate 8191 0x81)
          ∷ moves phases.Execution (bytes_from 0 32)
          ∷ hands_back statuses.BadBuffer (replicate 2047 0x83)
          ∷ moves phases.Report (bytes_from 32 8 ++ 0x84 ∷ 0x84 ∷ [])
          ∷ fine
          ∷ [];
      host = 0;
      address = 40;
    }
    -- the last block is written, and then read
    ∷ record {
      calls = last_block 0x02 ∷ move 256 0x81 ∷ ask_report 0 ∷ last_block 0x00 ∷ move 256 0x82 ∷ ask_report 0 ∷ [];
      sees = accepts phases.Execution
          ∷ moves phases.Report (replicate 256 0x81)
          ∷ fine
          ∷ accepts phases.Execution
          ∷ moves phases.Report (replicate 256 0x81)
          ∷ fine
          ∷ [];
      host = 0;
      address = 40;
    }
    -- unit 1 is locked by host 0, and host 1 would read it: 4/3
    ∷ record { calls = lock_unit 0 1 ∷ ask_report 0 ∷ read_unit 1 1 ∷ []; sees = accepts phases.Report ∷ fine ∷ refuses statuses.ResourceUnavailable ∷ []; host = 1; address = 0 }
    ∷ []

-- What the rules give for each row: what is seen of the answers to its calls, and its host's target address after them.
abbrev pub given : List Row → List (List Seen × ℕ)
given [] = []
given (r ∷ rows) = (all_seen (answers (λ _. true) small_state r.calls), (host_of (run small_state r.calls) r.host).parameters.address) ∷ given rows

-- What each row says of the same.
abbrev pub stated : List Row → List (List Seen × ℕ)
stated [] = []
stated (r ∷ rows) = (r.sees, r.address) ∷ stated rows

-- Every row follows from the rules.
abbrev pub Table : Type 0
Table = given table ≡ stated table
