-- A transaction stays within its unit: the blocks that it has left to move are the unit's.
use Rattle.std.proofs.Common.{◌≡◌, ℕ, ◌+◌, ◌-◌, ◌<◌, ◌≤◌, Bool, true, false, List, length, Some, None, Option, sym, ap, ◌∙◌, subst, arith}
use Rattle.std.proofs.lemmas.Bool.{cond-true, lt-ltb}
use Rattle.std.proofs.lemmas.Bool.Decides.{nat_tests}
use Rattle.store.specs.Blocks.{Block}
use Rattle.message.specs.declared.command.Command.{Command}
use Rattle.message.specs.declared.message.Message.{Message}
use Rattle.flex.specs.declared.unit.Unit.{Unit as DiscUnit}
use Rattle.flex.specs.declared.unit_map.UnitMap.{UnitMap}
use Rattle.flex.specs.Maps.{unit_at, block_in}
use Rattle.host.specs.declared.mail.Mail.{Mail}
use Rattle.host.specs.declared.progress.Progress.{Progress}
use Rattle.host.specs.declared.record.Host.{Host}
use Rattle.host.specs.declared.transaction.Transaction.{Transaction}
use Rattle.host.specs.Hosts.{unit_of, is_unit, works_on}
use Rattle.host.specs.Messages.{blocks_of, unit_size, describes, moves, moving, opened, accepted as accepted_by}
use Rattle.host.specs.Progress.{advanced}
use Rattle.device.specs.Calls.{Call}
use Rattle.transfer.specs.Segments.{first_in, start_of, reach_of, moved_by_command}
use Rattle.transfer.proofs.EachBlock.{moved_short}
use Rattle.device.specs.Device.{Fixed, Served, does, serve}
use Rattle.device.specs.Isolation.{In}
use Rattle.device.proofs.Served.{does_ways, refused_transaction}

-- The blocks that a transaction has left end in its unit, and if there are any, it is on that unit; an Extended Describe has none.
pub record Inside (map : UnitMap) (t : Transaction) : Type 0 where
  pub ends : t.at + t.left ≤ unit_size map t.unit
  pub on_it : 0 < t.left → is_unit (unit_of t.command t.unit) t.unit ≡ true
  pub quiet : describes t.command ≡ true → t.left ≡ 0

abbrev pub Fits : UnitMap → Option Transaction → Type 0
Fits map None = Unit {0}
Fits map (Some t) = Inside map t

moves_on : (k : Option Command) (u : ℕ) → moves k ≡ true → is_unit (unit_of k u) u ≡ true
moves_on k u e = grind (arith, nat_tests)

moving_ends : (map : UnitMap) (k : Option Command) (u address count : ℕ) → let t = moving k u (unit_size map u) address count in t.at + t.left ≤ unit_size map t.unit
moving_ends map k u address count = grind (arith, nat_tests)

opened_ends : (map : UnitMap) (m : Message) → let t = opened map m in t.at + t.left ≤ unit_size map t.unit
opened_ends map m = grind (arith, nat_tests, moving_ends)

opened_on : (map : UnitMap) (m : Message) → let t = opened map m in 0 < t.left → is_unit (unit_of t.command t.unit) t.unit ≡ true
opened_on map m = grind (arith, nat_tests, moves_on)

opened_quiet : (map : UnitMap) (m : Message) → describes (opened map m).command ≡ true → (opened map m).left ≡ 0
opened_quiet map m = grind (arith, nat_tests)

opened_fits : (map : UnitMap) (m : Message) → Fits map (Some (opened map m))
opened_fits map m = record { ends = opened_ends map m; on_it = opened_on map m; quiet = opened_quiet map m }

advanced_fits : (map : UnitMap) (t : Transaction) (p : Progress) → Fits map (Some t) → Fits map (Some (advanced t p))
advanced_fits map t p k = record { ends = omega (arith, k.ends); on_it = λ l. k.on_it (omega arith); quiet = λ d. omega (arith, k.quiet d) }

accepted_fits : (map : UnitMap) (m : Message) (x : Host) → Fits map (accepted_by map m x).transaction
unfolding accepted_by
accepted_fits map m x = opened_fits map m

module _ (f : Fixed) (o : Option Message) (x : Host) (m : Mail) (os : List (Option Block)) (c : Call) where
  does_fits : Fits f.map x.transaction → Fits f.map (does f o x m os c).host.transaction
  does_fits k = does_ways f o x os c (λ (d : Served). Fits f.map d.host.transaction) (record {
    stays = λ _. k;
    refuses = λ _ s. subst (Fits f.map) (sym (refused_transaction s x)) k;
    accepts = λ _ _ _ n _ _. accepted_fits f.map n x;
    moves = λ t e _ b _ buffer _. advanced_fits f.map t (moved_by_command t.command t b os buffer).progress (subst (Fits f.map) e k);
    ends = λ _. tt;
    clears = λ _ _. tt;
  }) m

  pub serve_fits : (b : Bool) → Fits f.map x.transaction → Fits f.map (serve b f o x m os c).host.transaction
  serve_fits true k = k
  serve_fits false k = does_fits k

-- ---- The span of the next segment is in the transaction's unit.

pub in_unit : (o : Option DiscUnit) (b : ℕ) → first_in o ≤ b → b < first_in o + blocks_of o → block_in (b - first_in o) o ≡ Some b
in_unit None b p q = absurd (omega arith)
in_unit (Some u) b p q = let l : b - u.first < blocks_of (Some u) = omega arith in cond-true _ _ _ (lt-ltb _ _ l) ∙ ap Some (omega arith)

pub span_in : (map : UnitMap) (o : Option Transaction) → Fits map o → (b : ℕ) → start_of map o ≤ b → b < start_of map o + reach_of o → (u : ℕ) × (works_on o u ≡ true) × In map u b
span_in map None w b p q = absurd (omega arith)
span_in map (Some t) w b p q =
    (t.unit, w.on_it (omega arith), (b - first_in (unit_at map t.unit), in_unit (unit_at map t.unit) b (omega (arith, w.ends)) (omega (arith, w.ends))))

-- ---- No more is put than the span holds.

module _ (f : Fixed) (o : Option Message) (x : Host) (m : Mail) (os : List (Option Block)) (c : Call) where
  pub serve_short : (b : Bool) → length (serve b f o x m os c).put ≤ length os
  serve_short true = omega arith
  serve_short false = does_ways f o x os c (λ (d : Served). length d.put ≤ length os) (record {
    stays = λ _. omega arith;
    refuses = λ _ _. omega arith;
    accepts = λ _ _ _ _ _ _. omega arith;
    moves = λ t _ _ b _ buffer _. moved_short t.command t b os buffer;
    ends = λ _. omega arith;
    clears = λ _ _. omega arith;
  }) m
