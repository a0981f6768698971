-- Every sound block keeps 256 bytes, whatever is called.
use Rattle.std.proofs.Common.{◌≡◌, ℕ, suc, ◌*◌, ◌≤◌, Bool, true, false, cond, ◌&&◌, leb, ◌⊎◌, List, [], ◌∷◌, length, take, drop, set, Some, None, Ok, Err, Option, Result, sym, refl, ap, ◌∙◌, subst, inl, inr, arith}
use Rattle.std.proofs.lemmas.List.{length-take, length-drop}
use Rattle.std.proofs.lemmas.Bool.{cases_eq, leb-true}
use Rattle.std.specs.List.{slice_get}
use Rattle.std.specs.Option.{option_map}
use Rattle.store.specs.declared.fault.StoreFault.{StoreFault}
use Rattle.store.specs.Blocks.{Block, Whole, WholeOf, open_block, write_at}
use Rattle.store.proofs.Nth.{nth_set_same, nth_set_other}
use Rattle.message.specs.declared.command.Command.{Command}
use Rattle.message.specs.declared.command.Command.TheVariants as commands
use Rattle.flex.specs.declared.status.Status.TheVariants as statuses
use Rattle.flex.specs.declared.unit_map.UnitMap.{UnitMap}
use Rattle.host.specs.declared.transaction.Failure.{Failure}
use Rattle.host.specs.declared.transaction.Transaction.{Transaction}
use Rattle.host.specs.Progress.{lies_in, segment_of}
use Rattle.transfer.specs.Segments.{put, put_next, laid, write_by, moved_by_command, is_verify, holds_blocks, refusal_of, reach_of}
use Rattle.transfer.proofs.EachBlock.{Wholes}
use Rattle.transfer.proofs.Spans.{length_span}
use Rattle.device.specs.Calls.{Call, by}
use Rattle.device.specs.Device.{State, host_of, mail_of, fixed, asked, in_way, Served, served, serve, start, reach, next, run}
use Rattle.device.proofs.Served.{does_ways}
use Rattle.device.proofs.Steps.{did, content}

-- Of blocks in a row.
abbrev AllWhole : List Block → Type 0
AllWhole [] = Unit {0}
AllWhole (k ∷ ks) = WholeOf k.contents × AllWhole ks

set_whole : (xs : List Block) (p : ℕ) (k : Block) → Wholes xs → WholeOf k.contents → Wholes (set xs p k)
set_whole xs p k w h i = go (cases_eq i p)
  where
    here : (o : Option Block) → Whole (option_map (λ _. k) o)
    here None = tt
    here (Some y) = h

    go : (i ≡ p) ⊎ (i ≡ p → ⊥) → Whole (slice_get (set xs p k) i)
    go (inl e) = subst Whole (sym (ap (slice_get (set xs p k)) e ∙ nth_set_same xs p k)) (here (slice_get xs p))
    go (inr n) = subst Whole (sym (nth_set_other xs p i k n)) (w i)

laid_whole : (xs : List Block) (p : ℕ) (ks : List Block) → Wholes xs → AllWhole ks → Wholes (laid xs p ks)
laid_whole xs p [] w a = w
laid_whole xs p (k ∷ ks) w a = laid_whole (set xs p k) (suc p) ks (set_whole xs p k w a.0) a.1

put_whole : (b : ℕ) (os : List (Option Block)) (bytes : List ℕ) → 256 * length os ≤ length bytes → AllWhole (put b os bytes)
put_whole b [] bytes l = tt
put_whole b (o ∷ os) bytes l =
    let more : 256 * length os ≤ length (drop 256 bytes) = simp length-drop (omega arith) in
    let here : length (take 256 bytes) ≡ 256 = simp length-take (omega arith) in
    next_whole (write_at b o) (open_block (take 256 bytes)) (put (suc b) os (drop 256 bytes)) here (put_whole (suc b) os (drop 256 bytes) more)
  where
    next_whole : (r : Result (Unit {0}) StoreFault) (k : Block) (ks : List Block) → WholeOf k.contents → AllWhole ks → AllWhole (put_next r k ks)
    next_whole (Ok x) k ks h a = (h, a)
    next_whole (Err f) k ks h a = tt

write_whole : (r : Option Failure) (t : Transaction) (b : ℕ) (os : List (Option Block)) (buffer : List ℕ) → 256 * length os ≤ length buffer → AllWhole (write_by r t b os buffer).put
write_whole None t b os buffer l = put_whole b os buffer l
write_whole (Some f) t b os buffer l = tt

moved_whole : (k : Option Command) (t : Transaction) (b : ℕ) (os : List (Option Block)) (buffer : List ℕ) → cond (is_verify k) true (leb (256 * length os) (length buffer)) ≡ true → AllWhole (moved_by_command k t b os buffer).put
unfolding moved_by_command
moved_whole None t b os buffer h = tt
moved_whole (Some commands.Read) t b os buffer h = tt
moved_whole (Some commands.Write) t b os buffer h = write_whole t.outcome t b os buffer (leb-true _ _ h)
moved_whole (Some commands.Verify) t b os buffer h = tt
moved_whole (Some commands.ExtendedDescribe) t b os buffer h = tt
moved_whole (Some commands.SetDeviceLock) t b os buffer h = tt
moved_whole (Some commands.DeleteDeviceLock) t b os buffer h = tt
moved_whole (Some commands.SetUnitLock) t b os buffer h = tt
moved_whole (Some commands.DeleteUnitLock) t b os buffer h = tt

-- A segment that is not refused lies in its unit, and its buffer holds its blocks.
pub unrefused : (map : UnitMap) (t : Transaction) (message buffer : List ℕ) → refusal_of map t message buffer ≡ None → (lies_in map t ≡ true) × (holds_blocks t buffer ≡ true)
unrefused map t message buffer e = go (lies_in map t) (holds_blocks t buffer) (leb (length message) (length buffer)) refl refl e
  where
    go : (l h m : Bool) → lies_in map t ≡ l → holds_blocks t buffer ≡ h → cond l (cond (h && m) None (Some statuses.BadBuffer)) (Some statuses.MessageSequence) ≡ None → (lies_in map t ≡ true) × (holds_blocks t buffer ≡ true)
    go true true m p q r = (p, q)
    go true false m p q r = absurd (let z : ◌≡◌ {A = ℕ} 0 1 = cc in omega arith)
    go false h m p q r = absurd (let z : ◌≡◌ {A = ℕ} 0 1 = cc in omega arith)

did_whole : (s : State) (c : Call) → AllWhole (did s c).put
unfolding did
did_whole s c = go (in_way s c)
  where
    go : (b : Bool) → AllWhole (serve b (fixed s) (asked s c) (host_of s (by c)) (mail_of s (by c)) (content s c) c).put
    go true = tt
    go false = does_ways (fixed s) (asked s c) (host_of s (by c)) (content s c) c (λ (d : Served). AllWhole d.put) (record {
      stays = λ _. tt;
      refuses = λ _ _. tt;
      accepts = λ _ _ _ _ _ _. tt;
      moves = λ t e _ b message buffer r.
          let n : length (content s c) ≡ segment_of t = length_span s.blocks (start s (by c)) (reach s (by c)) ∙ ap reach_of e in
          moved_whole t.command t b (content s c) buffer (ap (λ (i : ℕ). cond (is_verify t.command) true (leb (256 * i) (length buffer))) n ∙ (unrefused s.map t message buffer r).1);
      ends = λ _. tt;
      clears = λ _ _. tt;
    }) (mail_of s (by c))

pub whole_next : (s : State) (c : Call) → Wholes s.blocks → Wholes (next s c).blocks
unfolding next did
whole_next s c w = laid_whole s.blocks (start s (by c)) (served s c).put w (did_whole s c)

pub whole_run : (s : State) (f : List Call) → Wholes s.blocks → Wholes (run s f).blocks
whole_run s [] w = w
whole_run s (c ∷ f) w = whole_run (next s c) f (whole_next s c w)
