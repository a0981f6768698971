-- Whole transfers: one segment after the other, and all of them at once.
use Rattle.std.proofs.Common.{◌≡◌, ℕ, zero, suc, ◌+◌, ◌-◌, ◌*◌, ◌^◌, ◌<◌, Bool, true, false, cond, ◌&&◌, eqb, ◌⊎◌, List, [], ◌∷◌, ◌++◌, length, take, is_some, IfSome, Some, None, Option, sym, refl, ap, ◌∙◌, subst, ap₂, add-zero, zero-add, arith}
use Rattle.std.proofs.lemmas.List.{get_or_past}
use Rattle.std.proofs.lemmas.Bool.{cond-false, cases_lt, leb-true, le-leb}
use Rattle.std.proofs.lemmas.Bool.Decides.{nat_tests}
use Rattle.store.specs.Blocks.{Block}
use Rattle.flex.specs.declared.status.Status.{Status}
use Rattle.flex.specs.declared.unit.Unit.{Unit as DiscUnit}
use Rattle.flex.specs.declared.unit_map.UnitMap.{UnitMap}
use Rattle.flex.specs.Maps.{unit_at}
use Rattle.flex.specs.Units.{past}
use Rattle.flex.proofs.Naming.{fits_32}
use Rattle.host.specs.declared.record.Host.{Host}
use Rattle.host.specs.declared.transaction.Phase.TheVariants as phases
use Rattle.host.specs.declared.transaction.Transaction.{Transaction}
use Rattle.host.specs.Hosts.{blank}
use Rattle.host.specs.Messages.{blocks_of, unit_size, describes}
use Rattle.host.specs.Progress.{lies_in, segment_of, left_after, advanced, first_fault, address_tried, moved_by}
use Rattle.transfer.specs.Segments.{first_of, start_of, span, laid, Moved, untried, moved_by_command, moved_over, message_of, told, refusal_of}
use Rattle.transfer.proofs.Cutting.{first_none, first_of_three}
use Rattle.transfer.proofs.EachBlock.{Wholes, bytes_long}
use Rattle.transfer.proofs.Joining.{Joined, moved_joined}
use Rattle.transfer.proofs.MovesLaw.{moves_are}
use Rattle.transfer.proofs.Starting.{not_tried}
use Rattle.device.specs.declared.ticket.ExecutionTicket.{ExecutionTicket}
use Rattle.device.specs.Calls.{Call, segment, Answer, moved}
use Rattle.device.specs.Device.{State, host_of, fixed, Served, is_phase, fitting, segment_moved, executable, segmented, ticket_for, counted, answer, next, run}
use Rattle.device.specs.Transfers.{IsMoved, buffer_in, MovingFrom, segments, AllMoved, left_in, left_of, moved_count, all_given, all_left, outcome_in, outcome_of, at_once, ComesTo, TransfersFrom}
use Rattle.device.proofs.Tests.{none_some, one_of}
use Rattle.device.proofs.Fitting.{Fits}
use Rattle.device.proofs.Segmented.{segment_by, segmented_by}
use Rattle.device.proofs.Moving.{fitting_is}
use Rattle.device.proofs.Steps.{did, content, answer_is, map_next, host_own, host_other}
use Rattle.device.proofs.States.{Sound, sound_run}
use Rattle.device.proofs.WholeBlocks.{unrefused, whole_next, whole_run}

-- A unit's addresses fit 32 bits, so that an address in it is never cut short.
small : (o : Option DiscUnit) → IfSome o (λ u. past u < 2 ^ 32) → blocks_of o < 2 ^ 32
small None f = omega arith
small (Some u) f = omega arith

unit_small : (map : UnitMap) (u : ℕ) → unit_size map u < 2 ^ 32
unit_small map u = small (unit_at map u) (fits_32 map u)

-- An open transaction is one of the device's hosts'.
open_here : (s : State) (h : ℕ) (t : Transaction) → (host_of s h).transaction ≡ Some t → h < length s.hosts
open_here s h t e =
    one_of (cases_lt h (length s.hosts)) (λ i. i) (λ past. absurd (none_some t (sym (ap (λ (x : Host). x.transaction) (get_or_past s.hosts h blank past)) ∙ e)))

-- ---- One count, one address after the other.

counted_twice : (a i j : ℕ) → counted (counted a i) j ≡ counted a (i + j)
counted_twice a zero j = ap (counted a) (sym (zero-add j))
counted_twice a (suc i) zero = ap (counted a) (sym (add-zero (suc i)))
counted_twice a (suc i) (suc j) = let e : suc (i + suc j) ≡ suc i + suc j = omega arith in omega arith ∙ ap (counted a) e

address_twice : (old at n i j : ℕ) → (j ≡ 0) ⊎ (i ≡ n) → address_tried (address_tried old at i) (at + n) j ≡ address_tried old at (i + j)
address_twice old at n i j o = grind (arith, nat_tests)

-- ---- One segment that is moved.

module _ (s : State) (k : ExecutionTicket) (buffer : List ℕ) (t : Transaction) (now : (host_of s k.host).transaction ≡ Some t) where
  abbrev pub c : Call
  c = segment k buffer

  abbrev pub x : Host
  x = host_of s k.host

  abbrev pub b : ℕ
  b = start_of s.map (Some t)

  abbrev os : List (Option Block)
  os = span s.blocks b (segment_of t)

  abbrev pub one : Moved
  one = moved_over s.map s.blocks t buffer

  abbrev pub message : List ℕ
  message = message_of s.map k.host t

  abbrev fit : Bool
  fit = eqb k.device s.number && is_phase phases.Execution t.phase

  did_is : did s c ≡ segmented (fixed s) (executable s.map (cond fit (Some t) None)) x os k buffer
  unfolding did
  did_is = rw now refl

  by_refusal : (r : Option Status) → refusal_of s.map t message buffer ≡ r → IsMoved (segment_by r (fixed s) x t os k buffer).answer → (segment_by r (fixed s) x t os k buffer ≡ segment_moved (fixed s) x t k.host (told message one)) × (refusal_of s.map t message buffer ≡ None)
  by_refusal None e m = (refl, e)
  by_refusal (Some u) e m = absurd m

  by_fit : (q : Bool) → IsMoved (segmented (fixed s) (executable s.map (cond q (Some t) None)) x os k buffer).answer → (segmented (fixed s) (executable s.map (cond q (Some t) None)) x os k buffer ≡ segment_moved (fixed s) x t k.host (told message one)) × (refusal_of s.map t message buffer ≡ None)
  by_fit true m =
      let e = segmented_by (fixed s) x t os k buffer in
      let p = by_refusal (refusal_of s.map t message buffer) refl (subst IsMoved (ap (λ (d : Served). d.answer) e) m) in
      (e ∙ p.0, p.1)
  by_fit false m = absurd m

  module _ (m : IsMoved (answer s c)) where
    moved_did : (did s c ≡ segment_moved (fixed s) x t k.host (told message one)) × (refusal_of s.map t message buffer ≡ None)
    moved_did =
        let q = by_fit fit (subst IsMoved (answer_is s c ∙ ap (λ (d : Served). d.answer) did_is) m) in
        (did_is ∙ q.0, q.1)

    pub answer_moved : answer s c ≡ moved (ticket_for s.number k.host (advanced t one.progress).phase) (told message one).buffer
    answer_moved = answer_is s c ∙ ap (λ (d : Served). d.answer) moved_did.0

    pub host_moved : host_of (next s c) k.host ≡ moved_by t one.progress x
    host_moved = host_own s c (open_here s k.host t now) ∙ ap (λ (d : Served). d.host) moved_did.0

    pub blocks_moved : (next s c).blocks ≡ laid s.blocks b one.put
    unfolding next did
    blocks_moved = ap₂ (λ (o : Option Transaction) (d : Served). laid s.blocks (start_of s.map o) d.put) now moved_did.0

    pub activity_moved : (next s c).activity ≡ counted s.activity one.progress.tried
    unfolding next did
    activity_moved = ap (λ (d : Served). counted s.activity d.tried) moved_did.0

    -- ---- The segment, and what follows it.

    abbrev n : ℕ
    n = segment_of t

    abbrev t' : Transaction
    t' = advanced t one.progress

    now_moved : (host_of (next s c) k.host).transaction ≡ Some t'
    now_moved = ap (λ (y : Host). y.transaction) host_moved

    at_moved : t'.at ≡ t.at + n
    at_moved =
        let e = leb-true (t.at + t.left) (unit_size s.map t.unit) (unrefused s.map t message buffer moved_did.1).0 in
        omega (arith, unit_small s.map t.unit)

    count_moved : moved_count s c ≡ n
    count_moved = ap₂ (λ (o p : Option Transaction). left_in o - left_in p) now now_moved ∙ omega arith

    start_moved : start_of (next s c).map (Some t') ≡ b + n
    start_moved = ap₂ (λ (map : UnitMap) (i : ℕ). first_of map t.unit + i) (map_next s c) at_moved ∙ omega arith

    module _ (w : Wholes s.blocks) (quiet : describes t.command ≡ true → t.left ≡ 0) (e : List ℕ) where
      -- A message is written only where no bytes of blocks are.
      front_kept : take (256 * n) (told message one).buffer ≡ take (256 * n) one.buffer
      front_kept = go (describes t.command) refl
        where
          go : (d : Bool) → describes t.command ≡ d → take (256 * n) (told message one).buffer ≡ take (256 * n) one.buffer
          go true d =
              let z : 256 * n ≡ 0 = omega (arith, quiet d) in
              ap (λ (i : ℕ). take i (told message one).buffer) z ∙ sym (ap (λ (i : ℕ). take i one.buffer) z)
          go false d =
              let z : message ≡ [] = cond-false _ _ _ d in
              ap (λ (l : List ℕ). take (256 * n) (told l one).buffer) z

      abbrev two : Moved
      two = moved_by_command t.command t' (b + n) (span (laid s.blocks b one.put) (b + n) (left_after t)) e

      two_is : at_once (next s c) t' e ≡ two
      two_is = ap₂ (λ (i : ℕ) (l : List Block). moved_by_command t.command t' i (span l i (left_after t)) e) start_moved blocks_moved

      abbrev all : Moved
      all = moved_by_command t.command t b (span s.blocks b (n + left_after t)) (take (256 * n) buffer ++ e)

      all_is : at_once s t (take (256 * moved_count s c) buffer ++ e) ≡ all
      all_is =
          let l : t.left ≡ n + left_after t = omega arith in
          ap₂ (λ (i j : ℕ). moved_by_command t.command t b (span s.blocks b i) (take (256 * j) buffer ++ e)) l count_moved

      both : Joined s.blocks b n one two all
      both =
          moved_joined s.blocks b n (left_after t) t t' refl at_moved buffer e t.command
          (unrefused s.map t message buffer moved_did.1).1 (bytes_long s.blocks w b n) refl

      -- What follows, and with it the segment.
      followed : (s' : State) (left : List ℕ) → ComesTo (next s c) s' k.host t' left (at_once (next s c) t' e) →
          ComesTo s s' k.host t (take (256 * moved_count s c) (buffer_in (answer s c)) ++ left) (at_once s t (take (256 * moved_count s c) buffer ++ e))
      followed s' left r = record {
        buffers =
            ap₂ (λ (i : ℕ) (a : Answer). take (256 * i) (buffer_in a) ++ left) count_moved answer_moved
            ∙ ap (λ (l : List ℕ). l ++ left) front_kept
            ∙ ap (λ (l : List ℕ). take (256 * n) one.buffer ++ l) (r.buffers ∙ ap (λ (q : Moved). q.buffer) two_is)
            ∙ sym both.buffer
            ∙ sym (ap (λ (q : Moved). q.buffer) all_is);
        blocks =
            r.blocks
            ∙ ap₂ (λ (l : List Block) (i : ℕ). laid l i (at_once (next s c) t' e).put) blocks_moved start_moved
            ∙ ap (λ (q : Moved). laid (laid s.blocks b one.put) (b + n) q.put) two_is
            ∙ sym both.blocks
            ∙ sym (ap (λ (q : Moved). laid s.blocks b q.put) all_is);
        outcome = r.outcome ∙ ap (λ (q : Moved). q.progress.outcome) two_is ∙ sym both.outcome ∙ sym (ap (λ (q : Moved). q.progress.outcome) all_is);
        still_open = r.still_open;
        fault =
            r.fault
            ∙ ap₂ (λ (y : Host) (q : Moved). first_fault y.fault q.progress.fault) host_moved two_is
            ∙ sym (first_of_three x.fault one.progress.fault two.progress.fault)
            ∙ ap (first_fault x.fault) (sym both.fault ∙ sym (ap (λ (q : Moved). q.progress.fault) all_is));
        address =
            r.address
            ∙ ap₂ (λ (y : Host) (q : Moved). address_tried y.parameters.address t'.at q.progress.tried) host_moved two_is
            ∙ ap (λ (i : ℕ). address_tried (address_tried x.parameters.address t.at one.progress.tried) i two.progress.tried) at_moved
            ∙ address_twice x.parameters.address t.at n one.progress.tried two.progress.tried both.full
            ∙ ap (address_tried x.parameters.address t.at) (sym both.tried ∙ sym (ap (λ (q : Moved). q.progress.tried) all_is));
        activity =
            r.activity
            ∙ ap₂ (λ (i : ℕ) (q : Moved). counted i q.progress.tried) activity_moved two_is
            ∙ counted_twice s.activity one.progress.tried two.progress.tried
            ∙ ap (counted s.activity) (sym both.tried ∙ sym (ap (λ (q : Moved). q.progress.tried) all_is));
        others = λ g d. r.others g d ∙ host_other s c g d;
      }

-- ---- All of them.

-- With nothing left to move, nothing is moved.
nothing_left : (s : State) (h : ℕ) (t : Transaction) → (host_of s h).transaction ≡ Some t → t.left ≡ 0 → ComesTo s s h t [] (at_once s t [])
nothing_left s h t now z =
    let b = start_of s.map (Some t) in
    let none : at_once s t [] ≡ untried t [] = ap (λ (i : ℕ). moved_by_command t.command t b (span s.blocks b i) []) z ∙ not_tried t.command t b [] in
    record {
      buffers = sym (ap (λ (q : Moved). q.buffer) none);
      blocks = sym (ap (λ (q : Moved). laid s.blocks b q.put) none);
      outcome = ap outcome_in now ∙ sym (ap (λ (q : Moved). q.progress.outcome) none);
      still_open = ap is_some now;
      fault = sym (first_none (host_of s h).fault) ∙ sym (ap (λ (q : Moved). first_fault (host_of s h).fault q.progress.fault) none);
      address = sym (ap (λ (q : Moved). address_tried (host_of s h).parameters.address t.at q.progress.tried) none);
      activity = sym (ap (λ (q : Moved). counted s.activity q.progress.tried) none);
      others = λ g d. refl;
    }

however_cut : (k : ExecutionTicket) (buffers : List (List ℕ)) (s : State) (t : Transaction) → Wholes s.blocks → (describes t.command ≡ true → t.left ≡ 0) → (host_of s k.host).transaction ≡ Some t → AllMoved s k buffers → left_of (run s (segments k buffers)) k.host ≡ 0 →
    ComesTo s (run s (segments k buffers)) k.host t (all_left s k buffers) (at_once s t (all_given s k buffers))
however_cut k [] s t w quiet now m z = nothing_left s k.host t now (sym (ap left_in now) ∙ z)
however_cut k (buffer ∷ more) s t w quiet now m z =
    let c = segment k buffer in
    followed s k buffer t now m.0 w quiet (all_given (next s c) k more) (run (next s c) (segments k more)) (all_left (next s c) k more)
    (however_cut k more (next s c) (t' s k buffer t now m.0) (whole_next s c w) (λ d. omega (arith, quiet d)) (now_moved s k buffer t now m.0) m.1 z)

pub transfers_from : (start : State) → Wholes start.blocks → Sound start → TransfersFrom start
transfers_from start w i calls k t buffers now m z =
    let s = run start calls in
    let whole = whole_run start calls w in
    let inside = subst (Fits s.map) now ((sound_run start calls i).fits k.host) in
    let r = however_cut k buffers s t whole inside.quiet now m z in
    record {
      however_cut = r;
      block_by_block = moves_are
          t s.blocks (start_of s.map (Some t)) t.left (all_given s k buffers) whole
          (run s (segments k buffers)).blocks (all_left s k buffers) (outcome_of (run s (segments k buffers)) k.host)
          r.blocks r.buffers r.outcome;
    }

-- ---- No segment is refused but for its ticket or its buffer.

did_fitting : (s : State) (k : ExecutionTicket) (buffer : List ℕ) → did s (segment k buffer) ≡ segmented (fixed s) (executable s.map (fitting s.number k.device phases.Execution (host_of s k.host).transaction)) (host_of s k.host) (content s (segment k buffer)) k buffer
unfolding did
did_fitting s k buffer = refl

pub moving_from : (start : State) → Sound start → MovingFrom start
moving_from start i calls k buffer t fits holds =
    let s = run start calls in
    let now = fitting_is s.number k.device phases.Execution (host_of s k.host).transaction t fits in
    let inside = subst (Fits s.map) now ((sound_run start calls i).fits k.host) in
    let lies : lies_in s.map t ≡ true = le-leb (t.at + t.left) (unit_size s.map t.unit) inside.ends in
    let free : refusal_of s.map t (message_of s.map k.host t) buffer ≡ None = rw (lies, holds) refl in
    subst
    IsMoved
    (sym (answer_is s (segment k buffer) ∙ ap (λ (d : Served). d.answer) (did_fitting s k buffer)
    ∙ ap (λ (o : Option Transaction). (segmented (fixed s) (executable s.map o) (host_of s k.host) (content s (segment k buffer)) k buffer).answer) fits
    ∙ ap (λ (d : Served). d.answer) (segmented_by (fixed s) (host_of s k.host) t (content s (segment k buffer)) k buffer)
    ∙ ap (λ (r : Option Status). (segment_by r (fixed s) (host_of s k.host) t (content s (segment k buffer)) k buffer).answer) free))
    tt
