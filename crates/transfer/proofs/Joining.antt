-- Two segments of one transfer, one after the other, come to what one segment of all their blocks would.
use Rattle.std.proofs.Common.{◌≡◌, ℕ, ◌+◌, ◌*◌, ◌≤◌, true, cond, leb, ◌⊎◌, List, [], ◌++◌, length, take, drop, Some, None, Option, sym, refl, ap, ◌∙◌, subst, ap₂, inl, inr, arith}
use Rattle.std.proofs.lemmas.Bool.{leb-true}
use Rattle.std.proofs.lemmas.List.{append_assoc, append-nil, take-append-drop, take_at, drop_at, drop-drop, length-take}
use Rattle.store.specs.Blocks.{Block, read_at, write_at}
use Rattle.message.specs.declared.command.Command.{Command}
use Rattle.message.specs.declared.command.Command.TheVariants as commands
use Rattle.host.specs.declared.fault.HostFault.{HostFault}
use Rattle.host.specs.declared.transaction.Failure.{Failure}
use Rattle.host.specs.declared.transaction.Failure.TheVariants as failures
use Rattle.host.specs.declared.transaction.Transaction.{Transaction}
use Rattle.host.specs.Progress.{first_fault}
use Rattle.transfer.specs.Segments.{span, read_fault, read_bytes, after_reading, write_fault, after_writing, put, write_tried, laid, Moved, read_moved, verified, untried, writing, write_by, moved_by_command, is_verify}
use Rattle.transfer.proofs.Spans.{length_span, span_alike, laid_other, laid_cut}
use Rattle.transfer.proofs.Cutting.{span_cut, bytes_cut, same_cut, goes_on, stops}
use Rattle.transfer.proofs.Faults.{read_faults, write_faults}

-- `one` is a segment of the n blocks from b on, `two` is what follows it, and `all` is both at once.
pub record Joined (bs : List Block) (b n : ℕ) (one two all : Moved) : Type 0 where
  pub buffer : all.buffer ≡ take (256 * n) one.buffer ++ two.buffer
  pub blocks : laid bs b all.put ≡ laid (laid bs b one.put) (b + n) two.put
  pub outcome : all.progress.outcome ≡ two.progress.outcome
  pub fault : all.progress.fault ≡ first_fault one.progress.fault two.progress.fault
  pub tried : all.progress.tried ≡ one.progress.tried + two.progress.tried
  -- nothing is tried after a segment that was stopped
  pub full : (two.progress.tried ≡ 0) ⊎ (one.progress.tried ≡ n)

after_twice : (o : Option Failure) (f g : Option HostFault) → after_reading (after_reading o f) g ≡ after_reading o (first_fault f g)
after_twice None None g = refl
after_twice None (Some f) g = refl
after_twice (Some o) f g = refl

-- t is the transaction before the first segment, t' the one after it.
module _ (bs : List Block) (b n m : ℕ) (t t' : Transaction) (unit : t'.unit ≡ t.unit) (at : t'.at ≡ t.at + n) (buffer e : List ℕ) where
  abbrev os : List (Option Block)
  os = span bs b n

  abbrev ps : List (Option Block)
  ps = span bs (b + n) m

  abbrev front : List ℕ
  front = take (256 * n) buffer

  -- ---- Read and Verify.

  module _ (out : t'.outcome ≡ after_reading t.outcome (read_fault t.unit b t.at os)) where
    scan_fault : read_fault t.unit b t.at (span bs b (n + m)) ≡ first_fault (read_fault t.unit b t.at os) (read_fault t'.unit (b + n) t'.at ps)
    scan_fault =
        ap (read_fault t.unit b t.at) (span_cut bs b n m)
        ∙ same_cut read_at read_fault read_faults t.unit b t.at os ps n (sym (length_span bs b n))
        ∙ sym (ap₂ (λ (u a : ℕ). first_fault (read_fault t.unit b t.at os) (read_fault u (b + n) a ps)) unit at)

    scan_outcome : after_reading t.outcome (read_fault t.unit b t.at (span bs b (n + m))) ≡ after_reading t'.outcome (read_fault t'.unit (b + n) t'.at ps)
    scan_outcome =
        ap (after_reading t.outcome) scan_fault
        ∙ sym (after_twice t.outcome (read_fault t.unit b t.at os) (read_fault t'.unit (b + n) t'.at ps))
        ∙ ap (λ (o : Option Failure). after_reading o (read_fault t'.unit (b + n) t'.at ps)) (sym out)

    scan_tried : length (span bs b (n + m)) ≡ length os + length ps
    scan_tried = omega (arith, length_span bs b (n + m), length_span bs b n, length_span bs (b + n) m)

    verify_joined : Joined bs b n (verified t b os buffer) (verified t' (b + n) ps e) (verified t b (span bs b (n + m)) (front ++ e))
    verify_joined = record {
      buffer = refl;
      blocks = refl;
      outcome = scan_outcome;
      fault = scan_fault;
      tried = scan_tried;
      full = inr (length_span bs b n);
    }

    module _ (holds : 256 * n ≤ length buffer) (long : length (read_bytes os) ≡ 256 * n) where
      front_long : length front ≡ 256 * n
      front_long = simp length-take (omega arith)

      rest : drop (256 * length (span bs b (n + m))) (front ++ e) ≡ drop (256 * length ps) e
      rest =
          let l = length_span bs b (n + m) in
          let k = length_span bs (b + n) m in
          let i : 256 * length (span bs b (n + m)) ≡ 256 * n + 256 * length ps = omega arith in
          ap (λ j. drop j (front ++ e)) i ∙ sym (drop-drop (256 * length ps) (256 * n) (front ++ e)) ∙ ap (drop (256 * length ps)) (drop_at front e (256 * n) front_long)

      read_joined : Joined bs b n (read_moved t b os buffer) (read_moved t' (b + n) ps e) (read_moved t b (span bs b (n + m)) (front ++ e))
      read_joined = record {
        buffer =
            ap (λ (l : List ℕ). l ++ drop (256 * length (span bs b (n + m))) (front ++ e)) (ap read_bytes (span_cut bs b n m) ∙ bytes_cut os ps)
            ∙ ap (λ (l : List ℕ). (read_bytes os ++ read_bytes ps) ++ l) rest
            ∙ append_assoc (read_bytes os) (read_bytes ps) (drop (256 * length ps) e)
            ∙ ap (λ (l : List ℕ). l ++ (read_bytes ps ++ drop (256 * length ps) e)) (sym (take_at (read_bytes os) (drop (256 * length os) buffer) (256 * n) long));
        blocks = refl;
        outcome = scan_outcome;
        fault = scan_fault;
        tried = scan_tried;
        full = inr (length_span bs b n);
      }

  -- ---- Write.

  -- A segment that tries nothing, and one after it that tries nothing either.
  untried_joined : t'.outcome ≡ t.outcome → Joined bs b n (untried t buffer) (untried t' e) (untried t (front ++ e))
  untried_joined o = record { buffer = refl; blocks = refl; outcome = sym o; fault = refl; tried = refl; full = inl refl }

  module _ (holds : 256 * n ≤ length buffer) (fine : t.outcome ≡ None) (out : t'.outcome ≡ after_writing t.outcome (write_fault t.unit b t.at os)) where
    -- Only the front of the buffer counts.
    long : length front ≡ 256 * n
    long = simp length-take (omega arith)

    split : front ++ drop (256 * n) buffer ≡ buffer
    split = take-append-drop (256 * n) buffer

    abbrev failed : Option HostFault
    failed = write_fault t.unit b t.at os

    abbrev later : List (Option Block)
    later = span (laid bs b (put b os buffer)) (b + n) m

    abbrev first_put : List Block
    first_put = put b os buffer

    write_fault_all : write_fault t.unit b t.at (span bs b (n + m)) ≡ first_fault failed (write_fault t'.unit (b + n) t'.at ps)
    write_fault_all =
        ap (write_fault t.unit b t.at) (span_cut bs b n m)
        ∙ same_cut write_at write_fault write_faults t.unit b t.at os ps n (sym (length_span bs b n))
        ∙ sym (ap₂ (λ (u a : ℕ). first_fault failed (write_fault u (b + n) a ps)) unit at)

    -- Every block of the first segment is written.
    module _ (none : failed ≡ None) where
      front_put : put b os buffer ≡ put b os front
      front_put =
          ap₂ (λ (l : List (Option Block)) (d : List ℕ). put b l d) (sym (append-nil os)) (sym split)
          ∙ (goes_on t.unit b t.at os [] front (drop (256 * n) buffer) n (sym (length_span bs b n)) long none).puts
          ∙ append-nil (put b os front)

      second : later ≡ ps
      second =
          let l = (goes_on t.unit b t.at os ps front e n (sym (length_span bs b n)) long none).all_put in
          let k = ap length front_put in
          span_alike (laid bs b first_put) bs (b + n) m (λ c p q. laid_other bs b first_put c (inr (omega arith)))

      still : t'.outcome ≡ t.outcome
      still = out ∙ ap₂ (λ (o : Option Failure) (f : Option HostFault). after_writing o f) fine none ∙ sym fine

      on_joined : Joined bs b n (writing t b os buffer) (writing t' (b + n) later e) (writing t b (span bs b (n + m)) (front ++ e))
      on_joined =
          let on = goes_on t.unit b t.at os ps front e n (sym (length_span bs b n)) long none in
          let f : write_fault t.unit b t.at (span bs b (n + m)) ≡ first_fault failed (write_fault t'.unit (b + n) t'.at later) =
          write_fault_all ∙ ap (λ (l : List (Option Block)). first_fault failed (write_fault t'.unit (b + n) t'.at l)) (sym second) in
          record {
            buffer = refl;
            blocks =
                ap (λ (l : List (Option Block)). laid bs b (put b l (front ++ e))) (span_cut bs b n m)
                ∙ ap (laid bs b) on.puts
                ∙ laid_cut bs b (put b os front) (put (b + n) ps e)
                ∙ ap (λ (i : ℕ). laid (laid bs b (put b os front)) (b + i) (put (b + n) ps e)) on.all_put
                ∙ ap (λ (l : List Block). laid (laid bs b l) (b + n) (put (b + n) ps e)) (sym front_put)
                ∙ ap (λ (l : List (Option Block)). laid (laid bs b first_put) (b + n) (put (b + n) l e)) (sym second);
            outcome =
                ap (after_writing t.outcome) (f ∙ ap (λ (g : Option HostFault). first_fault g (write_fault t'.unit (b + n) t'.at later)) none)
                ∙ ap (λ (o : Option Failure). after_writing o (write_fault t'.unit (b + n) t'.at later)) (sym still);
            fault = f;
            tried =
                ap (write_tried b) (span_cut bs b n m)
                ∙ on.tries
                ∙ ap₂ (λ (i : ℕ) (l : List (Option Block)). i + write_tried (b + n) l) (sym on.all_tried) (sym second);
            full = inr on.all_tried;
          }

    -- A block of the first segment refuses: nothing is tried any more.
    module _ (f : HostFault) (some : failed ≡ Some f) where
      stopped_put : put b os buffer ≡ put b os front
      stopped_put =
          ap₂ (λ (l : List (Option Block)) (d : List ℕ). put b l d) (sym (append-nil os)) (sym split)
          ∙ (stops t.unit b t.at os [] front (drop (256 * n) buffer) n (sym (length_span bs b n)) long f some).puts

      stop_joined : Joined bs b n (writing t b os buffer) (untried t' e) (writing t b (span bs b (n + m)) (front ++ e))
      stop_joined =
          let stop = stops t.unit b t.at os ps front e n (sym (length_span bs b n)) long f some in
          let failed_all : write_fault t.unit b t.at (span bs b (n + m)) ≡ failed =
          write_fault_all ∙ ap (λ (g : Option HostFault). first_fault g (write_fault t'.unit (b + n) t'.at ps)) some ∙ sym some in
          record {
            buffer = refl;
            blocks = ap (λ (l : List (Option Block)). laid bs b (put b l (front ++ e))) (span_cut bs b n m) ∙ ap (laid bs b) (stop.puts ∙ sym stopped_put);
            outcome = ap (after_writing t.outcome) failed_all ∙ sym out;
            fault = failed_all ∙ some ∙ sym (ap (λ (g : Option HostFault). first_fault g None) some);
            tried = ap (write_tried b) (span_cut bs b n m) ∙ stop.tries ∙ omega arith;
            full = inl refl;
          }

      ended : t'.outcome ≡ Some failures.UnitFault
      ended = out ∙ ap₂ (λ (o : Option Failure) (g : Option HostFault). after_writing o g) fine some

    abbrev Followed : Option Failure → Type 0
    Followed o = Joined bs b n (writing t b os buffer) (write_by o t' (b + n) later e) (writing t b (span bs b (n + m)) (front ++ e))

    fine_joined : (g : Option HostFault) → failed ≡ g → Followed t'.outcome
    fine_joined None g = subst Followed (sym (still g ∙ fine)) (on_joined g)
    fine_joined (Some f) g = subst Followed (sym (ended f g)) (stop_joined f g)

  abbrev Unmoved : Option Failure → Type 0
  Unmoved o = Joined bs b n (untried t buffer) (write_by o t' (b + n) ps e) (untried t (front ++ e))

  write_joined : 256 * n ≤ length buffer → (o : Option Failure) → t.outcome ≡ o → t'.outcome ≡ (write_by o t b os buffer).progress.outcome →
      Joined bs b n (write_by o t b os buffer) (write_by t'.outcome t' (b + n) (span (laid bs b (write_by o t b os buffer).put) (b + n) m) e) (write_by o t b (span bs b (n + m)) (front ++ e))
  write_joined holds None i out = fine_joined holds i out (failed holds i out) refl
  write_joined holds (Some f) i out = subst Unmoved (sym (out ∙ i)) (untried_joined out)

  -- ---- Any command.

  pub moved_joined : (k : Option Command) → cond (is_verify k) true (leb (256 * n) (length buffer)) ≡ true → length (read_bytes os) ≡ 256 * n → t'.outcome ≡ (moved_by_command k t b os buffer).progress.outcome →
      Joined bs b n (moved_by_command k t b os buffer) (moved_by_command k t' (b + n) (span (laid bs b (moved_by_command k t b os buffer).put) (b + n) m) e) (moved_by_command k t b (span bs b (n + m)) (front ++ e))
  unfolding moved_by_command
  moved_joined None h l out = untried_joined out
  moved_joined (Some commands.Read) h l out = read_joined out (leb-true (256 * n) (length buffer) h) l
  moved_joined (Some commands.Write) h l out = write_joined (leb-true (256 * n) (length buffer) h) t.outcome refl out
  moved_joined (Some commands.Verify) h l out = verify_joined out
  moved_joined (Some commands.ExtendedDescribe) h l out = untried_joined out
  moved_joined (Some commands.SetDeviceLock) h l out = untried_joined out
  moved_joined (Some commands.DeleteDeviceLock) h l out = untried_joined out
  moved_joined (Some commands.SetUnitLock) h l out = untried_joined out
  moved_joined (Some commands.DeleteUnitLock) h l out = untried_joined out
