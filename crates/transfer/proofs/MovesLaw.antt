-- What a segment or a whole transfer comes to, block by block.
use Rattle.std.proofs.Common.{◌≡◌, ℕ, ◌+◌, ◌*◌, ◌<◌, ◌≤◌, true, false, ◌⊎◌, List, ◌++◌, length, drop, Some, None, Ok, Err, Option, refl, ap, ◌∙◌, ap₂, inl, inr, arith}
use Rattle.std.specs.List.{slice_get}
use Rattle.std.proofs.lemmas.List.{drop_at}
use Rattle.store.specs.declared.fault.FaultKind.TheVariants as kinds
use Rattle.store.specs.declared.fault.StoreFault.{StoreFault}
use Rattle.store.specs.Blocks.{Block, Contents, sound, damaged, fault, open_block, read_of, read_at, write_at, is_open_at}
use Rattle.message.specs.declared.command.Command.{Command}
use Rattle.message.specs.declared.command.Command.TheVariants as commands
use Rattle.host.specs.declared.fault.HostFault.{HostFault}
use Rattle.host.specs.declared.transaction.Failure.{Failure}
use Rattle.host.specs.declared.transaction.Transaction.{Transaction}
use Rattle.transfer.specs.Segments.{span, read_fault, read_bytes, after_reading, write_fault, after_writing, put, laid, write_by, moved_by_command}
use Rattle.transfer.specs.Transfers.{part, is_sound, is_readable, Scanned, HandedOver, Written, Wrote, MovesBy, Moves}
use Rattle.transfer.proofs.Faults.{read_faults, write_faults}
use Rattle.transfer.proofs.Spans.{length_span, laid_other}
use Rattle.transfer.proofs.Starting.{nothing_read}
use Rattle.transfer.proofs.EachBlock.{Wholes, none_fails, first_fails, some_fails, bytes_long, part_read, writes, refuses, put_at, put_ends, put_short, laid_at}

reads : (b : ℕ) (o : Option Block) → is_readable o ≡ true → read_at b o ≡ Ok tt
reads b None e = cc
reads b (Some k) e = of k.contents e
  where
    of : (c : Contents) → is_sound c ≡ true → read_of b c ≡ Ok tt
    of (sound bytes) e = refl
    of damaged e = cc

unread : (b : ℕ) (o : Option Block) → is_readable o ≡ false → (f : StoreFault) × (read_at b o ≡ Err f)
unread b None e = (fault kinds.Beyond b, refl)
unread b (Some k) e = of k.contents e
  where
    of : (c : Contents) → is_sound c ≡ false → (f : StoreFault) × (read_of b c ≡ Err f)
    of (sound bytes) e = cc
    of damaged e = (fault kinds.Damaged b, refl)

there : (o : Option Block) → is_open_at o ≡ true → (k : Block) × (o ≡ Some k)
there None e = cc
there (Some k) e = (k, refl)

module _ (t : Transaction) (bs : List Block) (b n : ℕ) where
  scanned : Scanned bs b t.at n t.outcome (after_reading t.outcome (read_fault t.unit b t.at (span bs b n)))
  scanned = record {
    fine = λ all. ap (after_reading t.outcome) (read_faults t.unit b t.at (span bs b n) ∙ none_fails read_at is_readable reads unread t.unit bs b t.at n all) ∙ nothing_read t.outcome;
    failed = λ j l before now.
        let f = first_fails read_at is_readable reads unread t.unit bs b t.at n j l before now in
        ap (after_reading t.outcome) (read_faults t.unit b t.at (span bs b n) ∙ f.1);
  }

  module _ (given : List ℕ) where
    handed_over : Wholes bs → HandedOver bs b n given (read_bytes (span bs b n) ++ drop (256 * length (span bs b n)) given)
    handed_over w = record {
      bytes = λ j l. part_read bs w b n j (drop (256 * length (span bs b n)) given) l;
      rest = drop_at (read_bytes (span bs b n)) (drop (256 * length (span bs b n)) given) (256 * n) (bytes_long bs w b n) ∙ ap (λ (i : ℕ). drop (256 * i) given) (length_span bs b n);
    }

    abbrev puts : List Block
    puts = put b (span bs b n) given

    written : Written bs (laid bs b puts) b n given
    written = record {
      taken = λ j l all.
          let y = there (slice_get bs (b + j)) (all j (omega arith)) in
          laid_at bs b puts j (open_block (part j given)) y.0 y.1 (put_at bs b n j given l all);
      stopped = λ i j l e. let k = put_ends bs b n i given e in laid_other bs b puts (b + j) (inr (omega arith));
      outside = λ c o. laid_other bs b puts c (past c o);
    }
      where
        past : (c : ℕ) → (c < b) ⊎ (b + n ≤ c) → (c < b) ⊎ (b + length puts ≤ c)
        past c (inl l) = inl l
        past c (inr l) = let k = put_short b (span bs b n) given in let m = length_span bs b n in inr (omega arith)

    wrote : t.outcome ≡ None → Wrote bs b n (after_writing t.outcome (write_fault t.unit b t.at (span bs b n)))
    wrote fine = record {
      fine = λ all. ap₂ (λ (o : Option Failure) (f : Option HostFault). after_writing o f) fine (write_faults t.unit b t.at (span bs b n) ∙ none_fails write_at is_open_at writes refuses t.unit bs b t.at n all);
      failed = λ j l now.
          let f = some_fails write_at is_open_at writes refuses t.unit bs b t.at n j l now in
          ap₂ (λ (o : Option Failure) (g : Option HostFault). after_writing o g) fine (write_faults t.unit b t.at (span bs b n) ∙ f.1);
    }

    write_moves : (o : Option Failure) → t.outcome ≡ o →
        let m = write_by o t b (span bs b n) given in
        (t.outcome ≡ None → Written bs (laid bs b m.put) b n given × Wrote bs b n m.progress.outcome) ×
        ((t.outcome ≡ None → ⊥) → (laid bs b m.put ≡ bs) × (m.progress.outcome ≡ t.outcome)) ×
        (m.buffer ≡ given)
    write_moves None i = ((λ f. (written, wrote f)), (λ n. absurd (n i)), refl)
    write_moves (Some x) i = ((λ f. cc), (λ n. (refl, refl)), refl)

    pub moves : Wholes bs → (k : Option Command) → MovesBy k t b n bs (laid bs b (moved_by_command k t b (span bs b n) given).put) given (moved_by_command k t b (span bs b n) given).buffer (moved_by_command k t b (span bs b n) given).progress.outcome
    unfolding moved_by_command
    moves w None = tt
    moves w (Some commands.Read) = (scanned, handed_over w, refl)
    moves w (Some commands.Write) = write_moves t.outcome refl
    moves w (Some commands.Verify) = (scanned, refl, refl)
    moves w (Some commands.ExtendedDescribe) = tt
    moves w (Some commands.SetDeviceLock) = tt
    moves w (Some commands.DeleteDeviceLock) = tt
    moves w (Some commands.SetUnitLock) = tt
    moves w (Some commands.DeleteUnitLock) = tt

    -- The same, of what a call leaves.
    pub moves_are : Wholes bs → (bs' : List Block) (left : List ℕ) (after : Option Failure) →
        let m = moved_by_command t.command t b (span bs b n) given in
        bs' ≡ laid bs b m.put → left ≡ m.buffer → after ≡ m.progress.outcome → Moves t b n bs bs' given left after
    moves_are w bs' left after e f o = rw (e, f, o) (moves w t.command)
