use Rattle.std.proofs.Common.{◌≡◌, ℕ, ◌+◌, ◌-◌, ◌*◌, List, ◌++◌, length, drop, Ok, Err, sym, ap, ◌∙◌, subst}
use borrow.Rule.Slice.PartMut.{put_mid}
use Rattle.std.proofs.lemmas.Bool.{cond-true, cond-false}
use Rattle.flex.specs.declared.status.Status.TheVariants.{BadBuffer}
use Rattle.describe.specs.Descriptions.{controller_table, description}
use Rattle.describe.specs.Readers.{ReadBack}
use Rattle.describe.proofs.Writing.{too_short, long_enough, all_written, two_bytes}
use Rattle.describe.proofs.Reading.{read_back}
use Rattle.describe.proofs.description.describe.Goals as goal

pub returns-then-buffer-end-clause-is : goal.returns-then-buffer-end-clause-is
returns-then-buffer-end-clause-is c =
    sym (cond-false _ _ (Err BadBuffer) (too_short c.args.map.now c.args.host c.args.buffer.now c.from.result (c.from.ensures ∙ c.count.ensures) c.if-buffer-end.true))

pub returns-then-buffer-end-clause-buffer : goal.returns-then-buffer-end-clause-buffer
returns-then-buffer-end-clause-buffer c =
    sym (cond-false _ _ c.args.buffer.now (too_short c.args.map.now c.args.host c.args.buffer.now c.from.result (c.from.ensures ∙ c.count.ensures) c.if-buffer-end.true))

pub returns-clause-is : goal.returns-clause-is
returns-clause-is c =
    sym (cond-true _ (Ok tt) _ (long_enough c.args.map.now c.args.host c.args.buffer.now c.from.result (c.from.ensures ∙ c.count.ensures) c.if-buffer-end.false))

-- where it fits, the message stands in front of what the buffer held behind it
module _ (c : goal.After-slice_known-5-1) where
  abbrev end : ℕ
  end = 16 + 38 * c.from.result

  abbrev message : List ℕ
  message = description c.args.map.now c.args.host

  written :
      put_mid end (end + 6 - end) (put_mid 16 (end - 16) (put_mid 2 14 (c.copy_from_slice.new.self ++ drop 2 c.args.buffer.now) c.copy_from_slice-2.new.self) c.write_units.new.part) c.copy_from_slice-3.new.self
      ≡ message ++ drop (length message) c.args.buffer.now
  written =
      all_written c.args.map.now c.args.host c.args.buffer.now _ _ _ _ end (ap (λ i. 16 + 38 * i) (c.from.ensures ∙ c.count.ensures))
      (c.copy_from_slice.ensures.after ∙ c.to_be_bytes.ensures ∙ two_bytes _)
      (c.copy_from_slice-2.ensures.after ∙ c.controller_table.ensures ∙ ap (λ i. controller_table i c.args.host) c.count-2.ensures)
      c.write_units.ensures
      (c.copy_from_slice-3.ensures.after ∙ c.terminator.ensures)

pub returns-clause-buffer : goal.returns-clause-buffer
returns-clause-buffer c =
    let fits = long_enough c.args.map.now c.args.host c.args.buffer.now c.from.result (c.from.ensures ∙ c.count.ensures) c.if-buffer-end.false in
    written c ∙ sym (cond-true _ (message c ++ drop (length (message c)) c.args.buffer.now) _ fits)

pub returns-clause-law : goal.returns-clause-law
returns-clause-law c =
    subst (ReadBack c.args.map.now c.args.host) (sym (written c)) (read_back c.args.map.now c.args.host (drop (length (message c)) c.args.buffer.now))
