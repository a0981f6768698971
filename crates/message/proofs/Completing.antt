-- A good message is scanned to its end.
use Rattle.std.proofs.Common.{◌≡◌, ℕ, Bool, true, false, cond, List, [], ◌∷◌, ◌++◌, IfSome, Some, None, Ok, Err, Option, Result, sym, refl, ap, ◌∙◌, ⊎_elim}
use Rattle.std.proofs.lemmas.List.{drop_at}
use Rattle.message.specs.declared.command.Command.{Command}
use Rattle.message.specs.declared.draft.Draft.{Draft}
use Rattle.message.specs.declared.parameters.Parameters.{Parameters}
use Rattle.flex.specs.declared.status.Status.{Status}
use Rattle.flex.specs.declared.status.Status.TheVariants.{MessageSequence}
use Rattle.flex.specs.declared.unit_map.UnitMap.{UnitMap}
use Rattle.message.specs.Decoding.{taking, scan}
use Rattle.message.specs.Messages.{starting}
use Rattle.message.specs.Arrangements.{Target, Part, no_op, set_unit, set_address, set_length, real, operand_size, Spells, Outline, parts_of, others, in_effect, Present, Reachable, Measured, Good, aimed_in}
use Rattle.message.proofs.Arranging.{outline, drafted}
use Rattle.message.proofs.Bounds.{draft_address, unit_to, target_to, length_to}
use Rattle.message.proofs.Reading.{takes, given, step_part}
use Rattle.message.proofs.Scanning.{goes_on, scan_skip}

module _ (m : UnitMap) where
  -- one part, and then the others
  abbrev moved : Draft → Part → Result Draft Status
  moved d q = cond (takes d q) (given m d q) (Err MessageSequence)

  abbrev run : Draft → List Part → Result Draft Status
  run d [] = Ok d
  run d (q ∷ qs) = elim (moved d q) [ Ok e ↦ run e qs | Err s ↦ Err s ]

  abbrev then_all : List Part → Result Draft Status → Result Draft Status
  then_all qs r = elim r [ Ok e ↦ run e qs | Err s ↦ Err s ]

  -- the scan of bytes is a run of the parts that they spell
  step_run : (rest : List ℕ) (k : ℕ) (qs : List Part) → ((d : Draft) → scan m rest k d ≡ run d qs) → (b : Bool) (r : Result Draft Status) → goes_on m rest (cond b (taking k r) (Err MessageSequence)) ≡ then_all qs (cond b r (Err MessageSequence))
  step_run rest k qs more false r = refl
  step_run rest k qs more true (Err s) = refl
  step_run rest k qs more true (Ok d) = more d

  scan_run : (qs : List Part) (bytes : List ℕ) (d : Draft) → Spells qs bytes → scan m bytes 0 d ≡ run d qs
  scan_run [] bytes d s = ap (λ (b : List ℕ). scan m b 0 d) s
  scan_run (q ∷ qs) bytes d s =
      let operand = s.1 in
      let rest = s.2 in
      let more : (e : Draft) → scan m (operand ++ rest) (operand_size q) e ≡ run e qs =
      λ e. scan_skip m (operand_size q) (operand ++ rest) e ∙ ap (λ (b : List ℕ). scan m b 0 e) (drop_at operand rest (operand_size q) s.5.size) ∙ scan_run qs rest e s.6 in
      ap (λ (b : List ℕ). scan m b 0 d) s.3
      ∙ ap (goes_on m (operand ++ rest)) (step_part m d q s.0 operand rest s.4 s.5)
      ∙ step_run (operand ++ rest) (operand_size q) qs more (takes d q) (given m d q)

  -- No Op does nothing
  then_others : (r : Result Draft Status) (qs rs : List Part) → ((d : Draft) → run d qs ≡ run d rs) → then_all qs r ≡ then_all rs r
  then_others (Ok d) qs rs same = same d
  then_others (Err s) qs rs same = refl

  run_others : (qs : List Part) (d : Draft) → run d qs ≡ run d (others qs)
  run_others [] d = refl
  run_others (no_op ∷ qs) d = run_others qs d
  run_others (set_unit u ∷ qs) d = then_others (moved d (set_unit u)) qs (others qs) (run_others qs)
  run_others (set_address t ∷ qs) d = then_others (moved d (set_address t)) qs (others qs) (run_others qs)
  run_others (set_length n ∷ qs) d = then_others (moved d (set_length n)) qs (others qs) (run_others qs)
  run_others (real k ∷ qs) d = then_others (moved d (real k)) qs (others qs) (run_others qs)

  -- each kind of part, where the outline has it
  module _ (own : Parameters) where
    then_run : (rest : List Part) (r : Result Draft Status) (d : Draft) → r ≡ Ok d → then_all rest r ≡ run d rest
    then_run rest r d e = ap (then_all rest) e

    run_unit : (unit : Option ℕ) (rest : List Part) → IfSome unit (λ u. Present m u) → run (drafted m own (outline None None None None)) (parts_of set_unit unit ++ rest) ≡ run (drafted m own (outline unit None None None)) rest
    run_unit None rest h = refl
    run_unit (Some u) rest h = then_run rest (moved (drafted m own (outline None None None None)) (set_unit u)) (drafted m own (outline (Some u) None None None)) (unit_to m (drafted m own (outline None None None None)) u h)

    run_target : (unit : Option ℕ) (target : Option Target) (amount : Option ℕ) (rest : List Part) → IfSome target (λ t. Reachable m (in_effect own (outline unit target amount None)) t) → run (drafted m own (outline unit None amount None)) (parts_of set_address target ++ rest) ≡ run (drafted m own (outline unit target amount None)) rest
    run_target unit None amount rest h = refl
    run_target unit (Some t) amount rest h =
        let d = drafted m own (outline unit None amount None) in
        then_run rest (moved d (set_address t)) (drafted m own (outline unit (Some t) amount None))
        (target_to m d t h.0 h.1 h.2 ∙ ap (λ g. Ok (draft_address d (aimed_in t g))) (sym h.1))

    run_amount : (unit : Option ℕ) (target : Option Target) (amount : Option ℕ) (rest : List Part) → IfSome amount (λ n. Measured n) → run (drafted m own (outline unit target None None)) (parts_of set_length amount ++ rest) ≡ run (drafted m own (outline unit target amount None)) rest
    run_amount unit target None rest h = refl
    run_amount unit target (Some n) rest h = then_run rest (moved (drafted m own (outline unit target None None)) (set_length n)) (drafted m own (outline unit target (Some n) None)) (length_to m (drafted m own (outline unit target None None)) n h)

    run_command : (unit : Option ℕ) (target : Option Target) (amount : Option ℕ) (command : Option Command) → run (drafted m own (outline unit target amount None)) (parts_of real command) ≡ Ok (drafted m own (outline unit target amount command))
    run_command unit target amount None = refl
    run_command unit target amount (Some k) = refl

    -- so a good message comes to the draft of its outline
    pub complete : (bytes : List ℕ) (o : Outline) → Good m own bytes o → scan m bytes 0 (starting own) ≡ Ok (drafted m own o)
    complete bytes o good =
        let d = starting own in
        let u = parts_of set_unit o.unit in
        let t = parts_of set_address o.target in
        let a = parts_of set_length o.amount in
        let k = parts_of real o.command in
        let b = good.bounded in
        let last = run_command o.unit o.target o.amount o.command in
        let first : run d (u ++ (t ++ (a ++ k))) ≡ Ok (drafted m own o) =
        run_unit o.unit (t ++ (a ++ k)) b.unit ∙ run_target o.unit o.target None (a ++ k) b.target ∙ run_amount o.unit o.target o.amount k b.amount ∙ last in
        let second : run d (u ++ (a ++ (t ++ k))) ≡ Ok (drafted m own o) =
        run_unit o.unit (a ++ (t ++ k)) b.unit ∙ run_amount o.unit None o.amount (t ++ k) b.amount ∙ run_target o.unit o.target o.amount k b.target ∙ last in
        scan_run good.parts bytes d good.spelled
        ∙ run_others good.parts d
        ∙ ⊎_elim (λ e. ap (run d) e ∙ first) (λ e. ap (run d) e ∙ second) good.arranged
