-- What the decoder's step makes of a code, told by the part that the code and the bytes after it spell.
use Rattle.std.proofs.Common.{◌≡◌, ◌==◌, ℕ, ◌+◌, ◌-◌, ◌<◌, ◌≤◌, Bool, true, false, cond, ◌&&◌, eqb, leb, ◌⊎◌, List, [], ◌∷◌, ◌++◌, length, take, drop, Some, None, Ok, Err, Option, Result, sym, refl, ap, ◌∙◌, inl, inr, ⊎_elim, arith}
use Rattle.std.proofs.lemmas.List.{length-append, length-drop, length-take-le, take-append-le, drop-append-le, take-append-drop, take_at}
use Rattle.std.proofs.lemmas.Bool.{eqb-true, ne_eqb, le-leb, lt-leb, leb-true, and_from, and_parts, cond-true, cond-false, false_from_ne_true, cases_Bool, cases_eq, cases_lt}
use Rattle.std.proofs.lemmas.Option.{none-some}
use Rattle.std.specs.List.{find}
use Rattle.message.specs.declared.command.Command.{Command}
use Rattle.message.specs.declared.command.Command.TheVariants.{Read, Write, Verify, ExtendedDescribe, SetDeviceLock, DeleteDeviceLock, SetUnitLock, DeleteUnitLock}
use Rattle.message.specs.declared.draft.Draft.{Draft}
use Rattle.flex.specs.declared.status.Status.{Status}
use Rattle.flex.specs.declared.status.Status.TheVariants.{IllegalOpcode, MessageSequence, MessageLength}
use Rattle.flex.specs.declared.unit_map.UnitMap.{UnitMap}
use Rattle.message.specs.Commands.{code_of, commands, command_at}
use Rattle.message.specs.Operands.{number, number_in, vector_of, vector_within}
use Rattle.message.specs.Messages.{takes_unit, takes_address, takes_length, takes_command, with_unit, with_address, with_vector, with_length, with_command}
use Rattle.message.specs.Decoding.{taking, place_read, vector_read, amount_read, command_read, command_set, step}
use Rattle.message.specs.Arrangements.{single, by_vector, Part, no_op, set_unit, set_address, set_length, real, Opens, operand_size, Tells, Carries}
use Rattle.flex.proofs.Cases.{absent}

-- whether a draft takes a part
abbrev pub takes : Draft → Part → Bool
takes d no_op = true
takes d (set_unit u) = takes_unit d
takes d (set_address t) = takes_address d
takes d (set_length n) = takes_length d
takes d (real k) = takes_command d

-- what it makes of it then
abbrev pub given : UnitMap → Draft → Part → Result Draft Status
given m d no_op = Ok d
given m d (set_unit u) = with_unit m d u
given m d (set_address (single address)) = with_address m d address
given m d (set_address (by_vector v)) = with_vector m d v
given m d (set_length n) = with_length d n
given m d (real k) = Ok (with_command d k)

-- a command's code is its own
command_of : (k : Command) → command_at (code_of k) ≡ Some k
command_of Read = refl
command_of Write = refl
command_of Verify = refl
command_of ExtendedDescribe = refl
command_of SetDeviceLock = refl
command_of DeleteDeviceLock = refl
command_of SetUnitLock = refl
command_of DeleteUnitLock = refl

step_command : (m : UnitMap) (d : Draft) (k : Command) (rest : List ℕ) → step m d (code_of k) rest ≡ command_set d (code_of k)
step_command m d Read rest = refl
step_command m d Write rest = refl
step_command m d Verify rest = refl
step_command m d ExtendedDescribe rest = refl
step_command m d SetDeviceLock rest = refl
step_command m d DeleteDeviceLock rest = refl
step_command m d SetUnitLock rest = refl
step_command m d DeleteUnitLock rest = refl

-- a code that has a command is that command's
command_code : (ks : List Command) (code : ℕ) (k : Command) → find (λ k. code == code_of k) ks ≡ Some k → code ≡ code_of k
command_code [] code k e = absurd (none-some _ e)
command_code (x ∷ ks) code k e =
    ⊎_elim
    (λ t. let p : Some x ≡ Some k = sym (cond-true _ (Some x) _ t) ∙ e in let q : x ≡ k = cc in eqb-true _ _ t ∙ ap code_of q)
    (λ f. command_code ks code k (sym (cond-false _ (Some x) _ f) ∙ e))
    (cases_Bool (eqb code (code_of x)))

-- the first bytes of a list that begins with an operand
module _ (operand rest : List ℕ) where
  number_first : (n : ℕ) → length operand ≡ n → number_in n (operand ++ rest) ≡ Some (number operand)
  number_first n e =
      let l : n ≤ length (operand ++ rest) = omega (arith, length-append operand rest) in
      cond-true _ _ None (le-leb _ _ l) ∙ ap (λ bs. Some (number bs)) (take_at operand rest n e)

  vector_first : length operand ≡ 6 → vector_within (operand ++ rest) ≡ Some (vector_of operand)
  vector_first e =
      let l : 6 ≤ length (operand ++ rest) = omega (arith, length-append operand rest) in
      let h : length (drop 3 operand) ≡ length operand - 3 = length-drop 3 operand in
      let s : length (drop 4 operand) ≡ length operand - 4 = length-drop 4 operand in
      let three : take 3 (operand ++ rest) ≡ take 3 operand = take-append-le 3 operand rest (omega arith) in
      let one : take 1 (drop 3 (operand ++ rest)) ≡ take 1 (drop 3 operand) = ap (take 1) (drop-append-le 3 operand rest (omega arith)) ∙ take-append-le 1 (drop 3 operand) rest (omega arith) in
      let two : take 2 (drop 4 (operand ++ rest)) ≡ take 2 (drop 4 operand) = ap (take 2) (drop-append-le 4 operand rest (omega arith)) ∙ take-append-le 2 (drop 4 operand) rest (omega arith) in
      let same : vector_of (operand ++ rest) ≡ vector_of operand = rw (three, one, two) in
      cond-true _ _ None (le-leb _ _ l) ∙ ap Some same

-- A code that begins a part, with all its bytes after it.
pub step_part : (m : UnitMap) (d : Draft) (q : Part) (code : ℕ) (operand rest : List ℕ) → Opens q code → Carries q operand → step m d code (operand ++ rest) ≡ cond (takes d q) (taking (operand_size q) (given m d q)) (Err MessageSequence)
step_part m d no_op code operand rest o c = ap (λ n. step m d n (operand ++ rest)) o
step_part m d (set_unit u) code operand rest o c =
    let a : eqb (0x20 + u) 0x34 ≡ false = ne_eqb (0x20 + u) 0x34 (λ e. omega (arith, o.0, e)) in
    let b : (leb 0x20 (0x20 + u) && leb (0x20 + u) 0x2f) ≡ true = and_from _ _ (le-leb 0x20 (0x20 + u) (omega arith)) (le-leb (0x20 + u) 0x2f (omega (arith, o.0))) in
    let s : 0x20 + u - 0x20 ≡ u = omega arith in
    ap (λ n. step m d n (operand ++ rest)) o.1 ∙ rw (a, b, s)
step_part m d (set_address (single address)) code operand rest o c =
    ap (λ n. step m d n (operand ++ rest)) o
    ∙ ap (λ n. cond (takes_address d) (place_read m d n) (Err MessageSequence)) (number_first operand rest 6 c.size ∙ ap Some (sym c.value))
step_part m d (set_address (by_vector v)) code operand rest o c =
    ap (λ n. step m d n (operand ++ rest)) o
    ∙ ap (λ w. cond (takes_address d) (vector_read m d w) (Err MessageSequence)) (vector_first operand rest c.size ∙ ap Some (sym c.value))
step_part m d (set_length n) code operand rest o c =
    ap (λ n. step m d n (operand ++ rest)) o
    ∙ ap (λ n. cond (takes_length d) (amount_read d n) (Err MessageSequence)) (number_first operand rest 4 c.size ∙ ap Some (sym c.value))
step_part m d (real k) code operand rest o c =
    ap (λ n. step m d n (operand ++ rest)) o ∙ step_command m d k (operand ++ rest) ∙ ap (command_read d) (command_of k)

-- A code that begins a part, with some of its bytes missing.
pub step_short : (m : UnitMap) (d : Draft) (q : Part) (code : ℕ) (rest : List ℕ) → Opens q code → length rest < operand_size q → step m d code rest ≡ cond (takes d q) (Err MessageLength) (Err MessageSequence)
step_short m d no_op code rest o l = absurd (omega arith)
step_short m d (set_unit u) code rest o l = absurd (omega arith)
step_short m d (set_address (single address)) code rest o l =
    ap (λ n. step m d n rest) o ∙ ap (λ n. cond (takes_address d) (place_read m d n) (Err MessageSequence)) (cond-false _ (Some (number (take 6 rest))) None (lt-leb _ _ l))
step_short m d (set_address (by_vector v)) code rest o l =
    ap (λ n. step m d n rest) o ∙ ap (λ w. cond (takes_address d) (vector_read m d w) (Err MessageSequence)) (cond-false _ (Some (vector_of rest)) None (lt-leb _ _ l))
step_short m d (set_length n) code rest o l =
    ap (λ n. step m d n rest) o ∙ ap (λ n. cond (takes_length d) (amount_read d n) (Err MessageSequence)) (cond-false _ (Some (number (take 4 rest))) None (lt-leb _ _ l))
step_short m d (real k) code rest o l = absurd (omega arith)

-- A code that begins no part.
pub step_unknown : (m : UnitMap) (d : Draft) (code : ℕ) (rest : List ℕ) → ((q : Part) → Opens q code → ⊥) → step m d code rest ≡ Err IllegalOpcode
step_unknown m d code rest none =
    let a : eqb code 0x34 ≡ false = ne_eqb code 0x34 (λ e. none no_op e) in
    let b : (leb 0x20 code && leb code 0x2f) ≡ false =
    false_from_ne_true _ (λ t.
    let p = and_parts (leb 0x20 code) _ t in
    let low : 0x20 ≤ code = leb-true _ _ p.0 in
    let high : code ≤ 0x2f = leb-true _ _ p.1 in
    none (set_unit (code - 0x20)) (omega arith, omega arith)) in
    let c : (leb 0x10 code && leb code 0x11) ≡ false =
    false_from_ne_true _ (λ t.
    let p = and_parts (leb 0x10 code) _ t in
    let low : 0x10 ≤ code = leb-true _ _ p.0 in
    let high : code ≤ 0x11 = leb-true _ _ p.1 in
    ⊎_elim (λ e. none (set_address (single 0)) e) (λ ne. none (set_address (by_vector (vector_of []))) (omega arith)) (cases_eq code 0x10)) in
    let e : eqb code 0x18 ≡ false = ne_eqb code 0x18 (λ e. none (set_length 0) e) in
    let f : command_at code ≡ None = absent (command_at code) (λ k h. none (real k) (command_code commands code k h)) in
    rw (a, b, c, e, f)

-- Of a code and the bytes after it, either they begin with a part, or some of the part's bytes are missing, or no part begins so.
pub data Reading (code : ℕ) (rest : List ℕ) : Type 0 where
  whole : (q : Part) (operand after : List ℕ) → Opens q code → Carries q operand → rest ≡ operand ++ after → Reading code rest
  cut : (q : Part) → Opens q code → length rest < operand_size q → Reading code rest
  nothing : ((q : Part) → Opens q code → ⊥) → Reading code rest

module _ (code : ℕ) (rest : List ℕ) where
  -- with no operand
  bare : (q : Part) → Opens q code → Carries q [] → Reading code rest
  bare q o c = whole q [] rest o c refl

  -- with an operand of n bytes
  sized : (n : ℕ) (f : List ℕ → Part) → ((bs : List ℕ) → Opens (f bs) code) → ((bs : List ℕ) → operand_size (f bs) ≡ n) → ((bs : List ℕ) → Tells (f bs) bs) → Reading code rest
  sized n f o size value =
      ⊎_elim
      (λ l. cut (f []) (o []) (omega (arith, size [])))
      (λ l. whole (f (take n rest)) (take n rest) (drop n rest) (o (take n rest)) (record { size = length-take-le n rest l ∙ sym (size (take n rest)); value = value (take n rest) }) (sym (take-append-drop n rest)))
      (cases_lt (length rest) n)

  unknown_code : (code ≡ 0x34 → ⊥) → ((0x20 ≤ code) × (code < 0x30) → ⊥) → (code ≡ 0x10 → ⊥) → (code ≡ 0x11 → ⊥) → (code ≡ 0x18 → ⊥) → command_at code ≡ None → (q : Part) → Opens q code → ⊥
  unknown_code a b c d e f no_op o = a o
  unknown_code a b c d e f (set_unit u) o = b (omega arith, omega arith)
  unknown_code a b c d e f (set_address (single address)) o = c o
  unknown_code a b c d e f (set_address (by_vector v)) o = d o
  unknown_code a b c d e f (set_length n) o = e o
  unknown_code a b c d e f (real k) o =
      none-some _ (sym f ∙ ap command_at o ∙ command_of k)

  by_command : (code ≡ 0x34 → ⊥) → ((0x20 ≤ code) × (code < 0x30) → ⊥) → (code ≡ 0x10 → ⊥) → (code ≡ 0x11 → ⊥) → (code ≡ 0x18 → ⊥) → (o : Option Command) → command_at code ≡ o → Reading code rest
  by_command a b c d e (Some k) h = bare (real k) (command_code commands code k h) (record { size = refl; value = tt })
  by_command a b c d e None h = nothing (unknown_code a b c d e h)

  unit_code : ((0x20 ≤ code) × (code < 0x30)) ⊎ ((0x20 ≤ code) × (code < 0x30) → ⊥)
  unit_code =
      ⊎_elim
      (λ below. inr (λ r. omega (arith, r.0)))
      (λ low. ⊎_elim (λ high. inl (low, high)) (λ above. inr (λ r. omega (arith, r.1))) (cases_lt code 0x30))
      (cases_lt code 0x20)

  pub reading : Reading code rest
  reading =
      ⊎_elim (λ o. bare no_op o (record { size = refl; value = tt })) (λ a.
      ⊎_elim (λ r. bare (set_unit (code - 0x20)) (omega (arith, r.0, r.1), omega (arith, r.0)) (record { size = refl; value = tt })) (λ b.
      ⊎_elim (λ o. sized 6 (λ bs. set_address (single (number bs))) (λ _. o) (λ _. refl) (λ _. refl)) (λ c.
      ⊎_elim (λ o. sized 6 (λ bs. set_address (by_vector (vector_of bs))) (λ _. o) (λ _. refl) (λ _. refl)) (λ d.
      ⊎_elim (λ o. sized 4 (λ bs. set_length (number bs)) (λ _. o) (λ _. refl) (λ _. refl)) (λ e.
      by_command a b c d e (command_at code) refl)
      (cases_eq code 0x18)) (cases_eq code 0x11)) (cases_eq code 0x10)) unit_code) (cases_eq code 0x34)
