-- One code of a message after another, over the list of its bytes.
use Rattle.std.proofs.Common.{◌≡◌, ℕ, zero, suc, ◌-◌, ◌≤◌, Bool, true, false, cond, List, [], ◌∷◌, length, get_or, take, drop, Ok, Err, Result, sym, refl, ap, ◌∙◌, arith}
use Rattle.std.proofs.lemmas.List.{length-append, take_rest}
use Rattle.message.specs.declared.draft.Draft.{Draft}
use Rattle.flex.specs.declared.status.Status.{Status}
use Rattle.flex.specs.declared.status.Status.TheVariants.{IllegalOpcode, MessageSequence, MessageLength}
use Rattle.flex.specs.declared.unit_map.UnitMap.{UnitMap}
use Rattle.message.specs.Decoding.{taking, step, scan}
use Rattle.message.specs.Arrangements.{operand_size}
use Rattle.message.proofs.Cases.{not_both}
use Rattle.message.proofs.Reading.{takes, given, step_part, step_short, step_unknown, whole, cut, nothing, reading}

-- a step that was taken
taken : (b : Bool) (k : ℕ) (r : Result Draft Status) (d : Draft) (n : ℕ) → cond b (taking k r) (Err MessageSequence) ≡ Ok (d, n) → n ≡ k
taken true k (Ok x) d n e = let p : (x, k) ≡ (d, n) = cc in ap (λ (q : Draft × ℕ). q.1) (sym p)
taken true k (Err s) d n e = absurd (not_both (sym e))
taken false k r d n e = absurd (not_both (sym e))

neither : (b : Bool) (s t : Status) (p : Draft × ℕ) → cond {A = Result (Draft × ℕ) Status} b (Err s) (Err t) ≡ Ok p → ⊥
neither true s t p e = not_both (sym e)
neither false s t p e = not_both (sym e)

-- takes no more bytes than there are
pub step_within : (m : UnitMap) (d : Draft) (code : ℕ) (rest : List ℕ) (d' : Draft) (n : ℕ) → step m d code rest ≡ Ok (d', n) → n ≤ length rest
step_within m d code rest d' n e =
    elim (reading code rest) [
      | whole q operand after o c w ↦
          let t : n ≡ operand_size q = taken (takes d q) _ (given m d q) d' n (sym (step_part m d q code operand after o c) ∙ ap (step m d code) (sym w) ∙ e) in
          omega (arith, c.size, ap length w, length-append operand after)
      | cut q o l ↦ absurd (neither (takes d q) MessageLength MessageSequence (d', n) (sym (step_short m d q code rest o l) ∙ e))
      | nothing none ↦ absurd (neither true IllegalOpcode MessageSequence (d', n) (sym (step_unknown m d code rest none) ∙ e))
    ]

-- to skip n bytes is to begin after them
pub scan_skip : (m : UnitMap) (n : ℕ) (xs : List ℕ) (d : Draft) → scan m xs n d ≡ scan m (drop n xs) 0 d
scan_skip m zero xs d = refl
scan_skip m (suc n) [] d = refl
scan_skip m (suc n) (x ∷ xs) d = scan_skip m n xs d

-- what a step leads to
abbrev pub goes_on : UnitMap → List ℕ → Result (Draft × ℕ) Status → Result Draft Status
goes_on m rest r = elim r [ Ok p ↦ scan m rest p.1 p.0 | Err s ↦ Err s ]

-- all but the first byte, as a pattern has them
abbrev pub others : List ℕ → List ℕ
others left = take (length left - 1) (drop 1 left)

-- the scan of what is left of a message
module _ (m : UnitMap) (left : List ℕ) (d : Draft) (r : Result (Draft × ℕ) Status) (h : 1 ≤ length left) (is : r ≡ step m d (get_or left 0 0) (others left)) where
  at_first : (bs : List ℕ) → 1 ≤ length bs → scan m bs 0 d ≡ goes_on m (others bs) (step m d (get_or bs 0 0) (others bs))
  at_first [] l = absurd (omega arith)
  at_first (b ∷ bs) l = rw take_rest

  pub scan_more : (d' : Draft) (n : ℕ) → r ≡ Ok (d', n) → scan m left 0 d ≡ scan m (drop n (others left)) 0 d'
  scan_more d' n e = at_first left h ∙ ap (goes_on m (others left)) (sym is ∙ e) ∙ scan_skip m n (others left) d'

  -- what a code takes is left after it
  pub step_ends : (d' : Draft) (n : ℕ) → r ≡ Ok (d', n) → n ≤ length (others left)
  step_ends d' n e = step_within m d (get_or left 0 0) (others left) d' n (sym is ∙ e)
