-- The scan of a message, from left to right: as far as it comes the codes are good, and where it stops, it stops at the first at fault.
use Rattle.std.proofs.Common.{◌≡◌, ℕ, zero, suc, ◌<◌, ◌≤◌, Bool, true, false, cond, List, [], ◌∷◌, ◌++◌, length, drop, Ok, Err, Result, sym, refl, ap, ◌∙◌, subst, arith}
use Rattle.std.proofs.lemmas.List.{append_assoc, append-nil, drop_at, length-append}
use Rattle.std.proofs.lemmas.Bool.{both_ways}
use Rattle.message.specs.declared.draft.Draft.{Draft}
use Rattle.message.specs.declared.parameters.Parameters.{Parameters}
use Rattle.flex.specs.declared.status.Status.{Status}
use Rattle.flex.specs.declared.status.Status.TheVariants.{IllegalOpcode, MessageSequence, MessageLength}
use Rattle.flex.specs.declared.unit_map.UnitMap.{UnitMap}
use Rattle.message.specs.Decoding.{taking, step, scan}
use Rattle.message.specs.Arrangements.{Part, Opens, operand_size, Carries, Spells, Outline, Arranged, Bounded, Good, Fault, unknown, misplaced, short, AtFault}
use Rattle.message.proofs.Arranging.{drafted, allowed_from, allowed_to, Reached, grow, at_fault}
use Rattle.message.proofs.Scanning.{goes_on}
use Rattle.message.proofs.Reading.{takes, given, step_part, step_short, step_unknown, whole, cut, nothing, reading}

-- one part more at the end of the bytes
spells_push : (qs : List Part) (bytes : List ℕ) (q : Part) (code : ℕ) (operand : List ℕ) → Spells qs bytes → Opens q code → Carries q operand → Spells (qs ++ q ∷ []) (bytes ++ code ∷ operand)
spells_push [] bytes q code operand s o c =
    (code, operand, [], ap (λ b. b ++ code ∷ operand) s ∙ ap (λ b. code ∷ b) (sym (append-nil operand)), o, c, refl)
spells_push (p ∷ qs) bytes q code operand s o c =
    let more = spells_push qs s.2 q code operand s.6 o c in
    (s.0, s.1, s.2 ++ code ∷ operand, ap (λ b. b ++ code ∷ operand) s.3 ∙ ap (λ b. s.0 ∷ b) (append_assoc s.1 s.2 (code ∷ operand)), s.4, s.5, more)

-- what is known of a scan's end
abbrev pub Outcome : UnitMap → Parameters → List ℕ → Result Draft Status → Type 0
Outcome m own bytes (Ok d) = (o : Outline) × Good m own bytes o × (d ≡ drafted m own o)
Outcome m own bytes (Err s) = AtFault m own bytes s

-- from good codes on, n bytes into the rest
abbrev Walks : UnitMap → Parameters → List ℕ → List ℕ → Type 0
Walks m own bytes xs =
    (n : ℕ) → n ≤ length xs → (before : List Part) (front : List ℕ) (d : Draft) → bytes ≡ front ++ drop n xs → Spells before front → Reached m own before d → Outcome m own bytes (scan m xs n d)

-- at a code, after good ones
module _
    (m : UnitMap) (own : Parameters) (bytes : List ℕ) (code : ℕ) (rest : List ℕ) (before : List Part) (front : List ℕ) (o : Outline)
    (is : bytes ≡ front ++ code ∷ rest) (spelled : Spells before front) (arranged : Arranged before o) (bounded : Bounded m own o)
  where
    stops : (s : Status) → Fault m own o code rest s → AtFault m own bytes s
    stops s fault = record { before = front; code = code; rest = rest; o = o; whole = is; good = record { parts = before; spelled = spelled; arranged = arranged; bounded = bounded }; fault = fault }

    out_of_place : (q : Part) → Opens q code → takes (drafted m own o) q ≡ false → AtFault m own bytes MessageSequence
    out_of_place q opens e = stops MessageSequence (misplaced q opens (λ a. both_ways (takes (drafted m own o) q) e (allowed_to m own o q a)))

    at_whole : Walks m own bytes rest → (q : Part) (operand after : List ℕ) → Opens q code → Carries q operand → rest ≡ operand ++ after → (b : Bool) (r : Result Draft Status) → takes (drafted m own o) q ≡ b → given m (drafted m own o) q ≡ r → Outcome m own bytes (goes_on m rest (cond b (taking (operand_size q) r) (Err MessageSequence)))
    at_whole more q operand after opens carries w false r e f = out_of_place q opens e
    at_whole more q operand after opens carries w true (Err s) e f =
        stops s (subst (λ (l : List ℕ). Fault m own o code l s) (sym w) (at_fault m own o code operand after q s opens carries (allowed_from m own o q e) f))
    at_whole more q operand after opens carries w true (Ok d) e f =
        let left : drop (operand_size q) rest ≡ after = ap (drop (operand_size q)) w ∙ drop_at operand after (operand_size q) carries.size in
        let joined : front ++ code ∷ rest ≡ (front ++ code ∷ operand) ++ drop (operand_size q) rest =
        ap (λ (l : List ℕ). front ++ code ∷ l) w ∙ sym (append_assoc front (code ∷ operand) after) ∙ ap (λ (l : List ℕ). (front ++ code ∷ operand) ++ l) (sym left) in
        more (operand_size q) (omega (arith, carries.size, ap length w, length-append operand after)) (before ++ q ∷ []) (front ++ code ∷ operand) d (is ∙ joined)
        (spells_push before front q code operand spelled opens carries)
        (grow m own before q d o (allowed_from m own o q e) arranged bounded f)

    at_cut : (q : Part) → Opens q code → length rest < operand_size q → (b : Bool) → takes (drafted m own o) q ≡ b → Outcome m own bytes (goes_on m rest (cond b (Err MessageLength) (Err MessageSequence)))
    at_cut q opens l false e = out_of_place q opens e
    at_cut q opens l true e = stops MessageLength (short q opens (allowed_from m own o q e) l)

    at_code : Walks m own bytes rest → Outcome m own bytes (scan m (code ∷ rest) 0 (drafted m own o))
    at_code more =
        let d = drafted m own o in
        let P : Result (Draft × ℕ) Status → Type 0 = λ r. Outcome m own bytes (goes_on m rest r) in
        elim (reading code rest) [
          | whole q operand after opens carries w ↦
              subst P (sym (ap (step m d code) w ∙ step_part m d q code operand after opens carries))
              (at_whole more q operand after opens carries w (takes d q) (given m d q) refl refl)
          | cut q opens l ↦ subst P (sym (step_short m d q code rest opens l)) (at_cut q opens l (takes d q) refl)
          | nothing none ↦ subst P (sym (step_unknown m d code rest none)) (stops IllegalOpcode (unknown none))
        ]

pub walk : (m : UnitMap) (own : Parameters) (bytes xs : List ℕ) → Walks m own bytes xs
walk m own bytes [] zero l before front d is spelled reached =
    (reached.o, record { parts = before; spelled = subst (Spells before) (sym (is ∙ append-nil front)) spelled; arranged = reached.arranged; bounded = reached.bounded }, reached.is)
walk m own bytes [] (suc n) l before front d is spelled reached = absurd (omega arith)
walk m own bytes (x ∷ xs) (suc n) l before front d is spelled reached = walk m own bytes xs n (omega arith) before front d is spelled reached
walk m own bytes (x ∷ xs) zero l before front d is spelled reached =
    subst (λ (e : Draft). Outcome m own bytes (scan m (x ∷ xs) 0 e)) (sym reached.is)
    (at_code m own bytes x xs before front reached.o is spelled reached.arranged reached.bounded (walk m own bytes xs))
