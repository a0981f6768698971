-- Codes that are good, and one part more: it is taken, and they are good again, or it is at fault.
use Rattle.std.proofs.Common.{◌≡◌, ℕ, true, not, ◌&&◌, List, [], ◌∷◌, ◌++◌, is_some, Some, None, Ok, Err, Option, sym, refl, ap, ◌∙◌, subst, inl, inr, ⊎_elim}
use Rattle.std.proofs.lemmas.List.{append_assoc, append-nil}
use Rattle.std.proofs.lemmas.Bool.{and_from, and_parts}
use Rattle.std.specs.Option.{option_map}
use Rattle.message.specs.declared.command.Command.{Command}
use Rattle.message.specs.declared.draft.Draft.{Draft}
use Rattle.message.specs.declared.parameters.Parameters.{Parameters}
use Rattle.flex.specs.declared.status.Status.{Status}
use Rattle.flex.specs.declared.unit_map.UnitMap.{UnitMap}
use Rattle.message.specs.Messages.{finished}
use Rattle.message.specs.Arrangements.{Target, Part, no_op, set_unit, set_address, set_length, real, Opens, Carries, Outline, parts_of, others, Arranged, in_effect, Reachable, Bounded, aimed_in, aimed, asked, Allowed, Fault, no_unit, out_of_unit, uneven}
use Rattle.message.proofs.Bounds.{draft_address, unit_ok, unit_err, target_ok, target_to, target_status, length_ok, length_err}
use Rattle.message.proofs.Cases.{not_both}
use Rattle.message.proofs.Reading.{takes, given}

abbrev pub outline : Option ℕ → Option Target → Option ℕ → Option Command → Outline
outline unit target amount command = record { unit = unit; target = target; amount = amount; command = command }

-- the draft of codes that hold so much
abbrev pub drafted : UnitMap → Parameters → Outline → Draft
drafted m own o =
    record { own = own; unit = o.unit; address = option_map (aimed m (in_effect own o)) o.target; length = o.amount; command = o.command }

-- and its message
pub finished_drafted : (m : UnitMap) (own : Parameters) (o : Outline) → finished (drafted m own o) ≡ asked m own o
finished_drafted m own o = by_target o.target
  where
    by_target : (t : Option Target) → finished (drafted m own (outline o.unit t o.amount o.command)) ≡ asked m own (outline o.unit t o.amount o.command)
    by_target None = refl
    by_target (Some t) = refl

-- one part more at the end
others_push : (qs rs : List Part) → others (qs ++ rs) ≡ others qs ++ others rs
others_push [] rs = refl
others_push (no_op ∷ qs) rs = others_push qs rs
others_push (set_unit u ∷ qs) rs = ap (λ l. set_unit u ∷ l) (others_push qs rs)
others_push (set_address t ∷ qs) rs = ap (λ l. set_address t ∷ l) (others_push qs rs)
others_push (set_length n ∷ qs) rs = ap (λ l. set_length n ∷ l) (others_push qs rs)
others_push (real k ∷ qs) rs = ap (λ l. real k ∷ l) (others_push qs rs)

-- a draft takes what is allowed, and nothing else
no_some : {A : Type 0} (o : Option A) → not (is_some o) ≡ true → o ≡ None
no_some None e = refl
no_some (Some x) e = cc

no_mapped : {A B : Type 0} (f : A → B) (o : Option A) → not (is_some (option_map f o)) ≡ true → o ≡ None
no_mapped f None e = refl
no_mapped f (Some x) e = cc

none_there : {A : Type 0} (o : Option A) → o ≡ None → not (is_some o) ≡ true
none_there o e = ap (λ p. not (is_some p)) e

none_mapped : {A B : Type 0} (f : A → B) (o : Option A) → o ≡ None → not (is_some (option_map f o)) ≡ true
none_mapped f o e = ap (λ p. not (is_some (option_map f p))) e

module _ (m : UnitMap) (own : Parameters) (o : Outline) where
  pub allowed_from : (q : Part) → takes (drafted m own o) q ≡ true → Allowed o q
  allowed_from no_op e = tt
  allowed_from (set_unit u) e =
      let p = and_parts (not (is_some o.unit)) _ e in
      let q = and_parts (not (is_some (option_map (aimed m (in_effect own o)) o.target)) && not (is_some o.command)) _ p.1 in
      let r = and_parts (not (is_some (option_map (aimed m (in_effect own o)) o.target))) _ q.0 in
      let s = and_parts (not (is_some o.amount)) _ q.1 in
      (no_some o.unit p.0, no_mapped _ o.target r.0, no_some o.amount s.0, no_some o.command s.1)
  allowed_from (set_address t) e =
      let p = and_parts (not (is_some (option_map (aimed m (in_effect own o)) o.target))) _ e in
      (no_mapped _ o.target p.0, no_some o.command p.1)
  allowed_from (set_length n) e = let p = and_parts (not (is_some o.amount)) _ e in (no_some o.amount p.0, no_some o.command p.1)
  allowed_from (real k) e = no_some o.command e

  pub allowed_to : (q : Part) → Allowed o q → takes (drafted m own o) q ≡ true
  allowed_to no_op a = refl
  allowed_to (set_unit u) a =
      let t = none_mapped (aimed m (in_effect own o)) o.target a.1 in
      let k = none_there o.command a.3 in
      and_from _ _ (none_there o.unit a.0) (and_from _ _ (and_from _ _ t k) (and_from _ _ (none_there o.amount a.2) k))
  allowed_to (set_address t) a = and_from _ _ (none_mapped (aimed m (in_effect own o)) o.target a.0) (none_there o.command a.1)
  allowed_to (set_length n) a = and_from _ _ (none_there o.amount a.0) (none_there o.command a.1)
  allowed_to (real k) a = none_there o.command a

-- codes that are good, with their draft
pub record Reached (m : UnitMap) (own : Parameters) (qs : List Part) (d : Draft) : Type 0 where
  pub o : Outline
  pub arranged : Arranged qs o
  pub bounded : Bounded m own o
  pub is : d ≡ drafted m own o

same_outline : (o : Outline) (u : Option ℕ) (t : Option Target) (a : Option ℕ) (k : Option Command) → o.unit ≡ u → o.target ≡ t → o.amount ≡ a → o.command ≡ k → o ≡ outline u t a k
same_outline o u t a k e f g h =
    ap (λ x. outline x o.target o.amount o.command) e ∙ ap (λ x. outline u x o.amount o.command) f ∙ ap (λ x. outline u t x o.command) g ∙ ap (outline u t a) h

last_of : (u t a k : List Part) → (u ++ (t ++ (a ++ []))) ++ k ≡ u ++ (t ++ (a ++ k))
last_of u t a k = simp (append_assoc, append-nil)

module _ (m : UnitMap) (own : Parameters) (qs : List Part) where
  -- what one part more makes of good codes
  abbrev Grows : Part → Draft → Outline → Type 0
  Grows q d o = Arranged qs o → Bounded m own o → given m (drafted m own o) q ≡ Ok d → Reached m own (qs ++ q ∷ []) d

  grow_none : (o : Outline) (d : Draft) → Grows no_op d o
  grow_none o d arranged bounded e =
      let same : others (qs ++ no_op ∷ []) ≡ others qs = others_push qs (no_op ∷ []) ∙ append-nil (others qs) in
      record { o = o; arranged = ⊎_elim (λ a. inl (same ∙ a)) (λ a. inr (same ∙ a)) arranged; bounded = bounded; is = cc }

  grow_unit : (u : ℕ) (d : Draft) → Grows (set_unit u) d (outline None None None None)
  grow_unit u d arranged bounded e =
      let empty : others qs ≡ [] = ⊎_elim (λ a. a) (λ a. a) arranged in
      let p = unit_ok m (drafted m own (outline None None None None)) u d e in
      record {
        o = outline (Some u) None None None;
        arranged = inl (others_push qs (set_unit u ∷ []) ∙ ap (λ l. l ++ set_unit u ∷ []) empty);
        bounded = record { unit = p.0; target = tt; amount = tt };
        is = p.1;
      }

  grow_target : (unit amount : Option ℕ) (t : Target) (d : Draft) → Grows (set_address t) d (outline unit None amount None)
  grow_target unit amount t d arranged bounded e =
      let o = outline unit None amount None in
      let before : others qs ≡ parts_of set_unit unit ++ (parts_of set_length amount ++ []) = ⊎_elim (λ a. a) (λ a. a) arranged in
      let p = target_ok m (drafted m own o) t d e in
      record {
        o = outline unit (Some t) amount None;
        arranged =
            inr
            (others_push qs (set_address t ∷ [])
            ∙ ap (λ l. l ++ set_address t ∷ []) before
            ∙ last_of (parts_of set_unit unit) [] (parts_of set_length amount) (set_address t ∷ []));
        bounded = record { unit = bounded.unit; target = (p.0, p.1, p.2); amount = bounded.amount };
        is = p.3 ∙ ap (λ g. draft_address (drafted m own o) (aimed_in t g)) (sym p.1);
      }

  grow_amount : (unit : Option ℕ) (target : Option Target) (n : ℕ) (d : Draft) → Grows (set_length n) d (outline unit target None None)
  grow_amount unit target n d arranged bounded e =
      let o = outline unit target None None in
      let before : others qs ≡ parts_of set_unit unit ++ (parts_of set_address target ++ []) = ⊎_elim (λ a. a) (λ a. a) arranged in
      let p = length_ok m (drafted m own o) n d e in
      record {
        o = outline unit target (Some n) None;
        arranged =
            inl
            (others_push qs (set_length n ∷ [])
            ∙ ap (λ l. l ++ set_length n ∷ []) before
            ∙ last_of (parts_of set_unit unit) [] (parts_of set_address target) (set_length n ∷ []));
        bounded = record { unit = bounded.unit; target = bounded.target; amount = p.0 };
        is = p.1;
      }

  grow_command : (unit : Option ℕ) (target : Option Target) (amount : Option ℕ) (k : Command) (d : Draft) → Grows (real k) d (outline unit target amount None)
  grow_command unit target amount k d arranged bounded e =
      let u = parts_of set_unit unit in
      let t = parts_of set_address target in
      let a = parts_of set_length amount in
      let pushed = others_push qs (real k ∷ []) in
      record {
        o = outline unit target amount (Some k);
        arranged =
            ⊎_elim
            (λ x. inl (pushed ∙ ap (λ l. l ++ real k ∷ []) x ∙ last_of u t a (real k ∷ [])))
            (λ x. inr (pushed ∙ ap (λ l. l ++ real k ∷ []) x ∙ last_of u a t (real k ∷ [])))
            arranged;
        bounded = record { unit = bounded.unit; target = bounded.target; amount = bounded.amount };
        is = cc;
      }

  pub grow : (q : Part) (d : Draft) (o : Outline) → Allowed o q → Grows q d o
  grow no_op d o a = grow_none o d
  grow (set_unit u) d o a = subst (Grows (set_unit u) d) (sym (same_outline o None None None None a.0 a.1 a.2 a.3)) (grow_unit u d)
  grow (set_address t) d o a = subst (Grows (set_address t) d) (sym (same_outline o o.unit None o.amount None refl a.0 refl a.1)) (grow_target o.unit o.amount t d)
  grow (set_length n) d o a = subst (Grows (set_length n) d) (sym (same_outline o o.unit o.target None None refl refl a.0 a.1)) (grow_amount o.unit o.target n d)
  grow (real k) d o a = subst (Grows (real k) d) (sym (same_outline o o.unit o.target o.amount None refl refl refl a)) (grow_command o.unit o.target o.amount k d)

-- A part that is allowed and still refused breaks its bounds.
module _ (m : UnitMap) (own : Parameters) (o : Outline) (code : ℕ) (operand after : List ℕ) where
  pub at_fault : (q : Part) (s : Status) → Opens q code → Carries q operand → Allowed o q → given m (drafted m own o) q ≡ Err s → Fault m own o code (operand ++ after) s
  at_fault no_op s opens carries a e = absurd (not_both e)
  at_fault (set_unit u) s opens carries a e =
      let p = unit_err m (drafted m own o) u s e in
      subst (Fault m own o code (operand ++ after)) (sym p.0) (no_unit u opens a p.1)
  at_fault (set_address t) s opens carries a e =
      let out : Reachable m (in_effect own o) t → ⊥ = λ h. not_both (sym (target_to m (drafted m own o) t h.0 h.1 h.2) ∙ e) in
      subst (Fault m own o code (operand ++ after)) (sym (target_status m (drafted m own o) t s e)) (out_of_unit t operand after opens a carries refl out)
  at_fault (set_length n) s opens carries a e =
      let p = length_err m (drafted m own o) n s e in
      subst (Fault m own o code (operand ++ after)) (sym p.0) (uneven n operand after opens a carries refl p.1)
  at_fault (real k) s opens carries a e = absurd (not_both e)
