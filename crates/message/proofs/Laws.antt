-- The two laws of the decoder.
use Rattle.std.proofs.Common.{◌≡◌, ℕ, ◌≤◌, Bool, true, ◌&&◌, leb, List, [], length, None, Ok, Err, Result, sym, refl, ap, ◌∙◌, subst, inl, inr, ⊎_elim, arith}
use Rattle.std.proofs.lemmas.Bool.{and_from, and_parts, both_ways, cases_Bool, cond-true, cond-false, le-leb, leb-true}
use Rattle.message.specs.declared.draft.Draft.{Draft}
use Rattle.message.specs.declared.message.Message.{Message}
use Rattle.message.specs.declared.parameters.Parameters.{Parameters}
use Rattle.flex.specs.declared.status.Status.{Status}
use Rattle.flex.specs.declared.status.Status.TheVariants.{MessageLength}
use Rattle.flex.specs.declared.unit_map.UnitMap.{UnitMap}
use Rattle.message.specs.Decoding.{scan, completed, decoded}
use Rattle.message.specs.Messages.{starting, finished}
use Rattle.message.specs.Arrangements.{asked, Good, Accepted, AtFault, Refused, Accepts, Refuses}
use Rattle.message.proofs.Arranging.{outline, finished_drafted}
use Rattle.message.proofs.Cases.{not_both}
use Rattle.message.proofs.Completing.{complete}
use Rattle.message.proofs.Walking.{Outcome, walk}

module _ (m : UnitMap) (own : Parameters) (bytes : List ℕ) where
  -- the scan of a whole message
  outcome : Outcome m own bytes (scan m bytes 0 (starting own))
  outcome =
      walk m own bytes bytes 0 (omega arith) [] [] (starting own) refl refl
      (record { o = outline None None None None; arranged = inl refl; bounded = record { unit = tt; target = tt; amount = tt }; is = refl })

  lengths : Bool
  lengths = leb 1 (length bytes) && leb (length bytes) 1024

  fitting : lengths ≡ true → (1 ≤ length bytes) × (length bytes ≤ 1024)
  unfolding lengths
  fitting t = let p = and_parts (leb 1 (length bytes)) _ t in (leb-true _ _ p.0, leb-true _ _ p.1)

  -- an accepted message
  finished_good : (r : Result Draft Status) (message : Message) → Outcome m own bytes r → completed r ≡ Ok message → (o : _) × Good m own bytes o × (message ≡ asked m own o)
  finished_good (Err s) message known e = absurd (not_both (sym e))
  finished_good (Ok d) message known e =
      let is : message ≡ finished d = cc in
      (known.0, known.1, is ∙ ap finished known.2 ∙ finished_drafted m own known.0)

  stopped : (r : Result Draft Status) (s : Status) → Outcome m own bytes r → completed r ≡ Err s → AtFault m own bytes s
  stopped (Ok d) s known e = absurd (not_both e)
  stopped (Err x) s known e = let is : x ≡ s = cc in subst (AtFault m own bytes) is known

  accepted_from : (message : Message) → decoded m own bytes ≡ Ok message → Accepted m own bytes message
  unfolding decoded lengths
  accepted_from message e =
      let whole = completed (scan m bytes 0 (starting own)) in
      ⊎_elim
      (λ t. let p = fitting t in (p.0, p.1, finished_good _ message outcome (sym (cond-true lengths whole (Err MessageLength) t) ∙ e)))
      (λ f. absurd (not_both (sym (sym (cond-false lengths whole (Err MessageLength) f) ∙ e))))
      (cases_Bool lengths)

  accepted_to : (message : Message) → Accepted m own bytes message → decoded m own bytes ≡ Ok message
  unfolding decoded lengths
  accepted_to message a =
      let whole = completed (scan m bytes 0 (starting own)) in
      let t : lengths ≡ true = and_from _ _ (le-leb _ _ a.0) (le-leb _ _ a.1) in
      let p = a.2 in
      cond-true lengths whole (Err MessageLength) t
      ∙ ap completed (complete m own bytes p.0 p.1)
      ∙ ap Ok (finished_drafted m own p.0 ∙ sym p.2)

  refused_from : (s : Status) → decoded m own bytes ≡ Err s → Refused m own bytes s
  unfolding decoded lengths
  refused_from s e =
      let whole = completed (scan m bytes 0 (starting own)) in
      ⊎_elim
      (λ t. let p = fitting t in inr (p.0, p.1, stopped _ s outcome (sym (cond-true lengths whole (Err MessageLength) t) ∙ e)))
      (λ f.
      let is : Err MessageLength ≡ Err s = sym (cond-false lengths whole (Err MessageLength) f) ∙ e in
      let off : s ≡ MessageLength = cc in
      inl (λ l. both_ways lengths f (and_from _ _ (le-leb _ _ l.0) (le-leb _ _ l.1)), off))
      (cases_Bool lengths)

  -- what is answered as `decoded` says keeps both laws
  module _ (r : Result Message Status) (is : r ≡ decoded m own bytes) where
    pub accepts : Accepts m own bytes r
    accepts message = (λ e. accepted_from message (sym is ∙ e), λ a. is ∙ accepted_to message a)

    pub refuses : Refuses m own bytes r
    refuses s e = refused_from s (sym is ∙ e)
