-- What is printed, one part after the other.
use Rattle.std.proofs.Common.{◌≡◌, List, ℕ, ◌∷◌, ◌++◌, Ok, Err, OnOk, Option, Result, append_assoc, codes, refl, subst, sym, ◌∙◌}
use Rattle.std.specs.Io.KnownBytes.{Appends}
use Rattle.std.proofs.KnownBytes.{Appends-trans}
use Rattle.store.specs.Blocks.{Block}
use Rattle.cuwajimo.specs.declared.call.Call.{Call}
use Rattle.cuwajimo.specs.declared.medium.Medium.{Medium}
use Rattle.cuwajimo.specs.declared.plan.Plan.{Plan}
use Rattle.cuwajimo.specs.declared.plan.Source.{Source}
use Rattle.cuwajimo.specs.Printed.{line, AfterOff, FromOff, Prints}

-- One more part is printed: what was to come begins with it.
pub next_printed :
    (a b c : Option (List ℕ)) (so_far more rest all : List ℕ) → Appends a b so_far → Appends b c more → so_far ++ (more ++ rest) ≡ all
    → (x : List ℕ) × Appends a c x × (x ++ rest ≡ all)
next_printed a b c so_far more rest all before now is = (so_far ++ more, Appends-trans a b c so_far more before now, append_assoc so_far more rest ∙ is)

-- That the pile is settled, and then what the calls after `off` print, is what the calls from `off` on print.
pub after_settled :
    {X E : Type 0} (r : Result X E) (plan : Plan) (source : Source) (medium : Medium) (of : Option (List Block)) (first : Call) (calls all : List Call) (a b c : Option (List ℕ))
    → all ≡ first ∷ calls → Appends a b (line (codes "off: settled")) → OnOk r (Prints (AfterOff plan source medium of calls) b c) → OnOk r (Prints (FromOff plan source medium of all) a c)
after_settled (Ok x) plan source medium of first calls all a b c is head rest =
    let settled = line (codes "off: settled") in
    subst (λ (cs : List Call). Prints (FromOff plan source medium of cs) a c) (sym is) (settled ++ rest.0, (rest.0, rest.1, refl), Appends-trans a b c settled rest.0 head rest.2)
after_settled (Err e) plan source medium of first calls all a b c is head rest = tt
