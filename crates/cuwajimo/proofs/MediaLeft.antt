-- Memory that nothing was done to is left as it was.
use Rattle.std.proofs.Common.{◌≡◌, ℕ, zero, suc, false, List, [], ◌∷◌, Some, None, Ok, Err, MatchResult, OnOk, Option, Result, is_ok, refl, sym, ap, subst, ◌∙◌, vec_items}
use Rattle.std.proofs.lemmas.Bool.{false≢true}
use Rattle.std.specs.Result.{result_err}
use Rattle.store.specs.declared.fault.Protection.TheVariants as protections
use Rattle.store.specs.Blocks.{Block}
use Rattle.image.specs.declared.refusal.Refusal.{Refusal}
use Rattle.image.specs.Images.{unless_refused}
use Rattle.flat.specs.Flat.{flat_offered, FlatLeft}
use Rattle.raw.specs.Raw.{RawLeft}
use Rattle.layer.specs.Windows.{outside}
use Rattle.flat.proofs.Told.{offered_holds as flat_told}
use Rattle.raw.proofs.Told.{offered_holds as raw_told}
use Rattle.cuwajimo.specs.declared.medium.Medium.{Medium}
use Rattle.cuwajimo.specs.declared.medium.Medium.TheVariants.{Flat, Raw}
use Rattle.cuwajimo.specs.declared.plan.Fill.{Fill}
use Rattle.cuwajimo.specs.declared.plan.Fill.TheVariants.{Pattern, Damage}
use Rattle.cuwajimo.specs.declared.plan.Plan.{Plan}
use Rattle.cuwajimo.specs.declared.session.Outcome.{Outcome}
use Rattle.cuwajimo.specs.declared.trouble.Trouble.{Trouble}
use Rattle.cuwajimo.specs.Fills.{harmed_all, filled, filled_all}
use Rattle.cuwajimo.specs.Left.{MediumLeft, SameBytes, PileLeft, PileStays}
use Rattle.cuwajimo.specs.Plans.{pile_blocks, shown_run}
use Rattle.cuwajimo.specs.Media.{medium_offered}

pub medium_stays : (medium : Medium) → MediumLeft medium medium
medium_stays (Flat bytes damage) = record { long = (refl, refl); spare = refl; holds = flat_told (vec_items bytes) (vec_items damage) protections.Open }
medium_stays (Raw bytes spares records) = (refl, refl, record { long = refl; rest = refl; holds = raw_told (vec_items bytes) (vec_items spares) records protections.Open })

pub pile_stays : (plan : Plan) (medium : Medium) → PileStays plan medium medium
pile_stays plan medium = record { shown = refl; others = refl; memory = medium_stays medium }

-- Memory that was lent, by what its slices held when they came back.
pub flat_left :
    (bytes damage after marks a m : List ℕ) → after ≡ a → marks ≡ m → FlatLeft bytes damage a m → FlatLeft bytes damage after marks
flat_left bytes damage after marks a m e f left = subst (λ l. FlatLeft bytes damage l marks) (sym e) (subst (λ l. FlatLeft bytes damage a l) (sym f) left)

pub raw_left : (bytes spares : List ℕ) (records : ℕ) (after a : List ℕ) → after ≡ a → RawLeft bytes spares records a → RawLeft bytes spares records after
raw_left bytes spares records after a e left = subst (RawLeft bytes spares records) (sym e) left

-- Of no blocks nothing is filled.
harmed_none : (bs : List ℕ) → harmed_all [] bs ≡ []
harmed_none [] = refl
harmed_none (zero ∷ bs) = harmed_none bs
harmed_none (suc b ∷ bs) = harmed_none bs

filled_none : (fill : Fill) → filled fill [] ≡ []
filled_none (Pattern p) = refl
filled_none (Damage bs) = harmed_none (vec_items bs)

all_filled_none : (fills : List Fill) → filled_all fills [] ≡ []
all_filled_none [] = refl
all_filled_none (fill ∷ fills) = ap (filled_all fills) (filled_none fill) ∙ all_filled_none fills

-- Memory that is refused has no blocks, and so nothing is filled.
refused_none : (refusal : Option Refusal) (blocks : List Block) → (refusal ≡ None → ⊥) → unless_refused refusal blocks ≡ []
refused_none None blocks some = absurd (some refl)
refused_none (Some refusal) blocks some = refl

filled_refused : (fills : List Fill) (blocks : List Block) → blocks ≡ [] → blocks ≡ filled_all fills blocks
filled_refused fills blocks none = none ∙ sym (ap (filled_all fills) none ∙ all_filled_none fills)

-- What a check that was not passed says.
refused_by : (answer : Result (Unit {0}) Refusal) (refusal : Option Refusal) → result_err answer ≡ refusal → is_ok answer ≡ false → refusal ≡ None → ⊥
refused_by (Ok t) refusal e shut none = false≢true (sym shut)
refused_by (Err x) refusal e shut none = let f : Some x ≡ None = e ∙ none in absurd cc

pub unfilled : (fills : List Fill) (answer : Result (Unit {0}) Refusal) (refusal : Option Refusal) (blocks : List Block) → result_err answer ≡ refusal → is_ok answer ≡ false → unless_refused refusal blocks ≡ filled_all fills (unless_refused refusal blocks)
unfilled fills answer refusal blocks e shut = filled_refused fills (unless_refused refusal blocks) (refused_none refusal blocks (refused_by answer refusal e shut))

pub stays_where_ok : {X E : Type 0} (r : Result X E) (plan : Plan) (medium : Medium) → OnOk r (PileStays plan medium medium)
stays_where_ok (Ok x) plan medium = pile_stays plan medium
stays_where_ok (Err e) plan medium = tt

-- Where not one byte is another, the pile shows what it showed.
stays_by : (plan : Plan) (before after : Medium) → medium_offered after plan.protection ≡ medium_offered before plan.protection → MediumLeft before after → PileStays plan before after
stays_by plan before after same memory =
    record { shown = ap (pile_blocks plan) same; others = ap (λ (x : List Block). outside x (shown_run plan)) same; memory = memory }

pub pile_same : (plan : Plan) (before after : Medium) → SameBytes before after → PileStays plan before after
pile_same plan (Flat bytes damage) (Flat after marks) same =
    stays_by plan (Flat bytes damage) (Flat after marks)
    (ap (λ l. flat_offered l (vec_items marks) plan.protection) same.0 ∙ ap (λ l. flat_offered (vec_items bytes) l plan.protection) same.1)
    (flat_left (vec_items bytes) (vec_items damage) (vec_items after) (vec_items marks) (vec_items bytes) (vec_items damage) same.0 same.1 (medium_stays (Flat bytes damage)))
pile_same plan (Flat bytes damage) (Raw after places counted) same = absurd same
pile_same plan (Raw bytes spares records) (Flat after marks) same = absurd same
pile_same plan (Raw bytes spares records) (Raw after places counted) same =
    stays_by plan (Raw bytes spares records) (Raw after places counted)
    (rw (same.0, same.1, same.2) refl)
    (same.0, same.1, raw_left (vec_items bytes) (vec_items spares) records (vec_items after) (vec_items bytes) same.2 (medium_stays (Raw bytes spares records)).2)

-- Showing blocks changes nothing that the pile shows.
pub shown_stays :
    (plan : Plan) (before after : Medium) (shown : Result (Result Outcome Trouble) Refusal) (P : Result Outcome Trouble → Type 0) (Q : Type 0)
    → MatchResult shown (λ outcome. (left : List Block) × ((left ≡ pile_blocks plan (medium_offered before plan.protection)) × P outcome) × PileLeft plan before left after) (λ _. Q × SameBytes before after)
    → PileStays plan before after
shown_stays plan before after (Ok outcome) P Q done = subst (λ bs. PileLeft plan before bs after) done.1.0 done.2
shown_stays plan before after (Err refusal) P Q done = pile_same plan before after done.1
