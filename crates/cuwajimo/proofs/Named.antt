-- Lines that are told apart by their first words.
use Rattle.std.proofs.Common.{◌≡◌, ℕ, false, cond, List, [], ◌∷◌, ◌++◌, is_some, Some, None, Ok, Err, Option, Result, bytes_eq, sym, refl, ap, ◌∙◌, subst, inl, inr}
use Rattle.std.specs.Borrow.{Bor}
use Rattle.std.specs.Option.{option_copied}
use Rattle.std.specs.Result.{result_ok}
use Rattle.std.proofs.lemmas.Bool.{false≢true}
use Rattle.std.proofs.lemmas.Option.{none-some, same_Some}
use Rattle.std.proofs.lemmas.Slice.Eq.{bytes_eq-Decides}
use Rattle.cuwajimo.specs.declared.trouble.Trouble.{Trouble}
use Rattle.cuwajimo.specs.Readings.{ReadsNamed, ReadsNamedInMemory}
use Rattle.cuwajimo.specs.Troubles.{Blamed}
use Rattle.cuwajimo.specs.Words.{IsOneOf}
use Rattle.cuwajimo.proofs.Troubles.{blamed_for}

-- No word is two names that differ.
pub apart : (word : Option (List ℕ)) (a b : List ℕ) → bytes_eq a b ≡ false → word ≡ Some a → word ≡ Some b → ⊥
apart word a b differ p q = false≢true (sym differ ∙ (bytes_eq-Decides a b).1 (same_Some a b (sym p ∙ q)))

-- No word is one of some names and a name that differs from all of them.
abbrev pub Differs : List ℕ → List (List ℕ) → Type 0
Differs b [] = Unit {0}
Differs b (a ∷ names) = (bytes_eq a b ≡ false) × Differs b names

pub none_of : (names : List (List ℕ)) (b : List ℕ) (word : Option (List ℕ)) → Differs b names → word ≡ Some b → IsOneOf names word → ⊥
none_of [] b word differ p h = h
none_of (a ∷ names) b word differ p (inl q) = apart word a b differ.0 q p
none_of (a ∷ names) b word differ p (inr h) = none_of names b word differ.1 p h

-- Names beside more names.
pub of_the_first : (a b : List (List ℕ)) (word : Option (List ℕ)) → IsOneOf a word → IsOneOf (a ++ b) word
of_the_first [] b word h = absurd h
of_the_first (name ∷ a) b word (inl p) = inl p
of_the_first (name ∷ a) b word (inr h) = inr (of_the_first a b word h)

pub of_the_others : (a b : List (List ℕ)) (word : Option (List ℕ)) → IsOneOf b word → IsOneOf (a ++ b) word
of_the_others [] b word h = h
of_the_others (name ∷ a) b word h = inr (of_the_others a b word h)

-- A word that reads as a name is it.
pub reads_name : (word : Option (List ℕ)) (r : Option (Bor (List ℕ))) (x : Bor (List ℕ)) (name : List ℕ) → option_copied r ≡ word → r ≡ Some x → x.now ≡ name → word ≡ Some name
reads_name word r x name first is same = sym first ∙ ap option_copied is ∙ ap Some same

-- What is read without memory is read with it.
pub in_memory : {X : Type 0} (line : ℕ) (Named : Type 0) (Says : X → Type 0) (r : Result (Option X) Trouble) → ReadsNamed line Named Says r → ReadsNamedInMemory line Named Says r
in_memory line Named Says (Ok None) h = h
in_memory line Named Says (Ok (Some x)) h = h
in_memory {X} line Named Says (Err e) h = (h.0, h.1, blamed_for e line ((x : X) → Says x → ⊥) h.0 h.2)

-- A call is read that is alone on its line, where next is the word behind it, if any.
pub alone_read :
    {X : Type 0} (line : ℕ) (Named : Type 0) (Says : X → Type 0) (next : Option (List ℕ)) (act : X) (r : Result (Option X) Trouble) → Named → (next ≡ None → Says act)
    → ((word : List ℕ) → next ≡ Some word → (other : X) → Says other → ⊥) → result_ok r ≡ cond (is_some next) None (Some (Some act)) → Blamed line r
    → ReadsNamed line Named Says r
alone_read line Named Says None act (Ok None) named said refused value blamed = absurd (none-some act (same_Some None (Some act) value))
alone_read line Named Says None act (Ok (Some x)) named said refused value blamed =
    subst Says (sym (same_Some x act (same_Some (Some x) (Some act) value))) (said refl)
alone_read line Named Says None act (Err e) named said refused value blamed = absurd (none-some (Some act) value)
alone_read line Named Says (Some word) act (Ok o) named said refused value blamed = absurd (none-some o (sym value))
alone_read line Named Says (Some word) act (Err e) named said refused value blamed = (blamed, named, refused word refl)
