-- When whoever reads two lists of blocks gets the same, and where the first block is of which not everyone does.
use Rattle.std.proofs.Common.{◌≡◌, ℕ, zero, suc, ◌<◌, ◌≤◌, List, [], ◌∷◌, length, replicate, subst, Some, None, Ok, Err, Option, Result, sym, refl, ap, ◌∙◌, inl, inr, arith}
use Rattle.std.specs.List.{slice_get}
use Rattle.std.specs.Option.{option_map}
use Rattle.std.specs.Bool.{Decides}
use Rattle.std.proofs.lemmas.Slice.Eq.{bytes_eq-Decides}
use Rattle.std.proofs.lemmas.Option.{slice_get_past}
use Rattle.std.proofs.lemmas.Bool.{cases_Bool, cases_order}
use Rattle.std.proofs.lemmas.Bool.Decides.{not_from_Decides}
use Rattle.store.specs.declared.fault.FaultKind.{FaultKind}
use Rattle.store.specs.declared.fault.FaultKind.TheVariants as kinds
use Rattle.store.specs.declared.fault.StoreFault.{StoreFault}
use Rattle.store.specs.Blocks.{Block, Contents, sound, damaged, fault, if_whole, read_of, read_at, buffer_of, buffer_at, fetched_of, fetched_at, fetched}
use Rattle.store.specs.Laws.{ReadsAlike}
use Rattle.master.specs.Compares.{same_contents, first_unlike, FirstUnlike, CompareLaw}

-- what is to be read of a block, if there is one
abbrev pub contents_of : Option Block → Option Contents
contents_of o = option_map (λ (k : Block). k.contents) o

abbrev pub Same : List Block → List Block → ℕ → Type 0
Same xs ys b = contents_of (slice_get xs b) ≡ contents_of (slice_get ys b)

-- what is read, and what is fetched, by the contents alone
abbrev answer_by : ℕ → Option Contents → Result (Unit {0}) StoreFault
answer_by b None = Err (fault kinds.Beyond b)
answer_by b (Some c) = read_of b c

abbrev buffer_by : List ℕ → Option Contents → List ℕ
buffer_by buffer None = buffer
buffer_by buffer (Some c) = buffer_of buffer c

abbrev fetched_by : ℕ → Option Contents → Result (List ℕ) StoreFault
fetched_by b None = Err (fault kinds.Beyond b)
fetched_by b (Some c) = fetched_of b c

-- a block that is not there and a damaged one are refused otherwise
abbrev kind_of : {X : Type 0} → Result X StoreFault → FaultKind
kind_of (Ok x) = kinds.Length
kind_of (Err f) = f.kind

module _ (b : ℕ) where
  answer_is : (o : Option Block) → read_at b o ≡ answer_by b (contents_of o)
  answer_is None = refl
  answer_is (Some k) = refl

  buffer_is : (buffer : List ℕ) (o : Option Block) → buffer_at buffer o ≡ buffer_by buffer (contents_of o)
  buffer_is buffer None = refl
  buffer_is buffer (Some k) = refl

  fetched_is : (o : Option Block) → fetched_at b o ≡ fetched_by b (contents_of o)
  fetched_is None = refl
  fetched_is (Some k) = refl

  -- what is fetched tells the contents
  told : (c d : Option Contents) → fetched_by b c ≡ fetched_by b d → c ≡ d
  told None None e = refl
  told None (Some (sound y)) e = cc
  told None (Some damaged) e = let f : kinds.Beyond ≡ kinds.Damaged = ap kind_of e in cc
  told (Some (sound x)) None e = cc
  told (Some damaged) None e = let f : kinds.Damaged ≡ kinds.Beyond = ap kind_of e in cc
  told (Some (sound x)) (Some (sound y)) e = let f : x ≡ y = cc in ap (λ z. Some (sound z)) f
  told (Some (sound x)) (Some damaged) e = cc
  told (Some damaged) (Some (sound y)) e = cc
  told (Some damaged) (Some damaged) e = refl

  -- and so does what is read into one buffer
  read_tells : (buffer : List ℕ) (c d : Option Contents) → answer_by b c ≡ answer_by b d → buffer_by buffer c ≡ buffer_by buffer d → c ≡ d
  read_tells buffer None None e f = refl
  read_tells buffer None (Some (sound y)) e f = cc
  read_tells buffer None (Some damaged) e f = let k : kinds.Beyond ≡ kinds.Damaged = ap kind_of e in cc
  read_tells buffer (Some (sound x)) None e f = cc
  read_tells buffer (Some damaged) None e f = let k : kinds.Damaged ≡ kinds.Beyond = ap kind_of e in cc
  read_tells buffer (Some (sound x)) (Some (sound y)) e f = ap (λ z. Some (sound z)) f
  read_tells buffer (Some (sound x)) (Some damaged) e f = cc
  read_tells buffer (Some damaged) (Some (sound y)) e f = cc
  read_tells buffer (Some damaged) (Some damaged) e f = refl

module _ (xs ys : List Block) (b : ℕ) where
  pub alike_from_same : Same xs ys b → ReadsAlike xs ys b
  alike_from_same e buffer = (
    ap (λ r. if_whole buffer r (Err (fault kinds.Length b))) (answer_is b (slice_get xs b) ∙ ap (answer_by b) e ∙ sym (answer_is b (slice_get ys b))),
    ap (λ l. if_whole buffer l buffer) (buffer_is b buffer (slice_get xs b) ∙ ap (buffer_by buffer) e ∙ sym (buffer_is b buffer (slice_get ys b))),
  )

  pub same_from_alike : ReadsAlike xs ys b → Same xs ys b
  same_from_alike h =
      let buffer : List ℕ = replicate 256 0 in
      let answer : read_at b (slice_get xs b) ≡ read_at b (slice_get ys b) = (h buffer).0 in
      let bytes : buffer_at buffer (slice_get xs b) ≡ buffer_at buffer (slice_get ys b) = (h buffer).1 in
      read_tells b buffer (contents_of (slice_get xs b)) (contents_of (slice_get ys b))
      (sym (answer_is b (slice_get xs b)) ∙ answer ∙ answer_is b (slice_get ys b))
      (sym (buffer_is b buffer (slice_get xs b)) ∙ bytes ∙ buffer_is b buffer (slice_get ys b))

  pub alike_from_fetched : fetched xs b ≡ fetched ys b → ReadsAlike xs ys b
  alike_from_fetched e =
      alike_from_same (told b (contents_of (slice_get xs b)) (contents_of (slice_get ys b)) (sym (fetched_is b (slice_get xs b)) ∙ e ∙ fetched_is b (slice_get ys b)))

  pub fetched_from_alike : ReadsAlike xs ys b → fetched xs b ≡ fetched ys b
  fetched_from_alike h = fetched_is b (slice_get xs b) ∙ ap (fetched_by b) (same_from_alike h) ∙ sym (fetched_is b (slice_get ys b))

  -- past the end of both there is nothing to tell
  pub alike_past : length xs ≤ b → length ys ≤ b → ReadsAlike xs ys b
  alike_past h k = alike_from_same (ap contents_of (slice_get_past xs b h ∙ sym (slice_get_past ys b k)))

pub alike_turned : (xs ys : List Block) (b : ℕ) → ReadsAlike xs ys b → ReadsAlike ys xs b
alike_turned xs ys b h buffer = (sym (h buffer).0, sym (h buffer).1)

-- the first number of which something is not so, or none if it is so of all
abbrev pub Finds : (ℕ → Type 0) → Option ℕ → Type 0
Finds P None = (i : ℕ) → P i
Finds P (Some b) = ((i : ℕ) → i < b → P i) × (¬ (P b))

-- there is one answer only
pub same_found : (P Q : ℕ → Type 0) → ((i : ℕ) → P i → Q i) → ((i : ℕ) → Q i → P i) → (o p : Option ℕ) → Finds P o → Finds Q p → o ≡ p
same_found P Q f g None None h k = refl
same_found P Q f g None (Some b) h k = absurd (k.1 (f b (h b)))
same_found P Q f g (Some a) None h k = absurd (h.1 (g a (k a)))
same_found P Q f g (Some a) (Some b) h k = elim (cases_order a b) [
  | inl e ↦ ap Some e
  | inr o ↦ elim o [ inl l ↦ absurd (h.1 (g a (k.0 a l))) | inr l ↦ absurd (k.1 (f b (h.0 b l))) ]
]

found_as : (P Q : ℕ → Type 0) → ((i : ℕ) → P i → Q i) → ((i : ℕ) → Q i → P i) → (o : Option ℕ) → Finds P o → Finds Q o
found_as P Q f g None h = λ i. f i (h i)
found_as P Q f g (Some b) h = (λ i l. f i (h.0 i l), λ q. h.1 (g b q))

-- the same one number further on
shift : (P : ℕ → Type 0) (o : Option ℕ) → Finds (λ i. P (suc i)) o → P 0 → Finds P (option_map (λ b. suc b) o)
shift P None h z = all
  where
    all : (i : ℕ) → P i
    all zero = z
    all (suc i) = h i
shift P (Some b) h z = (below, h.1)
  where
    below : (i : ℕ) → i < suc b → P i
    below zero l = z
    below (suc i) l = h.0 i (omega arith)

same_decides : (c d : Contents) → Decides (same_contents c d) (c ≡ d)
same_decides (sound x) (sound y) = let e = bytes_eq-Decides x y in (λ t. ap sound (e.0 t), λ f. let k : x ≡ y = cc in e.1 k)
same_decides (sound x) damaged = (λ t. cc, λ f. cc)
same_decides damaged (sound y) = (λ t. cc, λ f. cc)
same_decides damaged damaged = (λ t. refl, λ f. refl)

finds : (xs ys : List Block) → Finds (Same xs ys) (first_unlike xs ys)
finds [] [] = λ i. refl
finds [] (y ∷ ys) = (λ i l. absurd (omega arith), λ e. let f : None ≡ Some y.contents = e in cc)
finds (x ∷ xs) [] = (λ i l. absurd (omega arith), λ e. let f : Some x.contents ≡ None = e in cc)
finds (x ∷ xs) (y ∷ ys) = elim (cases_Bool (same_contents x.contents y.contents)) [
  | inl t ↦ rw t (shift (Same (x ∷ xs) (y ∷ ys)) (first_unlike xs ys) (finds xs ys) (ap Some ((same_decides x.contents y.contents).0 t)))
  | inr t ↦ rw t (λ i l. absurd (omega arith), λ e. let f : Some x.contents ≡ Some y.contents = e in let k : x.contents ≡ y.contents = cc in not_from_Decides (same_contents x.contents y.contents) (same_decides x.contents y.contents) t k)
]

module _ (xs ys : List Block) where
  pub alike_finds : Finds (ReadsAlike xs ys) (first_unlike xs ys)
  alike_finds = found_as (Same xs ys) (ReadsAlike xs ys) (alike_from_same xs ys) (same_from_alike xs ys) (first_unlike xs ys) (finds xs ys)

  -- whatever is found of what readers get is the answer
  pub is_first : (o : Option ℕ) → Finds (ReadsAlike xs ys) o → o ≡ first_unlike xs ys
  is_first o h = same_found (ReadsAlike xs ys) (ReadsAlike xs ys) (λ i r. r) (λ i r. r) o (first_unlike xs ys) h alike_finds

-- where none is found there are as many blocks in both
as_many : (xs ys : List Block) → first_unlike xs ys ≡ None → length xs ≡ length ys
as_many [] [] e = refl
as_many [] (y ∷ ys) e = cc
as_many (x ∷ xs) [] e = cc
as_many (x ∷ xs) (y ∷ ys) e = elim (cases_Bool (same_contents x.contents y.contents)) [
  | inl t ↦ ap suc (as_many xs ys (rest (first_unlike xs ys) (rw t at e)))
  | inr t ↦ absurd (let f : Some 0 ≡ None = rw t at e in cc)
]
  where
    rest : (o : Option ℕ) → option_map (λ b. suc b) o ≡ None → o ≡ None
    rest None f = refl
    rest (Some b) f = cc

pub compare_law : (xs ys : List Block) → CompareLaw xs ys (first_unlike xs ys)
compare_law xs ys = record {
  found = λ b. (at b, λ u. sym (is_first xs ys (Some b) (u.below, u.here)));
  none = (λ e. record { count = as_many xs ys e; blocks = subst (Finds (ReadsAlike xs ys)) e (alike_finds xs ys) }, λ h. sym (is_first xs ys None h.blocks));
  turned = same_found (ReadsAlike ys xs) (ReadsAlike xs ys) (alike_turned ys xs) (alike_turned xs ys) (first_unlike ys xs) (first_unlike xs ys) (alike_finds ys xs) (alike_finds xs ys);
}
  where
    at : (b : ℕ) → first_unlike xs ys ≡ Some b → FirstUnlike xs ys b
    at b e = let f = subst (Finds (ReadsAlike xs ys)) e (alike_finds xs ys) in record { below = f.0; here = f.1 }

-- and so of any answer that is found
pub law_of : (xs ys : List Block) (o : Option ℕ) → Finds (ReadsAlike xs ys) o → CompareLaw xs ys o
law_of xs ys o h = subst (CompareLaw xs ys) (sym (is_first xs ys o h)) (compare_law xs ys)
