-- One turn of the loop that writes blocks, over plain lists.
use Rattle.std.proofs.Common.{◌≡◌, ℕ, zero, suc, ◌+◌, ◌-◌, ◌*◌, ◌<◌, ◌≤◌, true, false, List, ◌∷◌, length, take, drop, set, is_some, Some, None, Ok, Err, Option, Result, sym, refl, ap, ◌∙◌, ap₂, arith}
use Rattle.std.specs.List.{slice_get}
use Rattle.std.proofs.lemmas.List.{drop-drop, length-take, length-drop}
use Rattle.store.specs.declared.fault.StoreFault.{StoreFault}
use Rattle.store.specs.declared.fault.Protection.{Protection}
use Rattle.store.specs.declared.fault.Protection.TheVariants as protections
use Rattle.store.specs.Blocks.{Block, open_block, write_of, write_at, written, written_of}
use Rattle.store.proofs.Nth.{nth_set_other}
use Rattle.host.specs.declared.fault.HostFault.{HostFault}
use Rattle.transfer.specs.Segments.{span, met_by, converted, met, write_fault, put, put_next, write_tried, tried_next, laid}

span_after : (bs : List Block) (b : ℕ) (x : Block) (c n : ℕ) → b < c → span (set bs b x) c n ≡ span bs c n
span_after bs b x c zero h = refl
span_after bs b x c (suc n) h =
    ap (λ o. o ∷ span (set bs b x) (suc c) n) (nth_set_other bs b c x (omega arith))
    ∙ ap (λ l. slice_get bs c ∷ l) (span_after bs b x (suc c) n (omega arith))

-- What is known of a run of blocks, once it is written: how many are tried, the fault, and what the store then is.
abbrev pub tried_of : List Block → ℕ → ℕ → ℕ
tried_of bs b n = write_tried b (span bs b n)

abbrev pub fault_of : ℕ → List Block → ℕ → ℕ → ℕ → Option HostFault
fault_of u bs b a n = write_fault u b a (span bs b n)

abbrev pub after_of : List Block → ℕ → ℕ → List ℕ → List Block
after_of bs b n buffer = laid bs b (put b (span bs b n) buffer)

-- the first block answers: accepted, the rest goes on from the store so changed; refused, nothing is changed
module _ (bs : List Block) (b a u n : ℕ) (buffer part : List ℕ) (is : part ≡ take 256 buffer) (whole : length part ≡ 256) where
  set_of : (o : Option Block) → slice_get bs b ≡ o → write_at b o ≡ Ok tt → written bs b part ≡ set bs b (open_block part)
  set_of None e r = cc
  set_of (Some k) e r = rw (whole, e) (of k.protection r)
    where
      of : (p : Protection) → write_of b p ≡ Ok tt → written_of bs b part p ≡ set bs b (open_block part)
      of protections.Open f = refl
      of protections.Protected f = cc

  module _ (fine : write_at b (slice_get bs b) ≡ Ok tt) where
    changed : written bs b part ≡ set bs b (open_block part)
    changed = set_of (slice_get bs b) refl fine

    rest : span (written bs b part) (suc b) n ≡ span bs (suc b) n
    rest = ap (λ l. span l (suc b) n) changed ∙ span_after bs b (open_block part) (suc b) n (omega arith)

    tried_on : tried_of bs b (suc n) ≡ suc (tried_of (written bs b part) (suc b) n)
    tried_on = ap (λ r. tried_next r (write_tried (suc b) (span bs (suc b) n))) fine ∙ ap (λ l. suc (write_tried (suc b) l)) (sym rest)

    fault_on : fault_of u bs b a (suc n) ≡ fault_of u (written bs b part) (suc b) (suc a) n
    fault_on = ap (λ r. met r u a (write_fault u (suc b) (suc a) (span bs (suc b) n))) fine ∙ ap (write_fault u (suc b) (suc a)) (sym rest)

    after_on : after_of bs b (suc n) buffer ≡ after_of (written bs b part) (suc b) n (drop 256 buffer)
    after_on =
        ap (λ r. laid bs b (put_next r (open_block (take 256 buffer)) (put (suc b) (span bs (suc b) n) (drop 256 buffer)))) fine
        ∙ ap (λ p. laid (set bs b (open_block p)) (suc b) (put (suc b) (span bs (suc b) n) (drop 256 buffer))) (sym is)
        ∙ ap (λ l. laid l (suc b) (put (suc b) (span bs (suc b) n) (drop 256 buffer))) (sym changed)
        ∙ ap (λ l. laid (written bs b part) (suc b) (put (suc b) l (drop 256 buffer))) (sym rest)

  module _ (f : StoreFault) (bad : write_at b (slice_get bs b) ≡ Err f) where
    same_of : (o : Option Block) → slice_get bs b ≡ o → write_at b o ≡ Err f → written bs b part ≡ bs
    same_of None e r = rw (whole, e) refl
    same_of (Some k) e r = rw (whole, e) (of k.protection r)
      where
        of : (p : Protection) → write_of b p ≡ Err f → written_of bs b part p ≡ bs
        of protections.Open g = cc
        of protections.Protected g = refl

    tried_stops : tried_of bs b (suc n) ≡ 1
    tried_stops = ap (λ r. tried_next r (write_tried (suc b) (span bs (suc b) n))) bad

    fault_stops : fault_of u bs b a (suc n) ≡ Some (record { fault = record { store = f }; unit = u; address = a })
    fault_stops = ap (λ r. met r u a (write_fault u (suc b) (suc a) (span bs (suc b) n))) bad

    after_stops : after_of bs b (suc n) buffer ≡ written bs b part
    after_stops =
        ap (λ r. laid bs b (put_next r (open_block (take 256 buffer)) (put (suc b) (span bs (suc b) n) (drop 256 buffer)))) bad
        ∙ sym (same_of (slice_get bs b) refl bad)

-- whether there is a fault tells the store's answer
fine_of : (r : Result (Unit {0}) StoreFault) (u a : ℕ) → is_some (met_by (converted r) u a) ≡ false → r ≡ Ok tt
fine_of (Ok tt) u a e = refl
fine_of (Err f) u a e = cc

bad_of : (r : Result (Unit {0}) StoreFault) (u a : ℕ) → is_some (met_by (converted r) u a) ≡ true → (f : StoreFault) × (r ≡ Err f)
bad_of (Ok t) u a e = cc
bad_of (Err f) u a e = (f, refl)

-- What turn k of the loop has: block k's part of the buffer.
abbrev pub part_at : ℕ → List ℕ → List ℕ
part_at k buffer = take (256 * k + 256 - 256 * k) (drop (256 * k) buffer)

-- After k of n blocks: what is left to write gives what the whole gives.
pub record WrittenSoFar (bs now : List Block) (b a u k n : ℕ) (buffer : List ℕ) : Type 0 where
  pub tried : k + tried_of now (b + k) (n - k) ≡ tried_of bs b n
  pub fault : fault_of u now (b + k) (a + k) (n - k) ≡ fault_of u bs b a n
  pub after : after_of now (b + k) (n - k) (drop (256 * k) buffer) ≡ after_of bs b n buffer

-- The fault and the store that one more block leaves.
module _ (bs now now' : List Block) (b a u k n : ℕ) (buffer : List ℕ) (met : Option HostFault) (before : WrittenSoFar bs now b a u k n buffer) (within : k < n) (room : 256 * n ≤ length buffer)
    (answers : met ≡ met_by (converted (write_at (b + k) (slice_get now (b + k)))) u (a + k)) (writes : now' ≡ written now (b + k) (part_at k buffer)) where
  left : n - k ≡ suc (n - (k + 1))
  left = omega arith

  abbrev ahead : List ℕ
  ahead = drop (256 * k) buffer

  abbrev part : List ℕ
  part = part_at k buffer

  bytes : part ≡ take 256 ahead
  bytes = let all : 256 * k + 256 - 256 * k ≡ 256 = omega arith in ap (λ j. take j ahead) all

  whole : length part ≡ 256
  whole = simp (length-take, length-drop) (omega arith)

  pub one_more : is_some met ≡ false → WrittenSoFar bs now' b a u (k + 1) n buffer
  one_more none =
      let fine = fine_of (write_at (b + k) (slice_get now (b + k))) u (a + k) (ap is_some (sym answers) ∙ none) in
      let on : suc (b + k) ≡ b + (k + 1) = omega arith in
      let up : suc (a + k) ≡ a + (k + 1) = omega arith in
      let m = n - (k + 1) in
      record {
        tried =
            ap (λ l. k + 1 + tried_of l (b + (k + 1)) m) writes
            ∙ ap (λ j. k + 1 + tried_of (written now (b + k) part) j m) (sym on)
            ∙ omega (arith, tried_on now (b + k) (a + k) u m ahead part bytes whole fine, ap (tried_of now (b + k)) left, before.tried);
        fault =
            ap (λ l. fault_of u l (b + (k + 1)) (a + (k + 1)) m) writes
            ∙ ap₂ (λ i j. fault_of u (written now (b + k) part) i j m) (sym on) (sym up)
            ∙ sym (fault_on now (b + k) (a + k) u m ahead part bytes whole fine)
            ∙ ap (fault_of u now (b + k) (a + k)) (sym left)
            ∙ before.fault;
        after =
            ap (λ l. after_of l (b + (k + 1)) m (drop (256 * (k + 1)) buffer)) writes
            ∙ ap₂ (λ j l. after_of (written now (b + k) part) j m l) (sym on) (sym (drop-drop 256 (256 * k) buffer ∙ ap (λ i. drop i buffer) (omega arith)))
            ∙ sym (after_on now (b + k) (a + k) u m ahead part bytes whole fine)
            ∙ ap (λ i. after_of now (b + k) i ahead) (sym left)
            ∙ before.after;
      }

  pub stopped_there : is_some met ≡ true → (k + 1 ≡ tried_of bs b n) × (met ≡ fault_of u bs b a n) × (now' ≡ after_of bs b n buffer)
  stopped_there some =
      let bad = bad_of (write_at (b + k) (slice_get now (b + k))) u (a + k) (ap is_some (sym answers) ∙ some) in
      let m = n - (k + 1) in (
        omega (arith, tried_stops now (b + k) (a + k) u m ahead part bytes whole bad.0 bad.1, ap (tried_of now (b + k)) left, before.tried),
        answers
            ∙ ap (λ r. met_by (converted r) u (a + k)) bad.1
            ∙ sym (fault_stops now (b + k) (a + k) u m ahead part bytes whole bad.0 bad.1)
            ∙ ap (fault_of u now (b + k) (a + k)) (sym left)
            ∙ before.fault,
        writes
            ∙ sym (after_stops now (b + k) (a + k) u m ahead part bytes whole bad.0 bad.1)
            ∙ ap (λ i. after_of now (b + k) i ahead) (sym left)
            ∙ before.after,
      )
