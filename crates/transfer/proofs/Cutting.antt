-- A span cut in two: what it comes to at once is what its parts come to, one after the other.
use Rattle.std.proofs.Common.{◌≡◌, ℕ, zero, suc, ◌+◌, ◌-◌, ◌*◌, List, [], ◌∷◌, ◌++◌, length, take, drop, Some, None, Ok, Err, Option, Result, sym, refl, ap, ◌∙◌, ap₂, add-zero, add-suc, suc-add, zero-add, arith}
use Rattle.std.specs.List.{slice_get}
use Rattle.std.proofs.lemmas.List.{append_assoc, take-append-le, drop-append-le, length-drop, nil_from_length}
use Rattle.store.specs.declared.fault.StoreFault.{StoreFault}
use Rattle.store.specs.Blocks.{Block, buffer_at, write_at, open_block}
use Rattle.host.specs.declared.fault.HostFault.{HostFault}
use Rattle.host.specs.Progress.{first_fault}
use Rattle.transfer.specs.Segments.{span, zeros, met_by, converted, met, read_bytes, write_fault, put, put_next, write_tried, tried_next}
use Rattle.transfer.proofs.Faults.{fault_by}

pub span_cut : (bs : List Block) (b n m : ℕ) → span bs b (n + m) ≡ span bs b n ++ span bs (b + n) m
span_cut bs b zero m = ap (span bs b) (zero-add m) ∙ ap (λ i. span bs i m) (sym (add-zero b))
span_cut bs b (suc n) m =
    ap (span bs b) (suc-add n m)
    ∙ ap (λ l. slice_get bs b ∷ l) (span_cut bs (suc b) n m)
    ∙ ap (λ i. slice_get bs b ∷ (span bs (suc b) n ++ span bs i m)) (suc-add b n ∙ sym (add-suc b n))

pub bytes_cut : (os ps : List (Option Block)) → read_bytes (os ++ ps) ≡ read_bytes os ++ read_bytes ps
bytes_cut [] ps = refl
bytes_cut (o ∷ os) ps = ap (λ l. buffer_at zeros o ++ l) (bytes_cut os ps) ∙ sym (append_assoc (buffer_at zeros o) (read_bytes os) (read_bytes ps))

pub first_none : (a : Option HostFault) → first_fault a None ≡ a
first_none None = refl
first_none (Some f) = refl

pub first_of_three : (a b c : Option HostFault) → first_fault a (first_fault b c) ≡ first_fault (first_fault a b) c
first_of_three None b c = refl
first_of_three (Some f) b c = refl

module _ (answer : ℕ → Option Block → Result (Unit {0}) StoreFault) where
  fault_cut : (u b a : ℕ) (os ps : List (Option Block)) (n : ℕ) → n ≡ length os → fault_by answer u b a (os ++ ps) ≡ first_fault (fault_by answer u b a os) (fault_by answer u (b + n) (a + n) ps)
  fault_cut u b a [] ps n e =
      let p : b ≡ b + n = omega arith in
      let q : a ≡ a + n = omega arith in
      ap (λ i. fault_by answer u i a ps) p ∙ ap (λ j. fault_by answer u (b + n) j ps) q
  fault_cut u b a (o ∷ os) ps n e =
      let x : suc b + (n - 1) ≡ b + n = omega arith in
      let y : suc a + (n - 1) ≡ a + n = omega arith in
      ap (first_fault (met_by (converted (answer b o)) u a)) (fault_cut u (suc b) (suc a) os ps (n - 1) (omega arith))
      ∙ first_of_three (met_by (converted (answer b o)) u a) (fault_by answer u (suc b) (suc a) os) (fault_by answer u (suc b + (n - 1)) (suc a + (n - 1)) ps)
      ∙ ap (λ i. first_fault (fault_by answer u b a (o ∷ os)) (fault_by answer u i (suc a + (n - 1)) ps)) x
      ∙ ap (λ j. first_fault (fault_by answer u b a (o ∷ os)) (fault_by answer u (b + n) j ps)) y

  -- So it is of what is the same.
  module _ (fault : ℕ → ℕ → ℕ → List (Option Block) → Option HostFault) (same : (u b a : ℕ) (os : List (Option Block)) → fault u b a os ≡ fault_by answer u b a os) where
    pub same_cut : (u b a : ℕ) (os ps : List (Option Block)) (n : ℕ) → n ≡ length os → fault u b a (os ++ ps) ≡ first_fault (fault u b a os) (fault u (b + n) (a + n) ps)
    same_cut u b a os ps n e =
        same u b a (os ++ ps) ∙ fault_cut u b a os ps n e ∙ sym (ap₂ first_fault (same u b a os) (same u (b + n) (a + n) ps))

-- ---- A Write.

-- The first part is written whole: the second goes on after it.
pub record GoesOn (b : ℕ) (os ps : List (Option Block)) (d e : List ℕ) (n : ℕ) : Type 0 where
  pub puts : put b (os ++ ps) (d ++ e) ≡ put b os d ++ put (b + n) ps e
  pub tries : write_tried b (os ++ ps) ≡ n + write_tried (b + n) ps
  pub all_put : length (put b os d) ≡ n
  pub all_tried : write_tried b os ≡ n

-- It is stopped: the second part is not come to.
pub record Stops (b : ℕ) (os ps : List (Option Block)) (d e : List ℕ) : Type 0 where
  pub puts : put b (os ++ ps) (d ++ e) ≡ put b os d
  pub tries : write_tried b (os ++ ps) ≡ write_tried b os

module _ (u : ℕ) where
  pub goes_on : (b a : ℕ) (os ps : List (Option Block)) (d e : List ℕ) (n : ℕ) → n ≡ length os → length d ≡ 256 * n → write_fault u b a os ≡ None → GoesOn b os ps d e n
  goes_on b a [] ps d e n i l w =
      let z : d ≡ [] = nil_from_length d (omega arith) in
      let p : b ≡ b + n = omega arith in
      let o : n ≡ 0 = omega arith in
      record {
        puts = ap (λ x. put b ps (x ++ e)) z ∙ ap (λ j. put j ps e) p;
        tries = ap (λ j. write_tried j ps) p ∙ omega arith;
        all_put = sym o;
        all_tried = sym o;
      }
  goes_on b a (o ∷ os) ps d e n i l w =
      let q = go (goes_on (suc b) (suc a) os ps (drop 256 d) e (n - 1) (omega arith) (simp length-drop (omega arith))) (write_at b o) w in
      record { puts = q.0; tries = q.1; all_put = q.2; all_tried = q.3 }
    where
      go : (write_fault u (suc b) (suc a) os ≡ None → GoesOn (suc b) os ps (drop 256 d) e (n - 1)) → (r : Result (Unit {0}) StoreFault) → met r u a (write_fault u (suc b) (suc a) os) ≡ None →
          (put_next r (open_block (take 256 (d ++ e))) (put (suc b) (os ++ ps) (drop 256 (d ++ e))) ≡ put_next r (open_block (take 256 d)) (put (suc b) os (drop 256 d)) ++ put (b + n) ps e)
          × (tried_next r (write_tried (suc b) (os ++ ps)) ≡ n + write_tried (b + n) ps)
          × (length (put_next r (open_block (take 256 d)) (put (suc b) os (drop 256 d))) ≡ n)
          × (tried_next r (write_tried (suc b) os) ≡ n)
      go ih (Err f) w = cc
      go ih (Ok x) w =
          let h = ih w in
          let front : take 256 (d ++ e) ≡ take 256 d = take-append-le 256 d e (omega arith) in
          let back : drop 256 (d ++ e) ≡ drop 256 d ++ e = drop-append-le 256 d e (omega arith) in
          let j : suc b + (n - 1) ≡ b + n = omega arith in
          let t = h.tries in
          let g : write_tried (suc b + (n - 1)) ps ≡ write_tried (b + n) ps = ap (λ i. write_tried i ps) j in (
            rw (front, back) (ap (λ l. open_block (take 256 d) ∷ l) h.puts ∙ ap (λ i. open_block (take 256 d) ∷ (put (suc b) os (drop 256 d) ++ put i ps e)) j),
            omega arith,
            omega (arith, h.all_put),
            omega (arith, h.all_tried),
          )

  pub stops : (b a : ℕ) (os ps : List (Option Block)) (d e : List ℕ) (n : ℕ) → n ≡ length os → length d ≡ 256 * n → (f : HostFault) → write_fault u b a os ≡ Some f → Stops b os ps d e
  stops b a [] ps d e n i l f w = cc
  stops b a (o ∷ os) ps d e n i l f w =
      let q = go (stops (suc b) (suc a) os ps (drop 256 d) e (n - 1) (omega arith) (simp length-drop (omega arith)) f) (write_at b o) w in
      record { puts = q.0; tries = q.1 }
    where
      go : (write_fault u (suc b) (suc a) os ≡ Some f → Stops (suc b) os ps (drop 256 d) e) → (r : Result (Unit {0}) StoreFault) → met r u a (write_fault u (suc b) (suc a) os) ≡ Some f →
          (put_next r (open_block (take 256 (d ++ e))) (put (suc b) (os ++ ps) (drop 256 (d ++ e))) ≡ put_next r (open_block (take 256 d)) (put (suc b) os (drop 256 d)))
          × (tried_next r (write_tried (suc b) (os ++ ps)) ≡ tried_next r (write_tried (suc b) os))
      go ih (Err g) w = (refl, refl)
      go ih (Ok x) w =
          let h = ih w in
          let front : take 256 (d ++ e) ≡ take 256 d = take-append-le 256 d e (omega arith) in
          let back : drop 256 (d ++ e) ≡ drop 256 d ++ e = drop-append-le 256 d e (omega arith) in
          (rw (front, back) (ap (λ l. open_block (take 256 d) ∷ l) h.puts), ap suc h.tries)
