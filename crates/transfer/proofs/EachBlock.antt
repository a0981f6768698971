-- Spans of blocks, read and written block by block.
use Rattle.std.proofs.Common.{◌≡◌, ℕ, zero, suc, ◌+◌, ◌*◌, ◌<◌, ◌≤◌, Bool, true, false, List, [], ◌∷◌, ◌++◌, length, take, drop, set, Some, None, Ok, Err, Option, Result, sym, refl, ap, ◌∙◌, subst, inl, add-zero, arith}
use Rattle.std.specs.List.{slice_get}
use Rattle.std.specs.Option.{option_map}
use Rattle.std.proofs.lemmas.List.{append_assoc, take_at, drop_at, drop-drop, length-append}
use Rattle.store.specs.declared.fault.StoreFault.{StoreFault}
use Rattle.store.specs.declared.fault.FaultKind.TheVariants as kinds
use Rattle.store.specs.declared.fault.Protection.{Protection}
use Rattle.store.specs.declared.fault.Protection.TheVariants as protections
use Rattle.store.specs.Blocks.{Block, Contents, sound, damaged, Whole, WholeOf, fault, open_block, buffer_of, buffer_at, write_of, write_at, is_open, is_open_at}
use Rattle.store.proofs.Nth.{nth_set_same, nth_set_other}
use Rattle.message.specs.declared.command.Command.{Command}
use Rattle.host.specs.declared.fault.HostFault.{HostFault}
use Rattle.host.specs.declared.transaction.Failure.{Failure}
use Rattle.host.specs.declared.transaction.Transaction.{Transaction}
use Rattle.transfer.specs.Segments.{span, zeros, met, read_bytes, put_next, put, write_by, moved_by_command, laid}
use Rattle.transfer.specs.Transfers.{part}
use Rattle.transfer.proofs.Faults.{fault_by}
use Rattle.transfer.proofs.Spans.{laid_other}

-- ---- The first fault.

module _ (answer : ℕ → Option Block → Result (Unit {0}) StoreFault) (test : Option Block → Bool)
    (passes : (b : ℕ) (o : Option Block) → test o ≡ true → answer b o ≡ Ok tt)
    (fails : (b : ℕ) (o : Option Block) → test o ≡ false → (f : StoreFault) × (answer b o ≡ Err f)) (u : ℕ) (bs : List Block) where
  pub none_fails : (b a n : ℕ) → ((j : ℕ) → j < n → test (slice_get bs (b + j)) ≡ true) → fault_by answer u b a (span bs b n) ≡ None
  none_fails b a zero all = refl
  none_fails b a (suc n) all =
      let here : test (slice_get bs b) ≡ true = subst (λ (i : ℕ). test (slice_get bs i) ≡ true) (add-zero b) (all 0 (omega arith)) in
      ap (λ r. met r u a (fault_by answer u (suc b) (suc a) (span bs (suc b) n))) (passes b (slice_get bs b) here)
      ∙ none_fails (suc b) (suc a) n (λ j l. let i : b + suc j ≡ suc b + j = omega arith in subst (λ (k : ℕ). test (slice_get bs k) ≡ true) i (all (suc j) (omega arith)))

  pub first_fails : (b a n j : ℕ) → j < n → ((i : ℕ) → i < j → test (slice_get bs (b + i)) ≡ true) → test (slice_get bs (b + j)) ≡ false →
      (f : StoreFault) × (fault_by answer u b a (span bs b n) ≡ Some (record { fault = record { store = f }; unit = u; address = a + j }))
  first_fails b a zero j l before now = absurd (omega arith)
  first_fails b a (suc n) zero l before now =
      let here = fails b (slice_get bs b) (subst (λ (i : ℕ). test (slice_get bs i) ≡ false) (add-zero b) now) in
      (here.0, ap (λ r. met r u a (fault_by answer u (suc b) (suc a) (span bs (suc b) n))) here.1 ∙ ap (λ (i : ℕ). Some (record { fault = record { store = here.0 }; unit = u; address = i })) (sym (add-zero a)))
  first_fails b a (suc n) (suc j) l before now =
      let here : test (slice_get bs b) ≡ true = subst (λ (i : ℕ). test (slice_get bs i) ≡ true) (add-zero b) (before 0 (omega arith)) in
      let x : b + suc j ≡ suc b + j = omega arith in
      let y : suc a + j ≡ a + suc j = omega arith in
      let rest = first_fails (suc b) (suc a) n j (omega arith) (λ i k. let z : b + suc i ≡ suc b + i = omega arith in subst (λ (m : ℕ). test (slice_get bs m) ≡ true) z (before (suc i) (omega arith))) (subst (λ (m : ℕ). test (slice_get bs m) ≡ false) x now) in
      (rest.0, ap (λ r. met r u a (fault_by answer u (suc b) (suc a) (span bs (suc b) n))) (passes b (slice_get bs b) here) ∙ rest.1 ∙ ap (λ (i : ℕ). Some (record { fault = record { store = rest.0 }; unit = u; address = i })) y)

  pub some_fails : (b a n j : ℕ) → j < n → test (slice_get bs (b + j)) ≡ false → (f : HostFault) × (fault_by answer u b a (span bs b n) ≡ Some f)
  some_fails b a zero j l now = absurd (omega arith)
  some_fails b a (suc n) zero l now = let f = first_fails b a (suc n) 0 l (λ i k. absurd (omega arith)) now in (record { fault = record { store = f.0 }; unit = u; address = a + 0 }, f.1)
  some_fails b a (suc n) (suc j) l now = go (some_fails (suc b) (suc a) n j (omega arith) (let x : b + suc j ≡ suc b + j = omega arith in subst (λ (m : ℕ). test (slice_get bs m) ≡ false) x now)) (test (slice_get bs b)) refl
    where
      go : (f : HostFault) × (fault_by answer u (suc b) (suc a) (span bs (suc b) n) ≡ Some f) → (q : Bool) → test (slice_get bs b) ≡ q → (f : HostFault) × (fault_by answer u b a (span bs b (suc n)) ≡ Some f)
      go rest true q = (rest.0, ap (λ r. met r u a (fault_by answer u (suc b) (suc a) (span bs (suc b) n))) (passes b (slice_get bs b) q) ∙ rest.1)
      go rest false q = let f = fails b (slice_get bs b) q in (record { fault = record { store = f.0 }; unit = u; address = a }, ap (λ r. met r u a (fault_by answer u (suc b) (suc a) (span bs (suc b) n))) f.1)

-- ---- The bytes read.

abbrev pub Wholes : List Block → Type 0
Wholes bs = (i : ℕ) → Whole (slice_get bs i)

one_whole : (o : Option Block) → Whole o → length (buffer_at zeros o) ≡ 256
one_whole None w = refl
one_whole (Some k) w = of k.contents w
  where
    of : (c : Contents) → WholeOf c → length (buffer_of zeros c) ≡ 256
    of (sound bytes) w = w
    of damaged w = refl

pub bytes_long : (bs : List Block) → Wholes bs → (b n : ℕ) → length (read_bytes (span bs b n)) ≡ 256 * n
bytes_long bs w b zero = refl
bytes_long bs w b (suc n) =
    length-append (buffer_at zeros (slice_get bs b)) (read_bytes (span bs (suc b) n)) ∙ omega (arith, one_whole (slice_get bs b) (w b), bytes_long bs w (suc b) n)

part_more : (j : ℕ) (x rest : List ℕ) → length x ≡ 256 → part (suc j) (x ++ rest) ≡ part j rest
part_more j x rest l =
    let i : 256 * suc j ≡ 256 + 256 * j = omega arith in
    ap (take 256) (ap (λ (k : ℕ). drop k (x ++ rest)) i ∙ sym (drop-drop (256 * j) 256 (x ++ rest)) ∙ ap (drop (256 * j)) (drop_at x rest 256 l))

pub part_read : (bs : List Block) → Wholes bs → (b n j : ℕ) (rest : List ℕ) → j < n → part j (read_bytes (span bs b n) ++ rest) ≡ buffer_at zeros (slice_get bs (b + j))
part_read bs w b zero j rest l = absurd (omega arith)
part_read bs w b (suc n) zero rest l =
    let x = buffer_at zeros (slice_get bs b) in
    ap (take 256) (append_assoc x (read_bytes (span bs (suc b) n)) rest)
    ∙ take_at x (read_bytes (span bs (suc b) n) ++ rest) 256 (one_whole (slice_get bs b) (w b))
    ∙ ap (λ (i : ℕ). buffer_at zeros (slice_get bs i)) (sym (add-zero b))
part_read bs w b (suc n) (suc j) rest l =
    let x = buffer_at zeros (slice_get bs b) in
    let i : suc b + j ≡ b + suc j = omega arith in
    ap (part (suc j)) (append_assoc x (read_bytes (span bs (suc b) n)) rest)
    ∙ part_more j x (read_bytes (span bs (suc b) n) ++ rest) (one_whole (slice_get bs b) (w b))
    ∙ part_read bs w (suc b) n j rest (omega arith)
    ∙ ap (λ (k : ℕ). buffer_at zeros (slice_get bs k)) i

-- ---- The blocks written.

put_next_short : {T : Type 0} (r : Result T StoreFault) (k : Block) (ks : List Block) (n : ℕ) → length ks ≤ n → length (put_next r k ks) ≤ suc n
put_next_short (Ok x) k ks n l = omega arith
put_next_short (Err f) k ks n l = omega arith

-- No more is put than the span holds.
pub put_short : (b : ℕ) (os : List (Option Block)) (bytes : List ℕ) → length (put b os bytes) ≤ length os
put_short b [] bytes = omega arith
put_short b (o ∷ os) bytes = put_next_short (write_at b o) _ _ (length os) (put_short (suc b) os _)

write_short : (r : Option Failure) (t : Transaction) (b : ℕ) (os : List (Option Block)) (buffer : List ℕ) → length (write_by r t b os buffer).put ≤ length os
write_short None t b os buffer = put_short b os buffer
write_short (Some f) t b os buffer = omega arith

pub moved_short : (k : Option Command) (t : Transaction) (b : ℕ) (os : List (Option Block)) (buffer : List ℕ) → length (moved_by_command k t b os buffer).put ≤ length os
unfolding moved_by_command
moved_short k t b os buffer = grind (arith, write_short)

pub writes : (b : ℕ) (o : Option Block) → is_open_at o ≡ true → write_at b o ≡ Ok tt
writes b None e = cc
writes b (Some k) e = of k.protection e
  where
    of : (p : Protection) → is_open p ≡ true → write_of b p ≡ Ok tt
    of protections.Open e = refl
    of protections.Protected e = cc

pub refuses : (b : ℕ) (o : Option Block) → is_open_at o ≡ false → (f : StoreFault) × (write_at b o ≡ Err f)
refuses b None e = (fault kinds.Beyond b, refl)
refuses b (Some k) e = of k.protection e
  where
    of : (p : Protection) → is_open p ≡ false → (f : StoreFault) × (write_of b p ≡ Err f)
    of protections.Open e = cc
    of protections.Protected e = (fault kinds.Protected b, refl)

part_drop : (j : ℕ) (bytes : List ℕ) → part j (drop 256 bytes) ≡ part (suc j) bytes
part_drop j bytes = let i : 256 + 256 * j ≡ 256 * suc j = omega arith in ap (take 256) (drop-drop (256 * j) 256 bytes ∙ ap (λ (k : ℕ). drop k bytes) i)

module _ (bs : List Block) where
  at_first : {X : Type 0} (P : Option Block → X) (b : ℕ) → P (slice_get bs (b + 0)) ≡ P (slice_get bs b)
  at_first P b = ap (λ (i : ℕ). P (slice_get bs i)) (add-zero b)

  at_next : {X : Type 0} (P : Option Block → X) (b j : ℕ) → P (slice_get bs (b + suc j)) ≡ P (slice_get bs (suc b + j))
  at_next P b j = let i : b + suc j ≡ suc b + j = omega arith in ap (λ (k : ℕ). P (slice_get bs k)) i

  -- What is put for block j, if no block up to it refuses.
  pub put_at : (b n j : ℕ) (bytes : List ℕ) → j < n → ((i : ℕ) → i ≤ j → is_open_at (slice_get bs (b + i)) ≡ true) → slice_get (put b (span bs b n) bytes) j ≡ Some (open_block (part j bytes))
  put_at b zero j bytes l all = absurd (omega arith)
  put_at b (suc n) zero bytes l all =
      let here = writes b (slice_get bs b) (sym (at_first is_open_at b) ∙ all 0 (omega arith)) in
      ap (λ r. slice_get (put_next r (open_block (take 256 bytes)) (put (suc b) (span bs (suc b) n) (drop 256 bytes))) 0) here
  put_at b (suc n) (suc j) bytes l all =
      let here = writes b (slice_get bs b) (sym (at_first is_open_at b) ∙ all 0 (omega arith)) in
      ap (λ r. slice_get (put_next r (open_block (take 256 bytes)) (put (suc b) (span bs (suc b) n) (drop 256 bytes))) (suc j)) here
      ∙ put_at (suc b) n j (drop 256 bytes) (omega arith) (λ i k. sym (at_next is_open_at b i) ∙ all (suc i) (omega arith))
      ∙ ap (λ (p : List ℕ). Some (open_block p)) (part_drop j bytes)

  -- Nothing is put from a block that refuses on.
  pub put_ends : (b n i : ℕ) (bytes : List ℕ) → is_open_at (slice_get bs (b + i)) ≡ false → length (put b (span bs b n) bytes) ≤ i
  put_ends b zero i bytes e = omega arith
  put_ends b (suc n) zero bytes e =
      let here = refuses b (slice_get bs b) (sym (at_first is_open_at b) ∙ e) in
      let k : put b (span bs b (suc n)) bytes ≡ [] = ap (λ r. put_next r (open_block (take 256 bytes)) (put (suc b) (span bs (suc b) n) (drop 256 bytes))) here.1 in
      omega (arith, ap length k)
  put_ends b (suc n) (suc i) bytes e =
      put_next_short (write_at b (slice_get bs b)) (open_block (take 256 bytes)) (put (suc b) (span bs (suc b) n) (drop 256 bytes)) i (put_ends (suc b) n i (drop 256 bytes) (sym (at_next is_open_at b i) ∙ e))

-- What stands where something is laid.
module _ {X : Type 0} where
  pub laid_at : (xs : List X) (p : ℕ) (ks : List X) (j : ℕ) (k : X) → (y : X) → slice_get xs (p + j) ≡ Some y → slice_get ks j ≡ Some k → slice_get (laid xs p ks) (p + j) ≡ Some k
  laid_at xs p [] j k y there e = cc
  laid_at xs p (x ∷ ks) zero k y there e =
      let here : slice_get xs p ≡ Some y = ap (slice_get xs) (sym (add-zero p)) ∙ there in
      ap (slice_get (laid (set xs p x) (suc p) ks)) (add-zero p)
      ∙ laid_other (set xs p x) (suc p) ks p (inl (omega arith))
      ∙ nth_set_same xs p x
      ∙ ap (option_map (λ _. x)) here
      ∙ e
  laid_at xs p (x ∷ ks) (suc j) k y there e =
      let i : p + suc j ≡ suc p + j = omega arith in
      ap (slice_get (laid (set xs p x) (suc p) ks)) i
      ∙ laid_at (set xs p x) (suc p) ks j k y (nth_set_other xs p (suc p + j) x (omega arith) ∙ ap (slice_get xs) (sym i) ∙ there) e
