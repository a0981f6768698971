-- A trace is read entry by entry. Each takes at least a byte, so any number of turns that is enough reads the same.
use Rattle.std.proofs.Common.{◌≡◌, ℕ, zero, suc, ◌<◌, ◌≤◌, Bool, true, false, cond, List, [], ◌∷◌, length, Some, None, Option, ◌==◌, nat_le, refl, ap, sym, subst, ◌∙◌, arith}
use Rattle.std.specs.Option.{option_map}
use Rattle.std.specs.Int.{w16, w32, from_be_bytes}
use Rattle.std.proofs.lemmas.List.{length-drop}
use Rattle.trace.specs.Reading.{◌>>=◌, split, u16_in, u32_in}
use Rattle.trace.specs.Entries.{Entry, message_in, lent_in, entry_by, entry_in}
use Rattle.trace.specs.Courses.{Reading, read_next, read, reading}

-- What is left is no longer than what there was.
abbrev Within : {X : Type 0} → Option (X × List ℕ) → List ℕ → Type 0
Within None bytes = Unit {0}
Within (Some p) bytes = length p.1 ≤ length bytes

within_cond : {X : Type 0} (b : Bool) (o p : Option (X × List ℕ)) (bytes : List ℕ) → Within o bytes → Within p bytes → Within (cond b o p) bytes
within_cond true o p bytes h k = h
within_cond false o p bytes h k = k

within_map :
    {X Y : Type 0} (o : Option (X × List ℕ)) (f : X × List ℕ → Y × List ℕ) (bytes : List ℕ) → ((p : X × List ℕ) → (f p).1 ≡ p.1) → Within o bytes
    → Within (option_map f o) bytes
within_map None f bytes same h = tt
within_map (Some p) f bytes same h = let e = same p in subst (λ r. length r ≤ length bytes) (sym e) h

within_more : {X : Type 0} (o : Option (X × List ℕ)) (left bytes : List ℕ) → Within o left → length left ≤ length bytes → Within o bytes
within_more None left bytes h k = tt
within_more (Some p) left bytes h k = omega arith

within_then :
    {X Y : Type 0} (o : Option (X × List ℕ)) (f : X × List ℕ → Option (Y × List ℕ)) (bytes : List ℕ) → Within o bytes → ((p : X × List ℕ) → Within (f p) p.1)
    → Within (o >>= f) bytes
within_then None f bytes h k = tt
within_then (Some p) f bytes h k = within_more (f p) p.1 bytes (k p) h

within_split : (n : ℕ) (bytes : List ℕ) → Within (split n bytes) bytes
within_split n bytes = within_cond (nat_le n (length bytes)) _ None bytes (let e = length-drop n bytes in omega arith) tt

within_u16 : (bytes : List ℕ) → Within (u16_in bytes) bytes
within_u16 bytes = within_map (split 2 bytes) (λ p. (from_be_bytes w16 p.0, p.1)) bytes (λ p. refl) (within_split 2 bytes)

within_u32 : (bytes : List ℕ) → Within (u32_in bytes) bytes
within_u32 bytes = within_map (split 4 bytes) (λ p. (from_be_bytes w32 p.0, p.1)) bytes (λ p. refl) (within_split 4 bytes)

within_message : (bytes : List ℕ) → Within (message_in bytes) bytes
within_message bytes = within_then (u16_in bytes) (λ n. split n.0 n.1) bytes (within_u16 bytes) (λ n. within_split n.0 n.1)

within_lent : (bytes : List ℕ) → Within (lent_in bytes) bytes
within_lent bytes =
    within_then (u32_in bytes) _ bytes (within_u32 bytes)
    (λ size. within_then (u32_in size.1) _ size.1 (within_u32 size.1)
    (λ count. within_then (cond (nat_le count.0 size.0) (split count.0 count.1) None) _ count.1 (within_cond (nat_le count.0 size.0) _ None count.1 (within_split count.0 count.1) tt)
    (λ given. omega arith)))

within_entry : (kind host : ℕ) (rest : List ℕ) → Within (entry_by kind host rest) rest
within_entry kind host rest =
    let same : length rest ≤ length rest = omega arith in
    let lent = within_lent rest in
    within_cond (kind == 0) _ _ rest (within_map (message_in rest) _ rest (λ p. refl) (within_message rest))
    (within_cond (kind == 1) _ _ rest (within_map (lent_in rest) _ rest (λ p. refl) lent)
    (within_cond (kind == 2) _ _ rest (within_map (lent_in rest) _ rest (λ p. refl) lent)
    (within_cond (kind == 3) _ _ rest same
    (within_cond (kind == 4) _ _ rest same
    (within_cond (kind == 5) _ _ rest same
    (within_cond (kind == 6) _ _ rest same
    (within_cond (kind == 7) _ _ rest same (within_cond (kind == 8) _ _ rest same (within_cond (kind == 9) _ _ rest same tt)))))))))

pub shorter : (bytes rest : List ℕ) (e : Entry) → entry_in bytes ≡ Some (e, rest) → length rest < length bytes
shorter [] rest e is = cc
shorter (kind ∷ []) rest e is = cc
shorter (kind ∷ host ∷ bytes) rest e is =
    let h : Within (Some (e, rest)) bytes = subst (λ o. Within o bytes) is (within_entry kind host bytes) in
    omega arith

-- so many turns, or so many others, where both are enough
read_enough : (n m : ℕ) (bytes : List ℕ) → length bytes ≤ n → length bytes ≤ m → read n bytes ≡ read m bytes
read_enough n m [] h k = refl
read_enough zero m (byte ∷ bytes) h k = absurd (omega arith)
read_enough (suc n) zero (byte ∷ bytes) h k = absurd (omega arith)
read_enough (suc n) (suc m) (byte ∷ bytes) h k =
    elim (entry_in (byte ∷ bytes))
    as (λ o. entry_in (byte ∷ bytes) ≡ o → read_next (λ others. read n others) o ≡ read_next (λ others. read m others) o) [
      | None ↦ λ e. refl
      | Some p ↦ λ e.
          let less = shorter (byte ∷ bytes) p.1 p.0 e in
          ap (λ (r : Reading). let s : Reading = record { entries = p.0 ∷ r.entries; whole = r.whole } in s) (read_enough n m p.1 (omega arith) (omega arith))
    ] refl

-- ---- The reading of a trace, by its first entry.

pub nothing_read : reading [] ≡ record { entries = []; whole = true }
unfolding reading
nothing_read = refl

pub none_read : (byte : ℕ) (bytes : List ℕ) → entry_in (byte ∷ bytes) ≡ None → reading (byte ∷ bytes) ≡ record { entries = []; whole = false }
unfolding reading
none_read byte bytes e = ap (read_next (λ others. read (length bytes) others)) e

pub entry_read :
    (bytes rest : List ℕ) (e : Entry) → entry_in bytes ≡ Some (e, rest)
    → reading bytes ≡ record { entries = e ∷ (reading rest).entries; whole = (reading rest).whole }
unfolding reading
entry_read [] rest e is = cc
entry_read (byte ∷ bytes) rest e is =
    let less = shorter (byte ∷ bytes) rest e is in
    ap (read_next (λ others. read (length bytes) others)) is
    ∙ ap (λ (r : Reading). let s : Reading = record { entries = e ∷ r.entries; whole = r.whole } in s)
    (read_enough (length bytes) (length rest) rest (omega arith) (omega arith))
