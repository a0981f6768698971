-- One entry's answer and buffer, in the front of the room for them.
use Rattle.std.proofs.Common.{◌≡◌, ℕ, ◌+◌, ◌-◌, ◌≤◌, true, List, ◌++◌, length, take, drop, cond, sym, ap, ◌∙◌, arith}
use Rattle.std.proofs.Math.Seq.{drop-append_seam}
use Rattle.std.proofs.lemmas.Bool.{le-leb}
use Rattle.std.proofs.lemmas.List.{drop-drop, length-take-le}
use borrow.Rule.Slice.PartMut.{put_mid, mid_of}
use Rattle.desk.specs.declared.answer.Answer.{Answer}
use Rattle.trace.specs.Answers.{answer_bytes}
use Rattle.trace.specs.Entries.{Entry, buffer_size}
use Rattle.desk.specs.Worlds.{World, Made, comes_to}
use Rattle.trace.specs.Makings.{made}
use Rattle.trace.specs.Courses.{room_for, has_room, made_in, written_in}

seam : (n : ℕ) (xs ys : List ℕ) → length xs ≡ n → drop n (xs ++ ys) ≡ ys
seam n xs ys e = ap (λ k. drop k (xs ++ ys)) (sym e) ∙ drop-append_seam xs ys

behind_answer : (room ys : List ℕ) (n : ℕ) → 16 ≤ length room → drop 16 (put_mid 16 n room ys) ≡ ys ++ drop (16 + n) room
behind_answer room ys n h =
    seam 16 (take 16 room) (ys ++ drop n (drop 16 room)) (length-take-le 16 room h) ∙ ap (λ rest. ys ++ rest) (drop-drop n 16 room)

-- what is left in the room, where there is enough of it
pub stepped :
    (w v : World) (e : Entry) (room front ys : List ℕ) (n : ℕ) (a : Answer) → n ≡ buffer_size e → 16 + n ≤ length room
    → comes_to a ys v ≡ made w e (mid_of 16 (16 + n - 16) room) → front ≡ answer_bytes a
    → front ++ drop 16 (put_mid 16 (16 + n - 16) room ys) ≡ cond (has_room e room) (written_in (made_in w e room) (drop (room_for e) room)) room
stepped w v e room front ys n a size enough is says =
    let k : 16 + n - 16 ≡ n = omega arith in
    let room_is : has_room e room ≡ true = le-leb _ _ (omega (arith, size)) in
    let m : comes_to a ys v ≡ made_in w e room = is ∙ ap (λ j. made w e (take j (drop 16 room))) (k ∙ size) in
    let behind : drop 16 (put_mid 16 (16 + n - 16) room ys) ≡ ys ++ drop (16 + n) room =
    ap (λ j. drop 16 (put_mid 16 j room ys)) k ∙ behind_answer room ys n (omega arith) in
    ap (λ bs. bs ++ drop 16 (put_mid 16 (16 + n - 16) room ys)) says
    ∙ ap (λ bs. answer_bytes a ++ bs) behind
    ∙ ap (λ (x : Made). written_in x (drop (16 + n) room)) m
    ∙ ap (λ j. written_in (made_in w e room) (drop (16 + j) room)) size
    ∙ sym (ap (λ b. cond b (written_in (made_in w e room) (drop (room_for e) room)) room) room_is)
