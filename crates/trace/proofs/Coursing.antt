-- A run of entries: what the front of the output holds already, and the course of what is left.
use Rattle.std.proofs.Common.{◌≡◌, ℕ, ◌+◌, ◌-◌, ◌≤◌, Bool, true, false, cond, List, [], ◌∷◌, ◌++◌, ◌==◌, length, take, drop, Option, Some, None, refl, ap, sym, ◌∙◌, append_assoc, length-append, length-drop, arith}
use Rattle.std.proofs.Math.Seq.{drop-append_seam, take-append_seam}
use borrow.Rule.Slice.PartMut.{put_mid, mid_of}
use Rattle.std.proofs.lemmas.Bool.{eqb-true, leb-true}
use Rattle.std.proofs.lemmas.List.{append-nil, drop_all, length-take-le, take_all, take-append-drop}
use Rattle.desk.specs.declared.answer.Answer.{Answer}
use Rattle.desk.specs.declared.answer.Answer.TheVariants as answers
use Rattle.trace.specs.declared.ending.How.{How}
use Rattle.trace.specs.declared.ending.How.TheVariants as hows
use Rattle.trace.specs.Answers.{answer_bytes}
use Rattle.trace.specs.Entries.{Entry, entry_in}
use Rattle.desk.specs.Worlds.{World}
use Rattle.trace.specs.Courses.{Reading, reading, room_for, has_room, made_in, written_in, Course, ended_so, after_entry, played, course}
use Rattle.trace.proofs.Readings.{nothing_read, none_read, entry_read}

-- ---- The course of a trace, by its first entry.

by_reading : (w : World) (r s : Reading) (output : List ℕ) → r ≡ s → played w r.entries r.whole output ≡ played w s.entries s.whole output
by_reading w r s output e = ap (λ (x : Reading). played w x.entries x.whole output) e

none_left : (bytes : List ℕ) → true ≡ (length bytes == 0) → bytes ≡ []
none_left [] e = refl
none_left (byte ∷ bytes) e = absurd (omega (arith, eqb-true (length (byte ∷ bytes)) 0 (sym e)))

pub course_nothing : (w : World) (bytes output : List ℕ) → true ≡ (length bytes == 0) → course w bytes output ≡ ended_so hows.Whole w output
unfolding course
course_nothing w bytes output e = by_reading w (reading bytes) _ output (ap reading (none_left bytes e) ∙ nothing_read)

pub course_none :
    (w : World) (bytes output : List ℕ) → false ≡ (length bytes == 0) → entry_in bytes ≡ None → course w bytes output ≡ ended_so hows.NoCall w output
unfolding course
course_none w [] output some e = cc
course_none w (byte ∷ bytes) output some e = by_reading w (reading (byte ∷ bytes)) _ output (none_read byte bytes e)

pub course_entry :
    (w : World) (bytes rest output : List ℕ) (e : Entry) → entry_in bytes ≡ Some (e, rest)
    → course w bytes output
    ≡ cond (has_room e output)
    (after_entry (made_in w e output) (room_for e) (course (made_in w e output).world rest (drop (room_for e) output)))
    (ended_so hows.NoRoom w output)
unfolding course
course_entry w bytes rest output e is = by_reading w (reading bytes) _ output (entry_read bytes rest e is)

-- ---- With bytes written already.

abbrev pub led_by : List ℕ → Course → Course
led_by front c = record { world = c.world; output = front ++ c.output; written = length front + c.written; how = c.how }

answer_long : (a : Answer) → length (answer_bytes a) ≡ 16
unfolding answer_bytes
answer_long (answers.Refused s) = refl
answer_long answers.Done = refl
answer_long answers.Execution = refl
answer_long answers.Report = refl
answer_long answers.NoTicket = refl
answer_long (answers.Notice s) = refl
answer_long (answers.Fault f) = refl
answer_long (answers.Parameters p) = refl
answer_long (answers.Locks l) = refl
answer_long (answers.Activity n) = refl

-- ---- The ends of a run.

course_so :
    (w : World) (o p : List ℕ) (n m : ℕ) (how : How) → o ≡ p → n ≡ m
    → ◌≡◌ {A = Course} (record { world = w; output = o; written = n; how = how }) (record { world = w; output = p; written = m; how = how })
course_so w o p n m how e f =
    ap (λ (x : List ℕ). let c : Course = record { world = w; output = x; written = n; how = how } in c) e
    ∙ ap (λ (x : ℕ). let c : Course = record { world = w; output = p; written = x; how = how } in c) f

pub stopped :
    (w : World) (output : List ℕ) (n : ℕ) (how : How) (c whole : Course) → n ≤ length output → c ≡ ended_so how w (drop n output)
    → led_by (take n output) c ≡ whole → ◌≡◌ {A = Course} (record { world = w; output = output; written = n; how = how }) whole
stopped w output n how c whole inside is so_far =
    course_so w output (take n output ++ drop n output) n (length (take n output) + 0) how
    (sym (take-append-drop n output)) (let e = length-take-le n output inside in omega arith)
    ∙ sym (ap (led_by (take n output)) is)
    ∙ so_far

pub ended_as :
    (w : World) (output : List ℕ) (n m : ℕ) (how was : How) → how ≡ was → n ≡ m
    → ◌≡◌ {A = Course} (record { world = w; output = output; written = n; how = how }) (record { world = w; output = output; written = m; how = was })
ended_as w output n m how was e f =
    ap (λ (x : How). let c : Course = record { world = w; output = output; written = n; how = x } in c) e ∙ course_so w output output n m was refl f

-- ---- One more entry, in what is left of the output.

tail_is : (n : ℕ) (output : List ℕ) → mid_of n (length output - n) output ≡ drop n output
tail_is n output = take_all (length output - n) (drop n output) (let e = length-drop n output in omega arith)

tail_put : (n : ℕ) (output room : List ℕ) → put_mid n (length output - n) output room ≡ take n output ++ room
tail_put n output room =
    ap (λ rest. take n output ++ (room ++ rest)) (drop_all (length output - n) (drop n output) (let e = length-drop n output in omega arith))
    ∙ ap (λ rest. take n output ++ rest) (append-nil room)

no_room : (b : Bool) (x : ℕ) → None ≡ cond b (Some x) None → b ≡ false
no_room true x e = cc
no_room false x e = refl

some_room : (b : Bool) (k x : ℕ) → Some k ≡ cond b (Some x) None → (b ≡ true) × (k ≡ x)
some_room true k x e = (refl, cc)
some_room false k x e = cc

chosen : {X : Type 0} (b c : Bool) (x y z : X) → b ≡ c → z ≡ cond b x y → z ≡ cond c x y
chosen b c x y z e h = h ∙ ap (λ d. cond d x y) e

-- the answer and the buffer of one entry, and the course after them
led_again :
    (front answer buffer : List ℕ) (k : ℕ) (c : Course) → length answer + length buffer ≡ k
    → led_by (front ++ (answer ++ buffer)) c
    ≡ led_by front (record { world = c.world; output = answer ++ (buffer ++ c.output); written = k + c.written; how = c.how })
led_again front answer buffer k c long =
    let all = length-append front (answer ++ buffer) in
    let both = length-append answer buffer in
    course_so c.world ((front ++ (answer ++ buffer)) ++ c.output) (front ++ (answer ++ (buffer ++ c.output))) (length (front ++ (answer ++ buffer)) + c.written) (length front + (k + c.written)) c.how
    (simp append_assoc) (omega arith)

abbrev Size : Entry → List ℕ → Option ℕ
Size e tail = cond (has_room e tail) (Some (room_for e)) None

abbrev Left : World → Entry → List ℕ → List ℕ
Left w e tail = cond (has_room e tail) (written_in (made_in w e tail) (drop (room_for e) tail)) tail

abbrev After : World → Entry → List ℕ → World
After w e tail = cond (has_room e tail) (made_in w e tail).world w

led_so :
    (front f : List ℕ) (w v : World) (rest a b : List ℕ) → front ≡ f → w ≡ v → a ≡ b → led_by front (course w rest a) ≡ led_by f (course v rest b)
led_so front f w v rest a b d e g =
    ap (λ (x : List ℕ). led_by x (course w rest a)) d ∙ ap (λ (x : World). led_by f (course x rest a)) e ∙ ap (λ (x : List ℕ). led_by f (course v rest x)) g

-- the front of a list, and what is behind it
parted : (k : ℕ) (xs ys zs : List ℕ) → zs ≡ xs ++ ys → length xs ≡ k → (take k zs ≡ xs) × (drop k zs ≡ ys)
parted k xs ys zs is long =
    (ap (take k) is ∙ ap (λ j. take j (xs ++ ys)) (sym long) ∙ take-append_seam xs ys, ap (drop k) is ∙ ap (λ j. drop j (xs ++ ys)) (sym long) ∙ drop-append_seam xs ys)

-- Before it: the world w, what is left of the trace, the output, of which n bytes are written, and the entry; after it: the world v and the room.
module _ (w v : World) (left rest output room : List ℕ) (n : ℕ) (e : Entry) (whole : Course) where
  full_at :
      (tail : List ℕ) → tail ≡ drop n output → n ≤ length output → Some (e, rest) ≡ entry_in left → led_by (take n output) (course w left (drop n output)) ≡ whole
      → None ≡ Size e tail → room ≡ Left w e tail → v ≡ After w e tail
      → ◌≡◌ {A = Course} (record { world = v; output = put_mid n (length output - n) output room; written = n; how = hows.NoRoom }) whole
  full_at tail at inside is so_far none room_is world_is =
      let no : has_room e tail ≡ false = no_room (has_room e tail) (room_for e) none in
      let same : room ≡ drop n output = chosen (has_room e tail) false _ _ room no room_is ∙ at in
      let stays : v ≡ w = chosen (has_room e tail) false _ _ v no world_is in
      let none_here : has_room e (drop n output) ≡ false = sym (ap (has_room e) at) ∙ no in
      let stops : course w left (drop n output) ≡ ended_so hows.NoRoom w (drop n output) = chosen (has_room e (drop n output)) false _ _ (course w left (drop n output)) none_here (course_entry w left rest (drop n output) e (sym is)) in
      let kept : put_mid n (length output - n) output room ≡ output = tail_put n output room ∙ ap (λ r. take n output ++ r) same ∙ take-append-drop n output in
      ap (λ (x : World). let c : Course = record { world = x; output = put_mid n (length output - n) output room; written = n; how = hows.NoRoom } in c) stays
      ∙ course_so w _ _ n n hows.NoRoom kept refl
      ∙ stopped w output n hows.NoRoom _ whole inside stops so_far

  one_on_at :
      (tail : List ℕ) (k : ℕ) → tail ≡ drop n output → n ≤ length output → Some (e, rest) ≡ entry_in left → led_by (take n output) (course w left (drop n output)) ≡ whole
      → length room ≡ length tail → Some k ≡ Size e tail → room ≡ Left w e tail → v ≡ After w e tail
      → (n + k ≤ length (put_mid n (length output - n) output room))
      × (led_by (take (n + k) (put_mid n (length output - n) output room)) (course v rest (drop (n + k) (put_mid n (length output - n) output room))) ≡ whole)
  one_on_at tail k at inside is so_far long some room_is world_is =
      let there = some_room (has_room e tail) k (room_for e) some in
      let here : has_room e (drop n output) ≡ true = sym (ap (has_room e) at) ∙ there.0 in
      let m = made_in w e (drop n output) in
      let answer = answer_bytes m.answer in
      let others = drop (room_for e) (drop n output) in
      let holds : room ≡ answer ++ (m.buffer ++ others) =
      chosen (has_room e tail) true _ _ room there.0 room_is ∙ ap (λ t. written_in (made_in w e t) (drop (room_for e) t)) at in
      let goes : v ≡ m.world = chosen (has_room e tail) true _ _ v there.0 world_is ∙ ap (λ t. (made_in w e t).world) at in
      let goes_on : course w left (drop n output) ≡ after_entry m (room_for e) (course m.world rest others) =
      chosen (has_room e (drop n output)) true _ _ (course w left (drop n output)) here (course_entry w left rest (drop n output) e (sym is)) in
      let front = take n output ++ (answer ++ m.buffer) in
      let is_put : put_mid n (length output - n) output room ≡ front ++ others = tail_put n output room ∙ ap (λ r. take n output ++ r) holds ∙ simp append_assoc in
      let answer_has : length answer ≡ 16 = answer_long m.answer in
      let enough : room_for e ≤ length (drop n output) = leb-true _ _ here in
      let both : length answer + length m.buffer ≡ room_for e =
      omega (arith, ap length holds, ap length at, long, length-append answer (m.buffer ++ others), length-append m.buffer others, length-drop (room_for e) (drop n output)) in
      let front_has : length front ≡ n + k =
      omega (arith, there.1, both, length-append (take n output) (answer ++ m.buffer), length-append answer m.buffer, length-take-le n output inside) in
      let parts = parted (n + k) front others _ is_put front_has in
      let here_on = led_so _ front v m.world rest _ others parts.0 goes parts.1 in (
        omega (arith, ap length is_put, length-append front others, front_has),
        here_on ∙ led_again (take n output) answer m.buffer (room_for e) (course m.world rest others) both ∙ sym (ap (led_by (take n output)) goes_on) ∙ so_far,
      )

  pub full :
      n ≤ length output → Some (e, rest) ≡ entry_in left → led_by (take n output) (course w left (drop n output)) ≡ whole
      → None ≡ Size e (mid_of n (length output - n) output) → room ≡ Left w e (mid_of n (length output - n) output) → v ≡ After w e (mid_of n (length output - n) output)
      → ◌≡◌ {A = Course} (record { world = v; output = put_mid n (length output - n) output room; written = n; how = hows.NoRoom }) whole
  full = full_at (mid_of n (length output - n) output) (tail_is n output)

  pub one_on :
      (k : ℕ) → n ≤ length output → Some (e, rest) ≡ entry_in left → led_by (take n output) (course w left (drop n output)) ≡ whole
      → length room ≡ length (mid_of n (length output - n) output) → Some k ≡ Size e (mid_of n (length output - n) output)
      → room ≡ Left w e (mid_of n (length output - n) output) → v ≡ After w e (mid_of n (length output - n) output)
      → (n + k ≤ length (put_mid n (length output - n) output room))
      × (led_by (take (n + k) (put_mid n (length output - n) output room)) (course v rest (drop (n + k) (put_mid n (length output - n) output room))) ≡ whole)
  one_on k = one_on_at (mid_of n (length output - n) output) k (tail_is n output)
