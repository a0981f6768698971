-- Two states in which a call comes to the same.
use Rattle.std.proofs.Common.{◌≡◌, ℕ, Bool, true, false, ltb, ◌⊎◌, List, [], Option, sym, refl, ap, ◌∙◌, ap₂, inl, inr}
use Rattle.std.proofs.lemmas.Bool.{cond_both, true≢false}
use Rattle.std.specs.List.{slice_get}
use Rattle.store.specs.Blocks.{Block}
use Rattle.message.specs.declared.message.Message.{Message}
use Rattle.flex.specs.declared.unit_map.UnitMap.{UnitMap}
use Rattle.host.specs.declared.mail.Mail.{Mail}
use Rattle.host.specs.declared.record.Host.{Host}
use Rattle.device.specs.Calls.{Call, command, segment, report, cancel, clear, notice, fault, by}
use Rattle.transfer.specs.Segments.{start_of, span, laid}
use Rattle.device.specs.Device.{State, host_of, mail_of, Fixed, fixed, asked, in_way, Served, notice_told, serve, start, reach, answer, next}
use Rattle.device.specs.Isolation.{is_notice}
use Rattle.transfer.proofs.Spans.{laid_alike}
use Rattle.device.proofs.Steps.{did, content}

pub same_map : (s t : State) → fixed s ≡ fixed t → s.map ≡ t.map
same_map s t e = ap (λ (f : Fixed). f.map) e

pub asked_alike : (s t : State) (c : Call) → fixed s ≡ fixed t → host_of s (by c) ≡ host_of t (by c) → asked s c ≡ asked t c
asked_alike s t c f h = cc

pub start_alike : (s t : State) (h : ℕ) → fixed s ≡ fixed t → host_of s h ≡ host_of t h → start s h ≡ start t h
start_alike s t h f e = ap₂ (λ (m : UnitMap) (y : Host). start_of m y.transaction) (same_map s t f) e

-- Only the answer of the notice call goes by the mail.
abbrev SameEffect : Served → Served → Type 0
SameEffect d e = (d.host ≡ e.host) × (d.put ≡ e.put)

notice_effect : (h : ℕ) (m : Mail) (x : Host) → ((notice_told h m x).host ≡ x) × ((notice_told h m x).put ≡ [])
notice_effect h m x = cond_both (ltb h 8) _ _ (λ (d : Served). (d.host ≡ x) × (d.put ≡ [])) (λ _. (refl, refl)) (λ _. (refl, refl))

module _ (f : Fixed) (o : Option Message) (x : Host) (m n : Mail) (os : List (Option Block)) where
  serve_effect : (b : Bool) (c : Call) → SameEffect (serve b f o x m os c) (serve b f o x n os c)
  serve_effect true c = (refl, refl)
  serve_effect false (command h bytes) = (refl, refl)
  serve_effect false (segment k buffer) = (refl, refl)
  serve_effect false (report k buffer) = (refl, refl)
  serve_effect false (cancel k) = (refl, refl)
  serve_effect false (clear h) = (refl, refl)
  serve_effect false (notice h) = let p = notice_effect h m x in let q = notice_effect h n x in (p.0 ∙ sym q.0, p.1 ∙ sym q.1)
  serve_effect false (fault h) = (refl, refl)

  serve_heard : (b : Bool) (c : Call) → is_notice c ≡ false → serve b f o x m os c ≡ serve b f o x n os c
  serve_heard true c e = refl
  serve_heard false (command h bytes) e = refl
  serve_heard false (segment k buffer) e = refl
  serve_heard false (report k buffer) e = refl
  serve_heard false (cancel k) e = refl
  serve_heard false (clear h) e = refl
  serve_heard false (notice h) e = absurd (true≢false e)
  serve_heard false (fault h) e = refl

-- The same fixed part, the same lock check, the same record of the caller, and the same blocks in its span.
module _ (s t : State) (c : Call) (f : fixed s ≡ fixed t) (w : in_way s c ≡ in_way t c) (h : host_of s (by c) ≡ host_of t (by c)) (r : span s.blocks (start s (by c)) (reach s (by c)) ≡ span t.blocks (start s (by c)) (reach s (by c))) where
  content_alike : content s c ≡ content t c
  content_alike = let p = start_alike s t (by c) f h in cc

  -- Then its host becomes the same, and the same is put.
  pub did_alike : SameEffect (did s c) (did t c)
  unfolding did
  did_alike =
      let e = serve_effect (fixed s) (asked s c) (host_of s (by c)) (mail_of s (by c)) (mail_of t (by c)) (content s c) (in_way s c) c in
      let i : serve (in_way s c) (fixed s) (asked s c) (host_of s (by c)) (mail_of t (by c)) (content s c) c ≡ serve (in_way t c) (fixed t) (asked t c) (host_of t (by c)) (mail_of t (by c)) (content t c) c =
      let a = asked_alike s t c f h in let k = content_alike in cc in
      (e.0 ∙ ap (λ (d : Served). d.host) i, e.1 ∙ ap (λ (d : Served). d.put) i)

  -- And so does the answer, of the notice call if the mail is the same.
  pub answer_alike : (is_notice c ≡ false) ⊎ (mail_of s (by c) ≡ mail_of t (by c)) → answer s c ≡ answer t c
  unfolding answer
  answer_alike (inl n) =
      let e = serve_heard (fixed s) (asked s c) (host_of s (by c)) (mail_of s (by c)) (mail_of t (by c)) (content s c) (in_way s c) c n in
      let i : serve (in_way s c) (fixed s) (asked s c) (host_of s (by c)) (mail_of t (by c)) (content s c) c ≡ serve (in_way t c) (fixed t) (asked t c) (host_of t (by c)) (mail_of t (by c)) (content t c) c =
      let a = asked_alike s t c f h in let k = content_alike in cc in
      ap (λ (d : Served). d.answer) (e ∙ i)
  answer_alike (inr m) =
      let a = asked_alike s t c f h in
      let k = content_alike in
      let i : serve (in_way s c) (fixed s) (asked s c) (host_of s (by c)) (mail_of s (by c)) (content s c) c ≡ serve (in_way t c) (fixed t) (asked t c) (host_of t (by c)) (mail_of t (by c)) (content t c) c = cc in
      ap (λ (d : Served). d.answer) i

  -- A block that was the same is the same after.
  pub block_alike : (b : ℕ) → slice_get s.blocks b ≡ slice_get t.blocks b → slice_get (next s c).blocks b ≡ slice_get (next t c).blocks b
  unfolding next did
  block_alike b e =
      laid_alike s.blocks t.blocks (start s (by c)) (did s c).put b e ∙ ap₂ (λ (k : ℕ) (ks : List Block). slice_get (laid t.blocks k ks) b) (start_alike s t (by c) f h) did_alike.1
