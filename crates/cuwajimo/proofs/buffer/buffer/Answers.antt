use Rattle.std.proofs.Common.{◌≡◌, ℕ, List, length, vec_items, sym, ap, ◌∙◌}
use Rattle.std.proofs.lemmas.List.FromFn.{length-map-range_with_len}
use Rattle.cuwajimo.specs.Bytes.{repeated_at, repeating}
use Rattle.cuwajimo.proofs.Refilled.{refilled}
use Rattle.cuwajimo.proofs.buffer.buffer.Goals as goal

pub returns-clause-bytes : goal.returns-clause-bytes
returns-clause-bytes c =
    let bytes = vec_items c.args.filling.now.bytes in
    let size = c.args.filling.now.size in
    let whole : length c.as_mut_slice.result.now ≡ c.in_ok-buffer.buffer.len = c.as_mut_slice.ensures.len in
    let made : c.in_ok-buffer.buffer.len ≡ size = c.in_ok-buffer.ensures.len in
    let e : c.fill.new.buffer ≡ repeating bytes size =
    c.fill.ensures ∙ ap (λ (l : List ℕ). repeating l (length c.as_mut_slice.result.now)) c.as_slice.ensures.value ∙ ap (repeating bytes) (whole ∙ made) in
    refilled c.fill.new.buffer c.in_ok-buffer.buffer.items (repeating bytes size) c.in_ok-buffer.buffer.len e (made ∙ sym (length-map-range_with_len (repeated_at bytes) 0 size))
