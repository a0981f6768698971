use Rattle.std.proofs.Common.{◌≡◌, ◌≤◌, List, ℕ, length, drop, get_or, None, vec_items, sym, ap, ◌∙◌, arith}
use Rattle.std.proofs.lemmas.Result.{err_from_is_err_and}
use Rattle.cuwajimo.specs.Lines.{texts, line_words}
use Rattle.cuwajimo.specs.Words.{hex_bytes, all_bytes}
use Rattle.cuwajimo.proofs.Parts.{parts_on, parts_begin, no_word, refs_turn, refs_refused, refs_end, hex_added}
use Rattle.cuwajimo.proofs.Troubles.{if_line_weaker}
use Rattle.cuwajimo.proofs.line.Line.hex.Goals as goal

pub loop-word-init : goal.loop-word-init
loop-word-init c =
    let words = texts c.after-word-items.result.now in
    ap (λ (bytes : List ℕ). parts_on hex_bytes bytes words) c.new-bytes.ensures.items ∙ parts_begin hex_bytes words

pub loop-word-preserved : goal.loop-word-preserved
loop-word-preserved c =
    let refs = c.after-word-items.result.now in
    let i = c.loop-word.word-index in
    let before = vec_items c.loop-word.bytes in
    let after = vec_items c.add_hex.new.bytes in
    let added = hex_added before after (hex_bytes (get_or refs i no_word).now) c.in_ok-add_hex.ensures.value in
    refs_turn hex_bytes refs before i c.loop-word.invariant added.0 after c.loop-word-test.true added.1 added.2

pub returns-in_err-add_hex-clause-value : goal.returns-in_err-add_hex-clause-value
returns-in_err-add_hex-clause-value c =
    let refs = c.after-word-items.result.now in
    let i = c.loop-word.word-index in
    let p = err_from_is_err_and c.from_residual.result c.from_residual.ensures.1 in
    rw (p.1, p.2)
    (if_line_weaker c.in_err-add_hex.field-0.0 (hex_bytes (get_or refs i no_word).now ≡ None) (all_bytes (drop c.args.before (line_words c.args.self)) ≡ None)
    (λ none. ap all_bytes (sym c.after-word-items.ensures) ∙ refs_refused hex_bytes refs (vec_items c.loop-word.bytes) i c.loop-word.invariant c.loop-word-test.true none)
    c.in_err-add_hex.ensures.value)

pub returns-clause-value : goal.returns-clause-value
returns-clause-value c =
    let refs = c.after-word-items.result.now in
    let past : length refs ≤ c.loop-word.word-index = omega arith in
    ap all_bytes (sym c.after-word-items.ensures) ∙ refs_end hex_bytes refs (vec_items c.loop-word.bytes) c.loop-word.word-index c.loop-word.invariant past
