use Rattle.std.proofs.Common.{subst, sym}
use Rattle.std.proofs.lemmas.Result.{IfOk-weaker}
use Rattle.cuwajimo.specs.Lines.{AreWords, texts}
use Rattle.cuwajimo.proofs.Cutting.{words_cut}
use Rattle.cuwajimo.proofs.line.split_words.Goals as goal

pub returns : goal.returns
returns c =
    IfOk-weaker c.collect.result _ (λ words. AreWords c.args.text.now (texts words.items))
    (λ words ran.
    let last = ran.1.2 tt in
    subst (λ t. AreWords t (texts words.items)) c.split_whitespace.ensures.rest
    (subst (λ xs. AreWords _ (texts xs)) (sym ran.2.0) (words_cut c.split_whitespace.result ran.0 ran.1.0 last.0 ran.1.1 last.1)))
    c.collect.ensures.ran
