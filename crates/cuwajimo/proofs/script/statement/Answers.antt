use Rattle.std.proofs.Common.{Some, None, sym, ap, ◌∙◌, lit<}
use Rattle.std.proofs.lemmas.Str.Pattern.{split_parts}
use Rattle.cuwajimo.specs.Lines.{before_comment}
use Rattle.cuwajimo.proofs.Comments.{all_said, said_before}
use Rattle.cuwajimo.proofs.script.statement.Goals as goal

pub returns : goal.returns
returns c =
    let parts = split_parts 35 c.args.line.now (Some (c.in-Some.before, c.in-Some.field-0-1)) c.in-Some.ensures.cases (lit< tt) in
    sym (ap before_comment parts.0 ∙ said_before c.in-Some.before.now c.in-Some.field-0-1.now parts.1)

pub returns-in_default : goal.returns-in_default
returns-in_default c = sym (all_said c.args.line.now (split_parts 35 c.args.line.now None c.in_default.ensures.cases (lit< tt)))
