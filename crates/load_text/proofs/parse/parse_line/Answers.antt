-- `parse::parse_line` meets its contract: the first word before the line's end and its comment names the call.
use Rattle.std.proofs.lemmas.Result.{err_from_is_err_and}
use Rattle.load_text.specs.Parsing.{call_said, line_says}
use Rattle.load_text.proofs.Values.{line-with-values}
use Rattle.load_text.proofs.parse.parse_line.Goals as goal

pub returns-in_default : goal.returns-in_default
unfolding line_says call_said
returns-in_default c = line-with-values _ _ _ (rw (← c.said.ensures, c.in_default.ensures))

pub returns-in_default-kind_named : goal.returns-in_default-kind_named
unfolding line_says call_said
returns-in_default-kind_named c =
    line-with-values _ _ _ (rw (← c.said.ensures, c.in-Some.ensures.words, ← c.kind_named.ensures, c.in_default-kind_named.is))

pub returns-in_err-fill : goal.returns-in_err-fill
unfolding line_says call_said
returns-in_err-fill c =
    let p = err_from_is_err_and c.from_residual.result c.from_residual.ensures.1 in
    line-with-values _ _ _
    (rw (p.1, p.2, ← c.said.ensures, c.in-Some.ensures.words, ← c.kind_named.ensures, c.in-Some-kind_named.is, ← c.fill.ensures, c.in_err-fill.was))

pub returns : goal.returns
unfolding line_says call_said
returns c =
    line-with-values _ _ _
    (rw (← c.said.ensures, c.in-Some.ensures.words, ← c.kind_named.ensures, c.in-Some-kind_named.is, ← c.fill.ensures, c.in_ok-fill.was))
