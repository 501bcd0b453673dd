-- `parse_line` meets its contract: the first word before the line's end and its comment names the call.
use mathlib.Core.Path.{sym, ◌∙◌}
use borrow.Author.Tests.{eqb-true}
use Rattle.std.proofs.lemmas.Result.{err_from_is_err_and}
use Rattle.dance_text.specs.Lines.{call_said, line_says}
use Rattle.dance_text.proofs.Lines.{with_values, silent-empty}
use Rattle.dance_text.proofs.parse_line.Goals as goal

pub returns-in_default : goal.returns-in_default
unfolding line_says call_said
returns-in_default c = with_values _ _ (rw (← c.said.ensures, c.in_default.ensures))

pub returns-in_default-call_named : goal.returns-in_default-call_named
unfolding line_says call_said
returns-in_default-call_named c =
    with_values _ _ (rw (← c.said.ensures, c.in-Some.ensures.words, ← c.call_named.ensures, c.in_default-call_named.is))

pub returns-in_err-words_say : goal.returns-in_err-words_say
unfolding line_says call_said
returns-in_err-words_say c =
    let p = err_from_is_err_and c.from_residual.result c.from_residual.ensures.1 in
    with_values _ _
    (rw (p.1, p.2, ← c.said.ensures, c.in-Some.ensures.words, ← c.call_named.ensures, c.in-Some-call_named.is, ← c.words_say.ensures, c.in_err-words_say.was))

pub returns : goal.returns
unfolding line_says call_said
returns c =
    with_values _ _
    (rw (← c.said.ensures, c.in-Some.ensures.words, ← c.call_named.ensures, c.in-Some-call_named.is, ← c.words_say.ensures, c.in_ok-words_say.was))

pub returns-then-is_empty : goal.returns-then-is_empty
returns-then-is_empty c = with_values _ _ (silent-empty c.args.line.now (eqb-true _ 0 (sym c.is_empty.ensures ∙ c.if-is_empty.true)))
