-- `parse::head_line` meets its contract: the first word before the line's end and its comment, if there is one, is `edition` or not.
use Rattle.std.proofs.lemmas.Result.{err_from_is_err_and}
use Rattle.load_text.specs.Parsing.{head_in, head_says}
use Rattle.load_text.proofs.parse.head_line.Goals as goal

pub returns-in_default : goal.returns-in_default
unfolding head_says head_in
returns-in_default c = rw (← c.said.ensures, c.in_default.ensures)

pub returns-in_err-edition_in : goal.returns-in_err-edition_in
unfolding head_says head_in
returns-in_err-edition_in c =
    let p = err_from_is_err_and c.from_residual.result c.from_residual.ensures.1 in
    rw (p.1, p.2, ← c.said.ensures, c.in-Some.ensures.words, ← c.is_edition.ensures, c.if-is_edition.true, ← c.edition_in.ensures, c.in_err-edition_in.was)

pub returns-then-is_edition : goal.returns-then-is_edition
unfolding head_says head_in
returns-then-is_edition c =
    rw (← c.said.ensures, c.in-Some.ensures.words, ← c.is_edition.ensures, c.if-is_edition.true, ← c.edition_in.ensures, c.in_ok-edition_in.was)

pub returns : goal.returns
unfolding head_says head_in
returns c = rw (← c.said.ensures, c.in-Some.ensures.words, ← c.is_edition.ensures, c.if-is_edition.false)
