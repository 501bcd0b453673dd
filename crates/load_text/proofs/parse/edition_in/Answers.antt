-- `parse::edition_in` meets its contract: one word that is a number, or a reason.
use mathlib.Core.Path.{sym, ◌∙◌}
use native.Mathlib.Omega.{arith}
use Rattle.std.proofs.lemmas.Result.{err_from_is_err_and}
use Rattle.words.proofs.Numbers.{number-most}
use Rattle.words.proofs.Reading.{some-more, no_more}
use Rattle.load_text.specs.Parsing.{edition_in}
use Rattle.load_text.proofs.parse.edition_in.Goals as goal

pub returns-in_default : goal.returns-in_default
unfolding edition_in
returns-in_default c = rw c.in_default.ensures

pub returns-then-is_some : goal.returns-then-is_some
unfolding edition_in
returns-then-is_some c =
    let m = some-more c.in-Some.behind.now _ c.next_word-2.ensures (sym c.is_some.ensures ∙ c.if-is_some.true) in
    rw (c.in-Some.ensures.words, m.2)

pub returns-in_err-edition : goal.returns-in_err-edition
unfolding edition_in
returns-in_err-edition c =
    let m = no_more c.in-Some.behind.now _ c.next_word-2.ensures (sym c.is_some.ensures ∙ c.if-is_some.false) in
    let p = err_from_is_err_and c.from_residual.result c.from_residual.ensures.1 in
    rw (p.1, p.2, c.in-Some.ensures.words, m) (sym c.in_err-edition.was ∙ c.number.ensures.0)

pub overflow_cast-result : goal.overflow_cast-result
overflow_cast-result c = omega (arith, number-most _ _ _ _ _ _ (sym c.number.ensures.0 ∙ c.in_ok-edition.was))

pub returns : goal.returns
unfolding edition_in
returns c =
    let m = no_more c.in-Some.behind.now _ c.next_word-2.ensures (sym c.is_some.ensures ∙ c.if-is_some.false) in
    rw (c.in-Some.ensures.words, m) (sym c.in_ok-edition.was ∙ c.number.ensures.0)
