-- `words_say` meets its contract: no word, one word, or more than one.
use mathlib.Core.Path.{refl, sym, ◌∙◌}
use Rattle.words.proofs.Reading.{some-more, no_more}
use Rattle.dance_text.specs.Lines.{words_say}
use Rattle.dance_text.proofs.words_say.Goals as goal

pub returns-in_default : goal.returns-in_default
unfolding words_say
returns-in_default c = rw c.in_default.ensures refl

pub returns-then-is_some : goal.returns-then-is_some
unfolding words_say
returns-then-is_some c =
    let m = some-more c.in-Some.rest.now _ c.next_word-2.ensures (sym c.is_some.ensures ∙ c.if-is_some.true) in
    rw (c.in-Some.ensures.words, m.2)

pub returns : goal.returns
unfolding words_say
returns c =
    let m = no_more c.in-Some.rest.now _ c.next_word-2.ensures (sym c.is_some.ensures ∙ c.if-is_some.false) in
    rw (c.in-Some.ensures.words, m) c.word_says.ensures
