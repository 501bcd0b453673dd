-- `call_named` meets its contract: the first of three words that it is (`word_test`).
use mathlib.Core.Path.{◌∙◌}
use borrow.Author.Rules.{rules}
use Rattle.words.proofs.Names.{word_test}
use Rattle.dance_text.specs.Lines.{call_named}
use Rattle.dance_text.proofs.call_named.Goals as goal

pub returns-then-same-2 : goal.returns-then-same-2
unfolding call_named
returns-then-same-2 c =
    rw (word_test _ _ _ c.same.ensures ∙ c.if-same.false, word_test _ _ _ c.same-2.ensures ∙ c.if-same-2.true)

pub returns-then-same-3 : goal.returns-then-same-3
unfolding call_named
returns-then-same-3 c =
    rw (word_test _ _ _ c.same.ensures ∙ c.if-same.false, word_test _ _ _ c.same-2.ensures ∙ c.if-same-2.false, word_test _ _ _ c.same-3.ensures ∙ c.if-same-3.true)

pub returns : goal.returns
unfolding call_named
returns c =
    rw (word_test _ _ _ c.same.ensures ∙ c.if-same.false, word_test _ _ _ c.same-2.ensures ∙ c.if-same-2.false, word_test _ _ _ c.same-3.ensures ∙ c.if-same-3.false)

pub same-requires : goal.same-requires
unfolding call_named
same-requires c = search rules

pub returns-then-same : goal.returns-then-same
unfolding call_named
returns-then-same c = rw (word_test _ _ _ c.same.ensures ∙ c.if-same.true)

pub same-requires-2 : goal.same-requires-2
unfolding call_named
same-requires-2 c = search rules

pub same-requires-3 : goal.same-requires-3
unfolding call_named
same-requires-3 c = search rules
