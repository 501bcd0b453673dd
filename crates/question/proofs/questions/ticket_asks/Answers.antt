-- `ticket_asks` meets its contract: the word is the name, or not.
use mathlib.Core.Path.{◌∙◌}
use Rattle.words.proofs.Names.{word_test}
use Rattle.question.specs.Questions.{ticket_asks}
use Rattle.question.proofs.questions.ticket_asks.Goals as goal

pub returns-then-same : goal.returns-then-same
unfolding ticket_asks
returns-then-same c = rw (word_test _ _ _ c.same.ensures ∙ c.if-same.true)

pub returns-then-same-2 : goal.returns-then-same-2
unfolding ticket_asks
returns-then-same-2 c = rw (word_test _ _ _ c.same.ensures ∙ c.if-same.false, word_test _ _ _ c.same-2.ensures ∙ c.if-same-2.true)

pub returns : goal.returns
unfolding ticket_asks
returns c = rw (word_test _ _ _ c.same.ensures ∙ c.if-same.false, word_test _ _ _ c.same-2.ensures ∙ c.if-same-2.false)
