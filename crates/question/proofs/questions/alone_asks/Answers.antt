-- `alone_asks` meets its contract: the word is the name, or not.
use mathlib.Core.Path.{◌∙◌}
use Rattle.words.proofs.Names.{word_test}
use Rattle.question.specs.Questions.{alone_asks}
use Rattle.question.proofs.questions.alone_asks.Goals as goal

pub returns-then-same : goal.returns-then-same
unfolding alone_asks
returns-then-same c = rw (word_test _ _ _ c.same.ensures ∙ c.if-same.true)

pub returns : goal.returns
unfolding alone_asks
returns c = rw (word_test _ _ _ c.same.ensures ∙ c.if-same.false)
