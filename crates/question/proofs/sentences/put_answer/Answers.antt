-- `put_answer` meets its contract: the sentence, then a line feed.
use Rattle.numerals.proofs.Pages.{lays_then}
use Rattle.question.specs.Answers.{answer_text}
use Rattle.question.proofs.sentences.put_answer.Goals as goal

pub returns : goal.returns
unfolding answer_text
returns c = lays_then c.put_sentence.ensures c.byte.ensures
