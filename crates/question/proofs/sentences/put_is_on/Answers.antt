-- `put_is_on` meets its contract: the ticket, then the words.
use Rattle.numerals.proofs.Pages.{lays_then}
use Rattle.question.specs.Answers.{is_on_text}
use Rattle.question.proofs.sentences.put_is_on.Goals as goal

pub returns : goal.returns
unfolding is_on_text
returns c = lays_then c.put_number.ensures c.bytes.ensures
