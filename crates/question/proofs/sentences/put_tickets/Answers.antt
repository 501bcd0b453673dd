-- `put_tickets` meets its contract: the one ticket, then the other.
use Rattle.numerals.proofs.Pages.{lays_then}
use Rattle.question.specs.Answers.{tickets_text}
use Rattle.question.proofs.sentences.put_tickets.Goals as goal

pub returns : goal.returns
unfolding tickets_text
returns c = lays_then c.put_number.ensures c.put_number-2.ensures
