-- `put_holds` meets its contract: the ticket, then its end.
use Rattle.numerals.proofs.Pages.{lays_then}
use Rattle.question.specs.Answers.{holds_text}
use Rattle.question.proofs.sentences.put_holds.Goals as goal

pub returns : goal.returns
unfolding holds_text
returns c = lays_then c.decimal.ensures c.put_number.ensures
