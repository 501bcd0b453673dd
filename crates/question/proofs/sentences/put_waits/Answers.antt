-- `put_waits` meets its contract: the ticket, its link, its start, and what parts it from the next.
use Rattle.numerals.proofs.Pages.{lays_then}
use Rattle.question.specs.Answers.{waits_text}
use Rattle.question.proofs.sentences.put_waits.Goals as goal

pub returns : goal.returns
unfolding waits_text
returns c = lays_then (lays_then (lays_then c.decimal.ensures c.put_number.ensures) c.put_number-2.ensures) c.bytes.ensures
