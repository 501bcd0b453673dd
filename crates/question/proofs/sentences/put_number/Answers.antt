-- `put_number` meets its contract: words, then a number.
use Rattle.numerals.proofs.Pages.{lays_then}
use Rattle.question.specs.Answers.{worded}
use Rattle.question.proofs.sentences.put_number.Goals as goal

pub returns : goal.returns
unfolding worded
returns c = lays_then c.bytes.ensures c.decimal.ensures
