-- `put_free` meets its contract: the number, the pool, the words.
use Rattle.numerals.proofs.Pages.{lays_then}
use Rattle.question.specs.Answers.{free_text}
use Rattle.question.proofs.sentences.put_free.Goals as goal

pub returns : goal.returns
unfolding free_text
returns c = lays_then (lays_then c.decimal.ensures c.put_number.ensures) c.bytes.ensures
