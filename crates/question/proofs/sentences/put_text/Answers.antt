-- `put_text` meets its contract: the stop line, then the answer.
use Rattle.numerals.proofs.Pages.{lays_then, lays_as}
use Rattle.question.proofs.Told.{text-told}
use Rattle.question.proofs.sentences.put_text.Goals as goal

pub returns : goal.returns
returns c = lays_as _ _ (text-told _ _) (lays_then c.put_any_stop.ensures c.put_answer.ensures)
