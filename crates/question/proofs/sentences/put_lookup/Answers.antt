-- `put_lookup` meets its contract: the ticket, then how it stands.
use Rattle.numerals.proofs.Pages.{lays_then}
use Rattle.question.specs.Answers.{lookup_text}
use Rattle.question.proofs.sentences.put_lookup.Goals as goal

pub returns : goal.returns
unfolding lookup_text
returns c = lays_then c.put_number.ensures c.put_standing.ensures
