-- A space, then the value by what the field is.
use Rattle.numerals.proofs.Pages.{lays_then}
use Rattle.load_text.specs.Lines.{word_of}
use Rattle.load_text.proofs.Lines.{not-groups}
use Rattle.load_text.proofs.print.put_word.Goals as goal

pub returns-in-Groups : goal.returns-in-Groups
unfolding word_of
returns-in-Groups c = rw c.in-Groups.is (lays_then c.byte.ensures c.put_digits.ensures)

pub returns-in_default : goal.returns-in_default
unfolding word_of
returns-in_default c = rw (not-groups _ c.in_default.not-Groups) (lays_then c.byte.ensures c.decimal.ensures)
