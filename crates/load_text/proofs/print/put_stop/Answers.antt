-- The words, then two numbers.
use Rattle.numerals.proofs.Pages.{lays_then}
use Rattle.load_text.specs.Lines.{stop_line}
use Rattle.load_text.proofs.print.put_stop.Goals as goal

pub returns : goal.returns
unfolding stop_line
returns c = lays_then c.bytes.ensures c.pair.ensures
