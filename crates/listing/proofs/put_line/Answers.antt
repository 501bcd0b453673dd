use Rattle.numerals.proofs.Pages.{lays_then}
use Rattle.listing.specs.Lines.{line_of}
use Rattle.listing.proofs.put_line.Goals as goal

pub returns : goal.returns
unfolding line_of
returns c = lays_then c.pair.ensures c.pair-2.ensures
