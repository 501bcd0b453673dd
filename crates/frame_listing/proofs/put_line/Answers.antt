-- `put_line` meets its contract: two pairs of numbers and one number, laid one after the other.
use Rattle.numerals.proofs.Pages.{lays_then}
use Rattle.frame_listing.specs.Lines.{line_of}
use Rattle.frame_listing.proofs.put_line.Goals as goal

pub returns : goal.returns
unfolding line_of
returns c = lays_then c.pair.ensures (lays_then c.pair-2.ensures c.column.ensures)
