-- `put_grant` meets its contract: the word and the ticket, laid one after the other.
use Rattle.numerals.proofs.Pages.{lays_then}
use Rattle.frame_listing.specs.Lines.{on_line}
use Rattle.frame_listing.proofs.put_grant.Goals as goal

pub returns : goal.returns
unfolding on_line
returns c = lays_then c.bytes.ensures c.column.ensures
