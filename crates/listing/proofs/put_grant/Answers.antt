use Rattle.numerals.proofs.Pages.{lays_then}
use Rattle.listing.specs.Lines.{on_line}
use Rattle.listing.proofs.put_grant.Goals as goal

pub returns : goal.returns
unfolding on_line
returns c = lays_then c.bytes.ensures c.pair.ensures
