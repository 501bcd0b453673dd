use Rattle.numerals.proofs.Pages.{lays_then}
use Rattle.replay.specs.StopLine.{stop_line}
use Rattle.replay.proofs.put_stop.Goals as goal

pub returns : goal.returns
unfolding stop_line
returns c = lays_then c.bytes.ensures c.pair.ensures
