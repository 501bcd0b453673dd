use Prim.Native.Nat.{◌-◌}
use lib.ListN.{length}
use Rattle.load_text.proofs.Showing.{Turn}
use Rattle.load.specs.Reading.{edition_of}
use Rattle.load_text.proofs.print.put_records.Given as goal

abbrev pub invariant-loop-item : goal.invariant-loop-item
invariant-loop-item l = Turn (edition_of l.load) l.load l.fn.page l.page l.at l.k

abbrev pub decreases-loop-item : goal.decreases-loop-item
decreases-loop-item l = length l.load - l.at
