use Prim.Native.Nat.{◌-◌}
use lib.ListN.{length}
use Rattle.replay.specs.Records.{alone_in}
use Rattle.listing.proofs.RecordLoop.{Turn}
use Rattle.listing.proofs.put_records.Given as goal

abbrev pub invariant-loop-item : goal.invariant-loop-item
invariant-loop-item l = Turn l.load (alone_in l.load) l.fn.page l.page l.table l.at l.k

abbrev pub decreases-loop-item : goal.decreases-loop-item
decreases-loop-item l = length l.load - l.at
