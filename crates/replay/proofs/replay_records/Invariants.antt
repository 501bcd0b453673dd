use Prim.Native.Nat.{◌-◌}
use lib.ListN.{length}
use Rattle.replay.specs.Records.{alone_in}
use Rattle.replay.proofs.Replaying.{Replaying}
use Rattle.replay.proofs.replay_records.Given as goal

abbrev pub invariant-loop-item : goal.invariant-loop-item
invariant-loop-item l = Replaying l.load (alone_in l.load) l.table l.at l.record

abbrev pub decreases-loop-item : goal.decreases-loop-item
decreases-loop-item l = length l.load - l.at
