use Prim.Native.Nat.{◌-◌}
use lib.ListN.{length}
use Rattle.load.specs.Reading.{reading}
use Rattle.reader.proofs.Counting.{Left}
use Rattle.reader.proofs.scan.Given as goal

-- The records so far are behind the reader, and the others are left.
abbrev pub invariant-loop-records : goal.invariant-loop-records
invariant-loop-records l = Left l.load (length (reading l.load).records - l.records) l.records l.reader

abbrev pub decreases-loop-records : goal.decreases-loop-records
decreases-loop-records l = length (reading l.load).records - l.records
