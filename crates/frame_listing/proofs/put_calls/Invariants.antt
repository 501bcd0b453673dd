use Prim.Native.Nat.{◌-◌}
use lib.ListN.{length}
use Rattle.frame_listing.proofs.CallLoop.{Turn}
use Rattle.frame_listing.proofs.put_calls.Given as goal

abbrev pub invariant-loop-at : goal.invariant-loop-at
invariant-loop-at l = Turn l.text l.fn.out l.head l.limit l.initial.table l.initial.at l.initial.k l.initial.page l.page l.table l.at l.k

abbrev pub decreases-loop-at : goal.decreases-loop-at
decreases-loop-at l = length l.text - l.at
