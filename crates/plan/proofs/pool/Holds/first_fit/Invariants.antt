use lib.ListN.{length}
use Prim.Native.Nat.{◌-◌}
use Rattle.plan.proofs.FirstFit.{Sweep}
use Rattle.plan.proofs.pool.Holds.first_fit.Given as goal

abbrev pub invariant-loop-end : goal.invariant-loop-end
invariant-loop-end l = Sweep l.starts l.end-items 0 l.room l.from l.length l.s l.used l.i l.end-index

abbrev pub invariant-loop-i : goal.invariant-loop-i
invariant-loop-i l = Sweep l.starts l.end-items 0 l.room l.from l.length l.s l.used l.i l.end-index

abbrev pub decreases-loop-i : goal.decreases-loop-i
decreases-loop-i l = length l.starts - l.i
