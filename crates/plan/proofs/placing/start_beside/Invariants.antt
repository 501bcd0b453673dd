use Rattle.std.proofs.Common.{◌≡◌, ◌≤◌, ◌-◌}
use Rattle.rules.specs.Placing.{place}
use Rattle.plan.proofs.PlacingLoop.{Passed, Tried}
use Rattle.plan.proofs.placing.start_beside.Given as goal

-- The candidate is not after the planned start, and the claims that are left alone may bar it or a later one.
abbrev pub invariant-candidates : goal.invariant-candidates
invariant-candidates l = record {
  low : l.v.clock ≤ l.s;
  high : l.s ≤ place l.v l.pending l.w;
  passed : Passed l.v l.w l.pending l.left l.s;
}

abbrev pub decreases-candidates : goal.decreases-candidates
decreases-candidates l = place l.v l.pending l.w - l.s

-- Of those, the claims in `rest` are not yet tried.
abbrev pub invariant-loop-j : goal.invariant-loop-j
invariant-loop-j l = record {
  same : l.s ≡ l.initial.s;
  kept : l.left ≡ l.initial.left;
  tried : Tried l.v l.w l.pending l.rest l.s;
}

abbrev pub decreases-loop-j : goal.decreases-loop-j
decreases-loop-j l = l.rest
