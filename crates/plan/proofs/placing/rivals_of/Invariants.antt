use Rattle.plan.proofs.Rows.{Left}
use Rattle.plan.proofs.PlacingLoop.{Counted, RivalsBelow}
use Rattle.plan.proofs.placing.rivals_of.Given as goal

-- The claims that are left are still to be counted; the set has the places of those before.
abbrev pub invariant-loop-i : goal.invariant-loop-i
invariant-loop-i l = record {
  counted : Left (λ r. Counted l.v l.w l.pending r l.rivals.count l.rivals.time) l.v l.pending l.i;
  places : RivalsBelow l.w l.pending l.i l.rivals.places;
}
