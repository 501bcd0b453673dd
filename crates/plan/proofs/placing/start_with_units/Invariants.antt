use Rattle.plan.proofs.Barring.{Gathered}
use Rattle.plan.proofs.placing.start_with_units.Given as goal

abbrev pub invariant-loop-c : goal.invariant-loop-c
invariant-loop-c l = Gathered l.v l.w l.pending l.c-index l.holds.starts l.holds.ends
