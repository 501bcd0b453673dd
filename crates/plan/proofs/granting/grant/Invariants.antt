use lib.ListN.{drop}
use Rattle.plan.proofs.GrantingLoop.{Holding, Written}
use Rattle.plan.proofs.granting.grant.Given as goal

abbrev pub invariant-loop-c : goal.invariant-loop-c
invariant-loop-c l = Holding l.v.pool l.c-items (drop l.c-index l.c-items) l.held l.free

abbrev pub invariant-loop-i : goal.invariant-loop-i
invariant-loop-i l = Written l.v l.initial.pending l.i l.pending l.tickets l.free
