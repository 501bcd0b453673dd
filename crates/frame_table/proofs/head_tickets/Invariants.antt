use Rattle.frame_table.proofs.Releasing.{Granting}
use Rattle.frame_table.proofs.head_tickets.Given as goal

abbrev pub invariant-loop-c : goal.invariant-loop-c
invariant-loop-c l = Granting l.pending l.c-index l.grants
