use Rattle.frame_table.proofs.Releasing.{Moving}
use Rattle.frame_table.proofs.turn.Given as goal

abbrev pub invariant-loop-i : goal.invariant-loop-i
invariant-loop-i l = Moving l.fn.pending l.i l.pending
