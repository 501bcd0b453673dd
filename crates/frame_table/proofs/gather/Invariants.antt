use Rattle.std.proofs.Common.{drop}
use Rattle.frame_table.proofs.Gathering.{Gathering}
use Rattle.frame_table.proofs.gather.Given as goal

abbrev pub invariant-loop-c : goal.invariant-loop-c
invariant-loop-c l = Gathering l.groups l.pending (drop l.c-index l.pending) l.rows l.count
