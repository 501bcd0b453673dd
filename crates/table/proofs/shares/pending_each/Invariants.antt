-- What was counted and what is left make the whole, client by client.
use Rattle.std.proofs.Common.{drop}
use Rattle.rules.specs.Calls.{clients_of}
use Rattle.table.proofs.Counting.{Counting}
use Rattle.table.proofs.shares.pending_each.Given as goal

abbrev pub invariant-loop-c : goal.invariant-loop-c
invariant-loop-c l = Counting (clients_of l.c-items) (drop l.c-index l.c-items) l.each
