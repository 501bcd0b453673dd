-- `turn` meets its contract: where no claim is on, each in turn comes a row nearer to the head.
use Rattle.std.proofs.Common.{sym, ◌∙◌, arith}
use Rattle.frame_table.proofs.Releasing.{moving-start, moving-more, moving-end}
use Rattle.frame_table.proofs.turn.Goals as goal

pub loop-i-init : goal.loop-i-init
loop-i-init c = moving-start _

pub loop-i-preserved : goal.loop-i-preserved
loop-i-preserved c = moving-more c.loop-i.invariant (omega arith) c.get.ensures c.nearer.ensures c.set.ensures

pub returns-clause-pending : goal.returns-clause-pending
returns-clause-pending c = (moving-end c.loop-i.invariant (omega arith) (sym c.if-some_on.false ∙ c.some_on.ensures)).0

pub returns-clause-grants : goal.returns-clause-grants
returns-clause-grants c = c.head_tickets.ensures ∙ (rw c.as_slice.ensures.value (moving-end c.loop-i.invariant (omega arith) (sym c.if-some_on.false ∙ c.some_on.ensures)).1)
