-- `with_row` meets its contract: the head row adds nothing, another row is one group more.
use native.Mathlib.Omega.{arith}
use Rattle.frame_table.proofs.Gathering.{with-head, with-behind}
use Rattle.frame_table.proofs.with_row.Goals as goal

pub returns-then-row-eq0 : goal.returns-then-row-eq0
returns-then-row-eq0 c = with-head _ _ c.if-row-eq0.true

pub returns : goal.returns
returns c = rw (c.union.ensures, c.only.ensures, c.from-g.ensures) (with-behind _ _ (omega arith))
