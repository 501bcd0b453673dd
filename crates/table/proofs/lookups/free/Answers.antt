use Rattle.std.proofs.Common.{◌≤◌, sym, arith}
use Rattle.rules.specs.Pool.{held_units}
use Rattle.table.proofs.Finding.{free-covers, free-more, free-end}
use Rattle.table.proofs.lookups.free.Goals.{After-as_slice-c-items}
use Rattle.table.proofs.lookups.free.Goals as goal

stock : (c : After-as_slice-c-items) → held_units c.as_slice-c-items.result.now ≤ c.args.t.now.pool
stock c = rw c.as_slice-c-items.ensures c.requires.ranged.ranges.stock

pub overflow_sub-units : goal.overflow_sub-units
overflow_sub-units c =
    rw c.units_held-units.ensures (free-covers _ _ _ _ (stock (goal.at.overflow_sub-units c).After-as_slice-c-items) c.loop-c.invariant (omega arith))

pub loop-c-preserved : goal.loop-c-preserved
loop-c-preserved c =
    rw c.units_held-units.ensures (free-more _ _ _ _ (stock (goal.at.loop-c-preserved c).After-as_slice-c-items) c.loop-c.invariant (omega arith))

pub returns : goal.returns
returns c =
    rw (sym c.as_slice-c-items.ensures) (free-end _ _ _ _ (stock (goal.at.returns c).After-as_slice-c-items) c.loop-c.invariant c.loop-c-test.false)
