-- `pool::units_in` meets its contract. Assumes nothing.
use native.Mathlib.Omega.{arith}
use Rattle.plan.specs.Events.{units_in}
use Rattle.plan.proofs.pool.units_in.Goals as goal

pub returns : goal.returns
unfolding units_in
returns c = (omega arith, omega arith)
