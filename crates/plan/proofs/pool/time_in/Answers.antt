-- `pool::time_in` meets its contract. Assumes nothing.
use native.Mathlib.Omega.{arith}
use Rattle.plan.specs.Events.{time_in}
use Rattle.plan.proofs.pool.time_in.Goals as goal

pub returns : goal.returns
unfolding time_in
returns c = (omega arith, omega arith)
