-- `enter_first_fit` meets its contract: the first fit is no later than the last end, so that the hold can be entered.
use Prim.Native.Nat.{◌≤◌}
use native.Mathlib.Omega.{arith}
use Rattle.plan.specs.Bounds.{most_end}
use Rattle.plan.proofs.Plots.{fit-early}
use Rattle.plan.proofs.pool.Holds.enter_first_fit.Goals.{After-first_fit-s}
use Rattle.plan.proofs.pool.Holds.enter_first_fit.Goals as goal

early : (c : After-first_fit-s) → c.first_fit-s.result ≤ most_end
early c = let h = c.requires in fit-early h.0 c.first_fit-s.ensures (omega arith)

pub overflow_add-s : goal.overflow_add-s
overflow_add-s c = omega (arith, early (goal.at.overflow_add-s c).After-first_fit-s)

pub enter-requires : goal.enter-requires
enter-requires c = let e = early (goal.at.enter-requires c).After-first_fit-s in (omega arith, omega arith, omega arith, omega arith)
