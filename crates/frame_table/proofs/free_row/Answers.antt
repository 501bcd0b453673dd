-- `free_row` meets its contract: the lowest missing group is the first free row.
use mathlib.Core.Path.{sym, ◌∙◌}
use native.Mathlib.Omega.{arith}
use Rattle.frame_table.proofs.Gathering.{free-some, free-none}
use Rattle.frame_table.proofs.free_row.Goals as goal

pub returns-in-Some : goal.returns-in-Some
returns-in-Some c = free-some _ _ (sym c.lowest_missing.ensures ∙ c.in-Some.is)

pub returns-in-None : goal.returns-in-None
returns-in-None c = free-none _ (sym c.lowest_missing.ensures ∙ c.in-None.is)

pub overflow_cast-result : goal.overflow_cast-result
overflow_cast-result c = omega (arith, (returns-in-Some c).high)

pub overflow_add-result : goal.overflow_add-result
overflow_add-result c = omega (arith, (returns-in-Some c).high)
