-- `time_left` meets its contract: the phase that the match found tells what is left.
use Rattle.std.proofs.lemmas.Grind.{common_steps}
use native.Mathlib.Omega.{arith}
use Rattle.rules.specs.Claims.{end_of, held_until, remaining}
use Rattle.plan.proofs.ends.time_left.Goals as goal

pub overflow_sub-result : goal.overflow_sub-result
unfolding end_of held_until
overflow_sub-result c = grind (arith, common_steps)

pub returns-in-Waiting : goal.returns-in-Waiting
unfolding remaining
returns-in-Waiting c = grind (arith, common_steps)

pub returns-in-On : goal.returns-in-On
unfolding remaining
returns-in-On c = grind (arith, common_steps)
