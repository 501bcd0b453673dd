-- `end_of` meets its contract: past its promised end a holder ends a grace after the clock.
use Rattle.std.proofs.lemmas.Grind.{common_steps}
use native.Mathlib.Omega.{arith}
use Rattle.rules.specs.Claims.{end_of, held_until}
use Rattle.plan.proofs.ends.end_of.Goals as goal

pub returns-then-end-v : goal.returns-then-end-v
unfolding end_of held_until
returns-then-end-v c = grind (arith, common_steps)

pub returns-else-is_on : goal.returns-else-is_on
unfolding end_of held_until
returns-else-is_on c = grind (arith, common_steps)
