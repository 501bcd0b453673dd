-- `pool::event` meets its contract. Assumes nothing.
use Rattle.plan.specs.Events.{event_word}
use Rattle.plan.proofs.pool.event.Goals as goal

pub returns : goal.returns
unfolding event_word
returns c = rw c.from.ensures
