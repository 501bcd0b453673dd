use Rattle.generator.proofs.Entering.{batch-even, batch-odd}
use Rattle.generator.proofs.entered.Goals as goal

pub returns-then-d-eq1 : goal.returns-then-d-eq1
returns-then-d-eq1 c = batch-odd _ c.claimed.ensures c.if-d-eq1.true c.released.ensures

pub returns-else-d-eq1 : goal.returns-else-d-eq1
returns-else-d-eq1 c = batch-even _ c.claimed.ensures c.if-d-eq1.false
