-- `groups::common` meets its contract by `common-word`. Assumes nothing.
use mathlib.Core.Path.{◌∙◌}
use Rattle.groups.proofs.Words.{common-word}
use Rattle.groups.proofs.common.Goals as goal

pub returns : goal.returns
returns c = c.lowest.ensures ∙ common-word _ _
