-- `groups::lowest_missing` meets its contract by `missing-word`. Assumes nothing.
use mathlib.Core.Path.{◌∙◌, ap}
use Rattle.groups.specs.Groups.{lowest}
use Rattle.groups.proofs.Words.{missing-word}
use Rattle.groups.proofs.lowest_missing.Goals as goal

pub returns : goal.returns
returns c = c.lowest.ensures ∙ ap lowest c.without.ensures ∙ missing-word _
