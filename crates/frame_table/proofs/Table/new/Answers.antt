-- `new` meets its contract: a rig of 64 bits without groups is 0.
use Rattle.std.proofs.Common.{sym, ◌∙◌}
use Rattle.frame_table.proofs.Steps.{new-dark}
use Rattle.frame_table.proofs.Table.new.Goals as goal

pub returns-then-empty-clause-table : goal.returns-then-empty-clause-table
returns-then-empty-clause-table c = rw c.new.ensures (new-dark _ c.ranges.rig.fits (sym c.if-empty.true ∙ c.empty.ensures))
