-- `position_after` meets its contract: the position that each answer of `item_at` gives.
use mathlib.Core.Path.{sym, ap, ◌∙◌}
use Rattle.std.specs.Prelude.{Ok}
use Rattle.reader.proofs.Items.{next-position}
use Rattle.reader.proofs.position_after.Goals as goal

pub returns-in-Ok-Some : goal.returns-in-Ok-Some
returns-in-Ok-Some c = next-position _ _ _ (sym c.in-Ok-Some.ensures.0 ∙ ap Ok c.in-Ok-Some.field-0-is)

pub returns-in-Ok-None : goal.returns-in-Ok-None
returns-in-Ok-None c = next-position _ _ _ (sym c.in-Ok-None.ensures.0 ∙ ap Ok c.in-Ok-None.field-0-is)

pub returns-in-Err : goal.returns-in-Err
returns-in-Err c = next-position _ _ _ (sym c.in-Err.ensures.0)
