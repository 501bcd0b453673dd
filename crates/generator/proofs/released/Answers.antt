use mathlib.Core.Path.{sym, ◌∙◌}
use native.Mathlib.Omega.{arith}
use Rattle.generator.proofs.Entering.{release-enters, none-enters}
use Rattle.generator.proofs.released.Goals as goal

pub returns-in-Some : goal.returns-in-Some
returns-in-Some c =
    release-enters _ _ _ c.put_record.ensures _ (sym c.lowest_on.ensures ∙ c.in-Some.is) c.release_record.ensures c.release.ensures.table

pub returns-in_default : goal.returns-in_default
returns-in_default c =
    none-enters _ _ (omega arith) (sym c.lowest_on.ensures ∙ c.in_default.is)
