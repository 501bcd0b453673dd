-- `start` meets its contract: nothing is laid, and the table is a new one without groups.
use mathlib.Core.Path.{ap, ◌∙◌, sym, subst}
use native.Mathlib.Omega.{arith}
use Rattle.frames.specs.Calls.{Model}
use Rattle.frame_table.specs.Valid.{Valid}
use Rattle.frame_table.proofs.Promised.{new_none, new-valid}
use Rattle.frame_listing.proofs.start.Goals as goal

pub returns : goal.returns
returns c =
    let t = c.new-table.ensures.table in (
      ap (λ (m : Model). record { length = 0; at = 0; call = 1; table = m }) (t ∙ new_none),
      record { valid = subst Valid (sym t) (new-valid 0); few = omega arith },
    )
