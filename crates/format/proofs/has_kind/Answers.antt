-- `format::has_kind` meets its contract: a kind that there is has a length.
use mathlib.Core.Path.{sym, ◌∙◌, ap}
use lib.Dec.{ltb}
use Rattle.format.proofs.Format.{has-length}
use Rattle.format.proofs.has_kind.Goals as goal

pub returns : goal.returns
returns c = ap (ltb 0) c.length_of.ensures ∙ sym (has-length _ _)
