-- `format::known` meets its contract: an edition has a rig.
use mathlib.Core.Path.{sym, ◌∙◌}
use Rattle.format.proofs.Format.{known_is}
use Rattle.format.proofs.known.Goals as goal

pub returns : goal.returns
returns c = c.has_kind.ensures ∙ sym (known_is _)
