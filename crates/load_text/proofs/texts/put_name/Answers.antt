-- `texts::put_name` meets its contract: the name, or none.
use mathlib.Core.Path.{sym, ◌∙◌}
use native.Mathlib.Omega.{arith}
use Rattle.numerals.proofs.Pages.{lays_as, lays_none}
use Rattle.load_text.proofs.Tables.{has-name, lacks-name}
use Rattle.load_text.proofs.texts.put_name.Goals as goal

pub returns-then-has_kind : goal.returns-then-has_kind
returns-then-has_kind c = lays_as _ _ (c.name.ensures ∙ has-name _ _ (sym c.has_kind.ensures ∙ c.if-has_kind.true)) c.bytes.ensures

pub returns-else-has_kind : goal.returns-else-has_kind
returns-else-has_kind c = lays_as _ _ (lacks-name _ _ (sym c.has_kind.ensures ∙ c.if-has_kind.false)) (lays_none _ (omega arith))
