-- `put_unexplained` meets its contract: each number has its text.
use mathlib.Core.Path.{sym, ◌∙◌}
use Rattle.numerals.proofs.Pages.{lays_as}
use Rattle.question.proofs.Told.{told-unknown, told-on}
use Rattle.question.proofs.sentences.put_unexplained.Goals as goal

pub returns-then-from-eq-UNKNOWN : goal.returns-then-from-eq-UNKNOWN
returns-then-from-eq-UNKNOWN c = lays_as _ _ (told-unknown _ _ (sym c.from.ensures ∙ c.if-from-eq-UNKNOWN.true)) c.put_lookup.ensures

pub returns-else-from-eq-UNKNOWN : goal.returns-else-from-eq-UNKNOWN
returns-else-from-eq-UNKNOWN c =
    lays_as _ _ (told-on _ _ (λ e. c.if-from-eq-UNKNOWN.false (c.from.ensures ∙ e))) c.put_is_on.ensures
