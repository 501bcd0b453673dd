-- `report` meets its contract: the form of the call that the line's first word names, where the reason wants one.
use mathlib.Core.Path.{sym, ap, ◌∙◌}
use Rattle.words.specs.Reports.{reported}
use Rattle.dance_text.proofs.Forms.{no-form, form-found}
use Rattle.dance_text.proofs.report.Goals as goal

pub returns-then-not-wants_form : goal.returns-then-not-wants_form
returns-then-not-wants_form c =
    let e = c.report.ensures in
    (e.0 ∙ ap (reported _ _) (sym (no-form _ _ _ (sym c.wants_form.ensures ∙ c.if-not-wants_form.true))), e.1)

pub returns : goal.returns
returns c =
    let e = c.with_form.ensures in
    let f = form-found _ _ _ (sym c.wants_form.ensures ∙ c.if-not-wants_form.false) _ c.first_said.ensures.word _ c.call_named-name.ensures in
    (e.0 ∙ ap (reported _ _) (sym f), e.1)
