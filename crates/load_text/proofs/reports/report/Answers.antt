-- `reports::report` meets its contract: the form of a line that begins with the line's first word, where the reason wants one.
use mathlib.Core.Path.{◌≡◌, sym, ap, ◌∙◌}
use Rattle.words.specs.Reports.{reported}
use Rattle.load_text.specs.Making.{heading}
use Rattle.load_text.proofs.Forms.{no-form, form-found}
use Rattle.load_text.proofs.reports.report.Goals.{in-Ok, in-Err}
use Rattle.load_text.proofs.reports.report.Goals as goal

pub returns-then-not-wants_form : goal.returns-then-not-wants_form
returns-then-not-wants_form c =
    let e = c.report.ensures in
    (e.0 ∙ ap (reported _ _) (sym (no-form _ _ _ (sym c.wants_form.ensures ∙ c.if-not-wants_form.true))), e.1)

pub returns : goal.returns
returns c =
    let e = c.with_form.ensures in
    let i : c.match-heading.edition ≡ (heading c.args.text.now).edition =
    elim c.match-heading.branch [ in-Ok w ↦ w.edition-is ∙ w.in-Ok.ensures.edition | in-Err w ↦ w.edition-is ∙ w.in-Err.ensures.edition ] in
    (e.0 ∙ ap (reported _ _) (sym (form-found _ _ _ (sym c.wants_form.ensures ∙ c.if-not-wants_form.false) _ i _ c.first_said.ensures.word)), e.1)
