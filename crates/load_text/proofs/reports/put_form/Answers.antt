-- `reports::put_form` meets its contract: the form of the edition's line, or of the kind that the word names.
use mathlib.Core.Path.{sym, ap, ◌∙◌}
use native.Mathlib.Omega.{arith}
use Rattle.numerals.proofs.Pages.{lays_as, lays_none}
use Rattle.load_text.specs.Forms.{named_form}
use Rattle.load_text.proofs.Forms.{edition-form, word-form}
use Rattle.load_text.proofs.reports.put_form.Goals as goal

pub returns-then-is_edition : goal.returns-then-is_edition
returns-then-is_edition c = lays_as _ _ (sym (edition-form _ _ (sym c.is_edition.ensures ∙ c.if-is_edition.true))) c.bytes.ensures

pub returns-in-Some : goal.returns-in-Some
returns-in-Some c =
    let f = word-form c.args.edition c.args.word.now (sym c.is_edition.ensures ∙ c.if-is_edition.false) in
    lays_as _ _ (sym (f ∙ ap (named_form c.args.edition) (sym c.kind_named.ensures ∙ c.in-Some.is))) c.put_kind.ensures

pub returns-in_default : goal.returns-in_default
returns-in_default c =
    let f = word-form c.args.edition c.args.word.now (sym c.is_edition.ensures ∙ c.if-is_edition.false) in
    lays_as _ _ (sym (f ∙ ap (named_form c.args.edition) (sym c.kind_named.ensures ∙ c.in_default.is))) (lays_none c.args.page.now (omega arith))
