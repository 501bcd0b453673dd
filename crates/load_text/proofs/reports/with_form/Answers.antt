-- `reports::with_form` meets its contract: the form goes into its 64 bytes.
use mathlib.Core.Path.{◌∙◌}
use native.Mathlib.Omega.{arith}
use lib.ListN.{length-take}
use borrow.Author.Rules.{rules}
use Rattle.load_text.proofs.Forms.{form-goes, form-told}
use Rattle.load_text.proofs.reports.with_form.Goals as goal

pub slice_bounds-form-end : goal.slice_bounds-form-end
slice_bounds-form-end c = omega (arith, (form-goes _ _ c.new-page.ensures.clean c.put_form.ensures).0)

pub slice_bounds-report-end : goal.slice_bounds-report-end
slice_bounds-report-end c = simp length-take (omega (arith, (form-goes _ _ c.new-page.ensures.clean c.put_form.ensures).0))

pub returns : goal.returns
returns c =
    let e = c.report.ensures in
    let s = c.put_form.ensures.same ∙ c.new-page.ensures.same in
    (form-told _ _ c.args.line c.args.reason _ _ c.new-page.ensures.clean c.put_form.ensures e.0 (search rules), e.1)
