-- A form that is told is laid behind a colon; another lays nothing.
use mathlib.Core.Path.{sym}
use native.Mathlib.Omega.{arith}
use borrow.Author.Rules.{rules}
use Rattle.numerals.proofs.Laying.{behind-none, laid_none, put, put_as, put_then}
use Rattle.words.proofs.Texts.{form-told, form_empty, form_long}
use Rattle.words.proofs.reports.put_form.Goals.{then-is_empty-via-then-is_empty, then-is_empty-via-else-is_empty+then-form-gt64}
use Rattle.words.proofs.reports.put_form.Goals as goal

pub returns-then-is_empty : goal.returns-then-is_empty
returns-then-is_empty c =
    put_as _ _
    (sym
    (elim c.then-is_empty.branch [
      | then-is_empty-via-then-is_empty w ↦ form_empty c.args.form.now (search rules)
      | then-is_empty-via-else-is_empty+then-form-gt64 w ↦ form_long c.args.form.now w.if-form-gt64.true
    ]))
    (put (sym (behind-none _ (search rules)), sym (laid_none _ _)))

pub returns : goal.returns
returns c =
    put_as _ _ (sym (form-told _ (search rules) c.if-form-gt64.false))
    (put_then _ _ _ _ _ _ _ _ (omega arith) (put c.put_bytes-m.ensures) (put c.put_bytes.ensures))
