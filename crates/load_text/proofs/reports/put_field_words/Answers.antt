-- The words laid so far, with those left, are all of them.
use native.Mathlib.Omega.{arith}
use mathlib.Core.Path.{refl}
use Rattle.numerals.proofs.Pages.{lays_then, laying-start, laying-more, laying-end}
use Rattle.format.specs.declared.fields.Field.TheVariants.{Clock}
use Rattle.format.proofs.Rows.{left-next, left-none}
use Rattle.load_text.specs.Forms.{fields_form}
use Rattle.load_text.proofs.reports.put_field_words.Goals as goal

pub loop-field-init : goal.loop-field-init
loop-field-init c = laying-start (omega arith) refl

pub loop-field-preserved : goal.loop-field-preserved
unfolding fields_form
loop-field-preserved c =
    laying-more _ _ c.loop-field.invariant (rw (left-next _ _ _ c.fields_of-field-items.ensures _ Clock c.loop-field-test.true, c.field_word.ensures) refl) (lays_then c.byte.ensures c.bytes.ensures)

pub returns : goal.returns
unfolding fields_form
returns c = laying-end c.loop-field.invariant (rw (left-none _ _ _ c.fields_of-field-items.ensures _ c.loop-field-test.false) refl)
