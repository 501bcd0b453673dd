-- `load::put_fields` meets its contract: the fields laid so far, with those left, are all of them.
use native.Mathlib.Omega.{arith}
use mathlib.Core.Path.{refl}
use Rattle.numerals.proofs.Pages.{laying-start, laying-more, laying-end}
use Rattle.format.specs.declared.fields.Field.TheVariants.{Clock}
use Rattle.format.specs.Format.{widths}
use Rattle.format.specs.Calls.{values_of}
use Rattle.load.specs.Bytes.{field_bytes}
use Rattle.format.proofs.Rows.{left-next, left-none}
use Rattle.load.proofs.put_fields.Goals as goal

pub loop-field-init : goal.loop-field-init
unfolding widths values_of
loop-field-init c = laying-start (omega arith) refl

pub loop-field-preserved : goal.loop-field-preserved
unfolding field_bytes
loop-field-preserved c =
    laying-more _ _ c.loop-field.invariant (rw (left-next _ _ _ c.fields_of-field-items.ensures _ Clock c.loop-field-test.true, c.width.ensures, c.value_of.ensures.0) refl) c.big.ensures

pub returns : goal.returns
unfolding field_bytes
returns c = laying-end c.loop-field.invariant (rw (left-none _ _ _ c.fields_of-field-items.ensures _ c.loop-field-test.false) refl)
