-- `load::call_of` meets its contract: the fields read so far, with those left, give the call.
use native.Mathlib.Omega.{arith}
use Rattle.format.specs.Calls.{filled}
use Rattle.format.specs.declared.fields.Field.TheVariants.{Clock}
use Rattle.format.specs.Format.{field_number}
use Rattle.format.proofs.Format.{fields-few, width-most}
use Rattle.format.proofs.Rows.{left-next, left-none}
use Rattle.load.proofs.Fields.{reading-start, reading-next}
use lib.ListN.{length, get_or, length-map}
use mathlib.Core.Path.{ap}
use Rattle.load.proofs.call_of.Goals as goal

pub loop-field-init : goal.loop-field-init
loop-field-init c = reading-start _ _ _ _ c.bare-call.ensures

pub loop-field-preserved : goal.loop-field-preserved
loop-field-preserved c =
    reading-next _ _ _ _ (left-next _ _ _ c.fields_of-field-items.ensures _ Clock c.loop-field-test.true) _ _ _ _ _ _ c.width-width.ensures c.number.ensures c.set.ensures c.loop-field.invariant

pub overflow_add-at : goal.overflow_add-at
overflow_add-at c =
    let a = c.args in
    let fs = c.fields_of-field-items in
    omega (arith, c.loop-field.invariant.bytes, c.loop-field-test.true, c.width-width.ensures, width-most (field_number (get_or fs.result.now c.loop-field.field-index Clock)), length-map fs.result.now field_number, ap length fs.ensures, fields-few a.edition a.kind)

pub returns : goal.returns
unfolding filled
returns c = rw (left-none _ _ _ c.fields_of-field-items.ensures _ c.loop-field-test.false) at c.loop-field.invariant.call
