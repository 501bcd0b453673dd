-- `format::kept` meets its contract: each field that the edition has is kept, one after the other.
use native.Mathlib.Nat.{mod-eq_of_lt}
use Rattle.format.specs.declared.fields.Field.TheVariants.{Clock}
use Rattle.format.specs.Calls.{filled, call_of, values_of, kept}
use Rattle.format.proofs.Rows.{left-next, left-none}
use Rattle.format.proofs.kept.Goals as goal

pub loop-field-init : goal.loop-field-init
unfolding kept call_of values_of
loop-field-init c = rw c.bare-kept.ensures

pub loop-field-preserved : goal.loop-field-preserved
unfolding filled
loop-field-preserved c =
    let v = c.value_of.ensures in
    rw (c.set.ensures, mod-eq_of_lt v.1, v.0) (rw (left-next _ _ _ c.fields_of-field-items.ensures _ Clock c.loop-field-test.true) at c.loop-field.invariant)

pub returns : goal.returns
unfolding filled
returns c = rw (left-none _ _ _ c.fields_of-field-items.ensures _ c.loop-field-test.false) at c.loop-field.invariant
