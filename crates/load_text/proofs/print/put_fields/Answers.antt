-- The words laid so far, with those left, are all of them.
use native.Mathlib.Omega.{arith}
use mathlib.Core.List.{[]}
use mathlib.Core.Path.{refl}
use Rattle.numerals.proofs.Pages.{laying-start, laying-more, laying-end}
use Rattle.format.specs.declared.fields.Field.TheVariants.{Clock}
use Rattle.format.proofs.Rows.{left-next, left-none}
use Rattle.load_text.specs.Lines.{fields_text, fields_most}
use Rattle.load_text.proofs.Lines.{fields-turn}
use Rattle.load_text.proofs.print.put_fields.Goals as goal

pub loop-field-init : goal.loop-field-init
loop-field-init c = (laying-start (omega arith) refl, omega arith)

pub loop-field-preserved : goal.loop-field-preserved
unfolding fields_text
loop-field-preserved c =
    let n = left-next _ _ _ c.fields_of-field-items.ensures _ Clock c.loop-field-test.true in
    let v = c.value_of.ensures in
    let i = c.loop-field.invariant in (
      laying-more _ _ i.0 (rw (n, v.0) refl) c.put_word.ensures,
      fields-turn _ _ _ _ _ (rw v.0 at v.1) (rw n at i.1),
    )

pub returns : goal.returns
unfolding fields_text fields_most
returns c =
    let i = c.loop-field.invariant in
    let e = left-none _ _ _ c.fields_of-field-items.ensures _ c.loop-field-test.false in
    record { laid = laying-end (laying-more _ [] i.0 (rw e refl) c.byte.ensures) refl; brief = omega (arith, rw e at i.1) }
