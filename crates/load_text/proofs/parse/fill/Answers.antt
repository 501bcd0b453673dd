-- `parse::fill` meets its contract: the fields filled so far, with the words left, give the whole.
use mathlib.Core.Path.{sym, ap, ◌∙◌}
use Rattle.std.specs.Prelude.{Ok}
use Rattle.format.specs.declared.fields.Field.TheVariants.{Clock}
use Rattle.format.specs.Format.{fields_of}
use Rattle.format.proofs.Rows.{left-next, left-none}
use Rattle.words.specs.Parts.{words_in}
use Rattle.words.proofs.Reading.{some-more, no_more}
use Rattle.load_text.specs.Parsing.{filled_in}
use Rattle.load_text.proofs.parse.fill.Goals as goal

pub loop-field-init : goal.loop-field-init
loop-field-init c = let a = c.args in ap (λ x. filled_in (fields_of a.edition a.kind) (words_in a.words.now) (Ok x)) c.bare.ensures

pub returns-in_default : goal.returns-in_default
unfolding filled_in
returns-in_default c =
    rw (left-next _ _ _ c.fields_of-field-items.ensures _ Clock c.loop-field-test.true, c.in_default.ensures) at c.loop-field.invariant

pub loop-field-preserved : goal.loop-field-preserved
unfolding filled_in
loop-field-preserved c =
    rw c.with_word-said.ensures (rw (left-next _ _ _ c.fields_of-field-items.ensures _ Clock c.loop-field-test.true, c.in-Some.ensures.words) at c.loop-field.invariant)

pub returns-then-is_some : goal.returns-then-is_some
unfolding filled_in
returns-then-is_some c =
    let m = some-more _ _ c.next_word-2.ensures (sym c.is_some.ensures ∙ c.if-is_some.true) in
    rw (left-none _ _ _ c.fields_of-field-items.ensures _ c.loop-field-test.false, m.2) at c.loop-field.invariant

pub returns : goal.returns
unfolding filled_in
returns c =
    let m = no_more _ _ c.next_word-2.ensures (sym c.is_some.ensures ∙ c.if-is_some.false) in
    rw (left-none _ _ _ c.fields_of-field-items.ensures _ c.loop-field-test.false, m) at c.loop-field.invariant
