-- What is laid so far with what is left gives the whole: the invariant is `Turn` of Showing. The load opens, so that what the reader answers is
-- what stands there (`item-opened`).
use mathlib.Core.Path.{refl, sym, ap, ◌∙◌}
use native.Mathlib.Omega.{arith}
use Rattle.std.specs.Prelude.{Ok}
use Rattle.load.proofs.Reading.{step-next, open-known}
use Rattle.reader.proofs.Items.{item-opened}
use Rattle.load_text.proofs.Showing.{turn-start, turn_more, turn-refused, turn_end}
use Rattle.load_text.proofs.print.put_records.Goals as goal

pub bounds-load-0 : goal.bounds-load-0
bounds-load-0 c = omega (arith, (open-known _ c.requires).0)

pub loop-item-init : goal.loop-item-init
loop-item-init c = turn-start _ _ _ (omega arith)

pub overflow_add-k : goal.overflow_add-k
overflow_add-k c = let t = c.loop-item.invariant in omega (arith, t.few, t.inside)

pub loop-item-smaller : goal.loop-item-smaller
loop-item-smaller c = let q = step-next _ _ _ _ (item-opened _ _ (sym c.requires) ∙ sym c.in-Ok-Some.ensures.0 ∙ ap (λ o. Ok o) c.in-Ok-Some.field-0-is) in omega (arith, q.0, q.1)

pub loop-item-preserved : goal.loop-item-preserved
loop-item-preserved c =
    turn_more _ _ _ _ _ _ c.loop-item.invariant _ (open-known _ c.requires).2 refl _ _ (item-opened _ _ (sym c.requires) ∙ sym c.in-Ok-Some.ensures.0 ∙ ap (λ o. Ok o) c.in-Ok-Some.field-0-is) (c.put_call.ensures.laid, c.put_call.ensures.brief)

pub returns-in-Ok-None : goal.returns-in-Ok-None
returns-in-Ok-None c =
    let w = turn_end _ _ _ _ _ _ c.loop-item.invariant (item-opened _ _ (sym c.requires) ∙ sym c.in-Ok-None.ensures.0 ∙ ap (λ o. Ok o) c.in-Ok-None.field-0-is) in
    record { laid = w.0; brief = w.1 }

pub returns-in-Err : goal.returns-in-Err
returns-in-Err c =
    let w = turn-refused _ _ _ _ _ _ c.loop-item.invariant _ _ (item-opened _ _ (sym c.requires) ∙ sym c.in-Err.ensures.0) (rw c.from.ensures at c.put_stop.ensures) in
    record { laid = w.0; brief = w.1 }
