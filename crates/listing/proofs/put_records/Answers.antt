-- A turn for each record, up to the end or the record that stops.
use native.Mathlib.Omega.{arith}
use mathlib.Core.Path.{sym, ap, ◌∙◌}
use Rattle.std.specs.Prelude.{Ok}
use Rattle.load.proofs.Reading.{step-next}
use Rattle.replay.specs.Records.{ending}
use Rattle.listing.proofs.RecordLoop.{turn-start, turn_more, run_end, run-refused, run-stop}
use Rattle.listing.proofs.put_records.Goals as goal

pub loop-item-init : goal.loop-item-init
loop-item-init c = turn-start _ _ _ _ (omega arith) c.unrigged-table.ensures

pub loop-item-smaller : goal.loop-item-smaller
loop-item-smaller c =
    let q = step-next _ _ _ _ (sym c.in-Ok-Some.ensures.0 ∙ ap Ok c.in-Ok-Some.field-0-is) in
    omega (arith, q.0, q.1)

pub loop-item-preserved : goal.loop-item-preserved
loop-item-preserved c =
    let e = sym c.in-Ok-Some.ensures.0 ∙ ap Ok c.in-Ok-Some.field-0-is in
    turn_more _ _ _ _ _ _ _ c.loop-item.invariant _ _ e _ (rw c.alone_in-alone.ensures at c.act-answer.ensures.answer) _ (c.ending_of-stop.ensures ∙ ap (ending c.loop-item.k) c.number.ensures)
    c.if-stop-ne0.false c.requires _ (rw c.alone_in-alone.ensures at c.act-answer.ensures.table) _ c.now.ensures _ c.put_entry.ensures

pub returns-then-stop-ne0 : goal.returns-then-stop-ne0
returns-then-stop-ne0 c =
    let e = sym c.in-Ok-Some.ensures.0 ∙ ap Ok c.in-Ok-Some.field-0-is in
    run-stop _ _ _ _ _ _ _ c.loop-item.invariant _ _ e _ (rw c.alone_in-alone.ensures at c.act-answer.ensures.answer) _ (c.ending_of-stop.ensures ∙ ap (ending c.loop-item.k) c.number.ensures)
    _ c.if-stop-ne0.true c.put_stop.ensures

pub returns-in-Ok-None : goal.returns-in-Ok-None
returns-in-Ok-None c = run_end _ _ _ _ _ _ _ c.loop-item.invariant (sym c.in-Ok-None.ensures.0 ∙ ap Ok c.in-Ok-None.field-0-is)

pub returns-in-Err : goal.returns-in-Err
returns-in-Err c = run-refused _ _ _ _ _ _ _ c.loop-item.invariant _ _ (sym c.in-Err.ensures.0) (rw c.from.ensures at c.put_stop-in-Err.ensures)
