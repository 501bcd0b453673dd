-- The table so far, with what is left of the load, gives what the whole leaves.
use native.Mathlib.Omega.{arith}
use mathlib.Core.Logic.{◌≢◌}
use mathlib.Core.Path.{refl, sym, ap, ◌∙◌}
use Rattle.std.specs.Prelude.{Ok}
use Rattle.numbers.specs.Refusals.{number_of}
use Rattle.rules.specs.Calls.{Answer}
use Rattle.load.proofs.Reading.{step-next}
use Rattle.replay.specs.Records.{ending}
use Rattle.replay.proofs.Replaying.{replay-more, replayed-end, replayed-refused, stopped-first, stopped-later}
use Rattle.replay.proofs.replay_records.Goals.{then-record-eq1, else-record-eq1, in_default-via-in-Err-act+else-ending_of-ne0, in_default-via-in_default}
use Rattle.replay.proofs.replay_records.Goals as goal

pub loop-item-smaller : goal.loop-item-smaller
loop-item-smaller c =
    let q = step-next _ _ _ _ (sym c.in-Ok-Some.ensures.0 ∙ ap Ok c.in-Ok-Some.field-0-is) in
    omega (arith, q.0, q.1)

pub loop-item-preserved : goal.loop-item-preserved
unfolding ending
loop-item-preserved c =
    let e = sym c.in-Ok-Some.ensures.0 ∙ ap Ok c.in-Ok-Some.field-0-is in
    elim c.in_default.branch [
      | in_default-via-in-Err-act+else-ending_of-ne0 w ↦
          replay-more _ _ _ _ _ c.loop-item.invariant _ _ e _ (rw c.alone_in-alone.ensures at (ap (λ (x : Answer). x.number) w.in-Err-act.ensures.answer))
          (rw w.from.ensures at (sym w.ending_of.ensures ∙ w.if-ending_of-ne0.false)) c.requires _ (rw c.alone_in-alone.ensures at c.act.ensures.table)
      | in_default-via-in_default w ↦
          replay-more _ _ _ _ _ c.loop-item.invariant _ _ e _ (rw c.alone_in-alone.ensures at (ap (λ (x : Answer). x.number) w.in_default.ensures.answer))
          refl c.requires _ (rw c.alone_in-alone.ensures at c.act.ensures.table)
    ]

pub returns-in-Err-act : goal.returns-in-Err-act
returns-in-Err-act c =
    let e = sym c.in-Ok-Some.ensures.0 ∙ ap Ok c.in-Ok-Some.field-0-is in
    let p = rw c.alone_in-alone.ensures at (ap (λ (x : Answer). x.number) c.in-Err-act.ensures.answer) in
    let h : ending c.loop-item.record (number_of c.in-Err-act.refusal) ≢ 0 = λ z. c.if-ending_of-ne0.true (c.ending_of.ensures ∙ ap (ending c.loop-item.record) c.from.ensures ∙ z) in
    elim c.if-record-eq1.branch [
      | then-record-eq1 w ↦ stopped-first _ _ _ _ _ c.loop-item.invariant _ _ e _ p w.if-record-eq1.true h _ (w.table-is ∙ w.unrigged-table-then-record-eq1.ensures)
      | else-record-eq1 w ↦ stopped-later _ _ _ _ _ c.loop-item.invariant _ _ e _ p w.if-record-eq1.false h _ (w.table-is ∙ (rw c.alone_in-alone.ensures at c.act.ensures.table))
    ]

pub returns-in-Ok-None : goal.returns-in-Ok-None
returns-in-Ok-None c = replayed-end _ _ _ _ _ c.loop-item.invariant (sym c.in-Ok-None.ensures.0 ∙ ap Ok c.in-Ok-None.field-0-is)

pub returns-in-Err : goal.returns-in-Err
returns-in-Err c = replayed-refused _ _ _ _ _ c.loop-item.invariant _ (sym c.in-Err.ensures.0)
