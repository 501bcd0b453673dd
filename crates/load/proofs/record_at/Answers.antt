-- `load::record_at` meets its contract: each test of `item_at` in its order, then the record.
use native.Mathlib.Omega.{arith}
use mathlib.Core.Path.{sym, ◌∙◌}
use Rattle.load.proofs.Reading.{step_past, with_values, step-short, step-misfit, step-record, misfit-empty}
use Rattle.load.proofs.record_at.Goals as goal

pub returns-then-n-eq0 : goal.returns-then-n-eq0
returns-then-n-eq0 c =
    with_values _ _ _ (step-misfit _ _ _ (c.from-n.ensures ∙ c.be16.ensures) (omega (arith, c.if-left-n.false, c.if-left-lt2.false)) (misfit-empty _ _ _ _ _ c.if-n-eq0.true))

pub returns-then-misfits : goal.returns-then-misfits
returns-then-misfits c =
    with_values _ _ _ (step-misfit _ _ _ (c.from-n.ensures ∙ c.be16.ensures) (omega (arith, c.if-left-n.false, c.if-left-lt2.false)) (sym c.misfits.ensures ∙ c.if-misfits.true))

pub returns : goal.returns
returns c =
    let f = sym c.misfits.ensures ∙ c.if-misfits.false in
    with_values _ _ _ (step-record _ _ _ (c.from-n.ensures ∙ c.be16.ensures) (omega (arith, c.if-left-n.false, c.if-left-lt2.false)) _ f c.call_of-call.ensures)

pub returns-then-size-at : goal.returns-then-size-at
returns-then-size-at c = with_values _ _ _ (sym (step_past _ _ c.if-size-at.true))

pub returns-then-left-lt2 : goal.returns-then-left-lt2
returns-then-left-lt2 c = with_values _ _ _ (step-short _ _ c.if-size-at.false (omega (arith, c.if-left-lt2.true)))

pub returns-then-left-n : goal.returns-then-left-n
returns-then-left-n c = with_values _ _ _ (step-short _ _ c.if-size-at.false (omega (arith, c.if-left-n.true, (c.from-n.ensures ∙ c.be16.ensures), c.if-left-lt2.false)))
