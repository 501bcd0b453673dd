-- `load::check_load` meets its contract: what is left to walk from the position on stops as the whole does.
use native.Mathlib.Omega.{arith}
use mathlib.Core.Path.{sym, ap, ◌∙◌}
use Rattle.std.specs.Prelude.{Ok}
use Rattle.load.specs.Reading.{load_number}
use Rattle.load.proofs.Answers.{or-refused, passed-on}
use Rattle.load.proofs.Reading.{step-next, walk-record, walk_end, walk_refused}
use Rattle.load.proofs.check_load.Goals as goal

pub returns-in_err-check_open : goal.returns-in_err-check_open
unfolding load_number
returns-in_err-check_open c = passed-on _ _ _ c.from_residual.ensures.1 (or-refused _ _ _ c.in_err-check_open.ensures)

pub returns-in_err-item : goal.returns-in_err-item
unfolding load_number
returns-in_err-item c =
    passed-on _ _ _ c.from_residual-in_err-item.ensures.1
    (rw (sym c.in_ok-check_open.ensures) (rw (walk_refused _ _ _ (sym c.in_err-item.ensures.0)) at c.loop-item.invariant))

pub loop-item-smaller : goal.loop-item-smaller
loop-item-smaller c = let q = step-next _ _ _ _ (sym c.in_ok-item.ensures.0 ∙ ap Ok c.in-Some.is) in omega (arith, q.0, q.1)

pub loop-item-preserved : goal.loop-item-preserved
loop-item-preserved c = rw (walk-record _ _ _ _ (sym c.in_ok-item.ensures.0 ∙ ap Ok c.in-Some.is)) at c.loop-item.invariant

pub returns : goal.returns
unfolding load_number
returns c = rw (sym c.in_ok-check_open.ensures) (rw (walk_end _ _ (sym c.in_ok-item.ensures.0 ∙ ap Ok c.in_default.is)) at c.loop-item.invariant)
