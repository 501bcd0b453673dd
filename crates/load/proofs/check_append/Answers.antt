-- `load::check_append` meets its contract: the load's own number, then that of the call.
use mathlib.Core.Path.{sym}
use Rattle.load.specs.Writing.{append_number}
use Rattle.load.proofs.Answers.{or-refused, passed-on}
use Rattle.load.proofs.Reading.{load-known}
use Rattle.load.proofs.check_append.Goals as goal

pub returns-in_err-check_load : goal.returns-in_err-check_load
unfolding append_number
returns-in_err-check_load c = passed-on _ _ _ c.from_residual.ensures.1 (or-refused _ _ _ c.in_err-check_load.ensures)

pub bounds-load-0 : goal.bounds-load-0
bounds-load-0 c = (load-known _ (sym c.in_ok-check_load.ensures)).0

pub returns : goal.returns
unfolding append_number
returns c = rw (sym c.in_ok-check_load.ensures) c.check_growth.ensures
