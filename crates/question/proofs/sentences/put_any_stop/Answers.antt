-- `put_any_stop` meets its contract: nothing is laid where the load is read to its end.
use mathlib.Core.Path.{sym, ap}
use native.Mathlib.Omega.{arith}
use Rattle.numerals.proofs.Pages.{lays_as, lays_none}
use Rattle.question.specs.Told.{any_stop}
use Rattle.question.proofs.sentences.put_any_stop.Goals as goal

pub returns-in-None : goal.returns-in-None
returns-in-None c = lays_as _ _ (ap any_stop (sym c.in-None.is)) (lays_none _ (omega arith))
