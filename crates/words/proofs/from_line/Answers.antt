-- `words::from_line` meets its contract: the lines left have the one that is looked for (`Passes`), and are the last of the text.
use mathlib.Core.Path.{refl}
use native.Mathlib.Omega.{arith}
use Rattle.words.proofs.Lines.{pass-out, pass-next, pass-end, last_all, last-behind}
use Rattle.words.proofs.from_line.Goals as goal

pub loop-init : goal.loop-init
loop-init c = (record { is = refl }, last_all _)

pub returns-in_default : goal.returns-in_default
returns-in_default c = record { lines = pass-out _ _ _ _ c.loop.invariant.0 c.in_default.ensures; last = c.loop.invariant.1 }

pub loop-preserved : goal.loop-preserved
loop-preserved c =
    (pass-next _ _ _ _ c.loop.invariant.0 _ _ c.in-Some.ensures c.loop-test.true, last-behind _ _ _ _ c.loop.invariant.1 c.in-Some.ensures)

pub returns : goal.returns
returns c = record { lines = pass-end _ _ _ _ c.loop.invariant.0 (omega arith); last = c.loop.invariant.1 }
