-- `groups::others` meets its contract by `others-word`. Assumes nothing.
use mathlib.Core.Path.{sym}
use Prim.Native.Nat.{◌-◌}
use native.Mathlib.Omega.{arith}
use lib.Bits.{and_le_l}
use Rattle.groups.proofs.Words.{others-word}
use Rattle.groups.proofs.others.Goals as goal

pub returns-then-a-eq0 : goal.returns-then-a-eq0
returns-then-a-eq0 c = let a = c.args.a in omega (arith, others-word a c.ranges.a.fits, and_le_l a (a - 1))

pub returns : goal.returns
returns c = sym (others-word c.args.a c.ranges.a.fits)
