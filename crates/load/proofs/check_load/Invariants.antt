use Prim.Native.Nat.{◌-◌}
use mathlib.Core.Path.{◌≡◌}
use lib.ListN.{length}
use Rattle.load.specs.Reading.{walk}
use Rattle.load.proofs.check_load.Given as goal

-- What is left to walk stops as the whole does.
abbrev pub invariant-loop-item : goal.invariant-loop-item
invariant-loop-item l = (walk l.load l.at).stop ≡ (walk l.load 1).stop

abbrev pub decreases-loop-item : goal.decreases-loop-item
decreases-loop-item l = length l.load - l.at
