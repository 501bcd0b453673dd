-- The units of the holders that are done are taken off those of the pool.
use Rattle.std.proofs.Common.{◌≡◌, ◌+◌, drop}
use Rattle.rules.specs.Pool.{held_units}
use Rattle.table.proofs.lookups.free.Given as goal

abbrev pub invariant-loop-c : goal.invariant-loop-c
invariant-loop-c l = l.units + held_units l.c-items ≡ l.t.pool + held_units (drop l.c-index l.c-items)
