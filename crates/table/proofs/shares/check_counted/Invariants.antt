-- The sum so far and that from the place on make the whole.
use Rattle.std.proofs.Common.{◌≡◌, ◌+◌, ◌*◌, ◌≤◌}
use Rattle.table.specs.Counts.{unfilled_each}
use Rattle.table.proofs.Counting.{sum_from, unfilled_at}
use Rattle.table.proofs.shares.check_counted.Given as goal

abbrev pub invariant-loop-i : goal.invariant-loop-i
invariant-loop-i l =
    (l.unfilled ≤ l.i * 255) × (l.unfilled + sum_from (unfilled_at l.shares l.each) l.i ≡ unfilled_each l.shares l.each)
