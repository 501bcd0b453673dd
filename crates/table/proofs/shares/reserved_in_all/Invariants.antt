-- The sum so far and that from the place on make the whole.
use Rattle.std.proofs.Common.{◌≡◌, ◌+◌, ◌*◌, ◌≤◌}
use Rattle.rules.specs.Shares.{reserved_in_all}
use Rattle.table.proofs.Counting.{sum_from, reserved_at}
use Rattle.table.proofs.shares.reserved_in_all.Given as goal

abbrev pub invariant-loop-s : goal.invariant-loop-s
invariant-loop-s l = (l.sum ≤ l.s-index * 255) × (l.sum + sum_from (reserved_at l.shares) l.s-index ≡ reserved_in_all l.shares)
