use Rattle.std.proofs.Common.{arith}
use Rattle.rules.specs.Shares.{reserved_in_all}
use Rattle.table.proofs.Counting.{reserved_at, reserved-step, sum-end}
use Rattle.table.proofs.shares.reserved_in_all.Goals as goal

pub loop-s-init : goal.loop-s-init
unfolding reserved_in_all
loop-s-init c = (omega arith, omega arith)

pub loop-s-preserved : goal.loop-s-preserved
loop-s-preserved c =
    let s = reserved-step c.args.shares.now c.loop-s.s-index (omega arith) in
    (omega arith, omega (arith, c.loop-s.invariant.1, s))

pub returns : goal.returns
returns c = omega (arith, c.loop-s.invariant.1, sum-end (reserved_at c.args.shares.now) c.loop-s.s-index (omega arith) (omega arith))
