use Rattle.std.proofs.Common.{◌≡◌, cond, Some, None, arith, rules}
use Rattle.rules.specs.Shares.{share}
use Rattle.table.proofs.Steps.{blank-valid}
use Rattle.table.proofs.table.Table.blank.Goals.{After-then_some-first}
use Rattle.table.proofs.table.Table.blank.Goals as goal

first_is : (c : After-then_some-first) → c.then_some-first.result ≡ cond c.args.alone (Some (share 64 64)) None
first_is c = search rules

pub invariant_of-result : goal.invariant_of-result
invariant_of-result c =
    let a = c.args in
    rw (first_is (goal.at.invariant_of-result c).After-then_some-first, c.new.ensures) (blank-valid a.rig a.pool a.alone (omega (arith, c.ranges.pool.fits)))

pub returns-clause-valid : goal.returns-clause-valid
returns-clause-valid c =
    let a = c.args in
    rw (first_is (goal.at.returns-clause-valid c).After-then_some-first, c.new.ensures) (blank-valid a.rig a.pool a.alone (omega (arith, c.ranges.pool.fits)))
