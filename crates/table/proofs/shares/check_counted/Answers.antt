use Rattle.std.proofs.Common.{◌≡◌, [], ◌∷◌, Some, refl, sym, ◌∙◌, arith}
use Rattle.rules.specs.Tests.{first_number, full_for, over}
use Rattle.rules.proofs.Tests.{fails-here, past}
use Rattle.table.specs.Counts.{unfilled_each, number_counted}
use Rattle.table.proofs.Counting.{unfilled_at, unfilled-step, sum-end}
use Rattle.table.proofs.shares.check_counted.Goals.{After-full_for, After-over}
use Rattle.table.proofs.shares.check_counted.Goals as goal

pub loop-i-init : goal.loop-i-init
unfolding unfilled_each
loop-i-init c = (omega arith, omega arith)

pub loop-i-preserved : goal.loop-i-preserved
loop-i-preserved c =
    let s = unfilled-step c.args.shares.now c.args.each.now c.loop-i.i (omega arith) in
    (omega arith, omega (arith, c.loop-i.invariant.1, s))

-- The tests as the rules have them.
full_is : (c : After-full_for) → c.full_for.result ≡ (full_for (Some c.args.share) c.args.own c.args.count (unfilled_each c.args.shares.now c.args.each.now)).fails
full_is c =
    let a = c.args in
    let e : c.loop-i.unfilled ≡ unfilled_each a.shares.now a.each.now = omega (arith, c.loop-i.invariant.1, sum-end (unfilled_at a.shares.now a.each.now) c.loop-i.i (omega arith) (omega arith)) in
    rw e at c.full_for.ensures

pub returns-then-full_for : goal.returns-then-full_for
unfolding number_counted
returns-then-full_for c =
    fails-here _ _ refl (sym (full_is (goal.at.returns-then-full_for c).After-full_for) ∙ c.if-full_for.true)

pub returns-then-over : goal.returns-then-over
unfolding number_counted
returns-then-over c =
    past _ _ (sym (full_is (goal.at.returns-then-over c).After-full_for) ∙ c.if-full_for.false)
    (fails-here _ [] refl (sym c.over.ensures ∙ c.if-over.true))

pub returns : goal.returns
unfolding number_counted first_number
returns c =
    past _ (over (Some c.args.share) c.args.own ∷ []) (sym (full_is (goal.at.returns c).After-full_for) ∙ c.if-full_for.false)
    (past (over (Some c.args.share) c.args.own) [] (sym c.over.ensures ∙ c.if-over.false) refl)
