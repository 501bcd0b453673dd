-- `placing::place` meets its contract: the start is the planned one on either branch. That nothing wraps follows from the size of the whole,
-- of proofs/Ranges.
use mathlib.Core.Path.{◌≡◌, ◌∙◌}
use Prim.Native.Nat.{◌+◌, ◌-◌, ◌*◌, ◌≤◌}
use native.Mathlib.Omega.{arith}
use Rattle.rules.specs.Placing.{place, contention, start_bound}
use Rattle.plan.specs.Bounds.{most_start}
use Rattle.plan.proofs.PlacingLoop.{rivals-told, reply-as, entered-as}
use Rattle.plan.proofs.Ranges.{bound-small}
use Rattle.plan.proofs.placing.place.Goals.{Joined-w-eq0, then-w-eq0, else-w-eq0}
use Rattle.plan.proofs.placing.place.Goals as goal

-- What is counted, and that the bound is small.
whole : (c : Joined-w-eq0) →
    let a = c.args in
    let r = c.rivals_of-rivals.result in
    (r.count ≡ contention a.pending.now a.w)
    × (a.v.clock + r.time + r.count * (a.w.length - 1) ≡ start_bound a.v a.pending.now a.w)
    × (start_bound a.v a.pending.now a.w ≤ most_start)
whole c =
    let e = rivals-told (rw c.as_slice-claims.ensures at c.rivals_of-rivals.ensures) in
    (e.0, e.1, bound-small _ _ _ c.requires.0 c.requires.1)

start_is : (c : Joined-w-eq0) → c.if-w-eq0.start ≡ place c.args.v c.args.pending.now c.args.w
start_is c =
    elim c.if-w-eq0.branch [
      | then-w-eq0 k ↦ k.start-is ∙ rw c.as_slice-claims.ensures at k.start_beside-start.ensures
      | else-w-eq0 k ↦ k.start-is ∙ rw c.as_slice-claims.ensures at k.start_with_units-start.ensures
    ]

pub overflow_add-result : goal.overflow_add-result
overflow_add-result c = omega (arith, whole (goal.at.overflow_add-result c).Joined-w-eq0)

pub overflow_mul-result : goal.overflow_mul-result
overflow_mul-result c = rw c.from-rest.ensures (omega (arith, whole (goal.at.overflow_mul-result c).Joined-w-eq0))

pub overflow_add-result-2 : goal.overflow_add-result-2
overflow_add-result-2 c = rw c.from-rest.ensures (omega (arith, whole (goal.at.overflow_add-result-2 c).Joined-w-eq0))

pub returns-clause-claims : goal.returns-clause-claims
returns-clause-claims c =
    rw c.waiting_from.ensures at c.push.ensures ∙ entered-as c.args.v c.args.w c.args.pending.now (start_is (goal.at.returns-clause-claims c).Joined-w-eq0)

pub returns-clause-reply : goal.returns-clause-reply
returns-clause-reply c =
    let j = (goal.at.returns-clause-reply c).Joined-w-eq0 in
    rw c.from-rest.ensures (reply-as _ _ _ (start_is j) (whole j).0 (whole j).1)
