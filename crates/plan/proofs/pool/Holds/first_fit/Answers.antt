-- `first_fit` meets its contract: what is left of the events gives the answer, and each branch is one law of proofs/FirstFit.
use Prim.Native.Nat.{◌≤◌, ◌<◌}
use native.Mathlib.Omega.{arith}
use lib.ListN.{length, get_or}
use Rattle.plan.specs.Events.{time_in}
use Rattle.plan.proofs.FirstFit.{sweep-begin, sweep-found, sweep-over, sweep-start, end-covered, sweep-open, sweep-shut}
use Rattle.plan.proofs.pool.Holds.first_fit.Goals.{Left-loop-i, then-loop-i-test+else-time_in-e, else-loop-i-test, else-used-room-via-then-used-room+else-s-length, else-used-room-via-else-used-room, then-used-room-2+else-s-length-2, else-used-room-2}
use Rattle.plan.proofs.pool.Holds.first_fit.Goals as goal

pub loop-end-init : goal.loop-end-init
loop-end-init c = rw (c.as_slice-starts.ensures.0, c.as_slice-end-items.ensures.0) (sweep-begin c.requires.1 (omega arith) c.requires.0)

-- Behind the starts before it the end is next.
end-first : (c : Left-loop-i) →
    c.loop-i.i < length c.as_slice-starts.result.now
    → time_in (get_or c.as_slice-end-items.result.now c.loop-end.end-index 0) ≤ time_in (get_or c.as_slice-starts.result.now c.loop-i.i 0)
end-first c h =
    elim c.loop-i-test.branch [ then-loop-i-test+else-time_in-e w ↦ omega (arith, w.if-time_in-e.false, w.time_in.ensures, c.time_in-e.ensures) | else-loop-i-test w ↦ absurd (omega (arith, w.loop-i-test.false)) ]

pub returns-then-s-length : goal.returns-then-s-length
returns-then-s-length c =
    rw (← c.as_slice-starts.ensures.0, ← c.as_slice-end-items.ensures.0)
    (sweep-found c.loop-i.invariant (time_in (get_or c.as_slice-starts.result.now c.loop-i.i 0)) (omega arith)
    (omega (arith, c.time_in-then-used-room.ensures)) (λ h. omega arith))

pub loop-i-preserved : goal.loop-i-preserved
loop-i-preserved c =
    rw c.units_in-used.ensures.0
    (sweep-start c.loop-i.invariant (omega arith) (omega (arith, c.time_in.ensures, c.time_in-e.ensures)) (omega arith)
    (λ o. elim c.else-used-room.branch [ else-used-room-via-then-used-room+else-s-length w ↦ omega (arith, w.if-s-length.false, w.time_in-then-used-room.ensures) | else-used-room-via-else-used-room w ↦ absurd (omega (arith, w.if-used-room.false)) ]))

pub returns-then-s-length-2 : goal.returns-then-s-length-2
returns-then-s-length-2 c =
    rw (← c.as_slice-starts.ensures.0, ← c.as_slice-end-items.ensures.0)
    (sweep-found c.loop-i.invariant (time_in (get_or c.as_slice-end-items.result.now c.loop-end.end-index 0)) (omega arith)
    (omega (arith, c.time_in-e.ensures)) (end-first (goal.at.returns-then-s-length-2 c).Left-loop-i))

pub overflow_sub-used : goal.overflow_sub-used
overflow_sub-used c =
    omega (arith, c.units_in-used-in-loop-end.ensures, end-covered c.loop-i.invariant (omega arith) (end-first (goal.at.overflow_sub-used c).Left-loop-i))

pub loop-end-preserved : goal.loop-end-preserved
loop-end-preserved c =
    let first = end-first (goal.at.loop-end-preserved c).Left-loop-i in
    elim c.if-used-room-2.branch [
      | then-used-room-2+else-s-length-2 w ↦ rw (w.s-is, c.units_in-used-in-loop-end.ensures.0) (sweep-open c.loop-i.invariant (omega arith) first w.if-used-room-2.true)
      | else-used-room-2 w ↦ rw (w.s-is, w.max-s.ensures, c.units_in-used-in-loop-end.ensures.0, c.time_in-e.ensures.0)
          (sweep-shut c.loop-i.invariant (omega arith) first (omega arith) w.if-used-room-2.false (omega (arith, c.time_in-e.ensures)))
    ]

pub returns : goal.returns
returns c = rw (← c.as_slice-starts.ensures.0, ← c.as_slice-end-items.ensures.0) (sweep-over c.loop-end.invariant c.loop-end-test.false)
