-- `grant` meets its contract. The first loop's invariant: the groups held so far and the claims that are left give the holders, and likewise
-- the units. The second's is `Written`: claims and tickets are done up to place i. That the test is that of the rules is `written-goes`.
use mathlib.Core.Path.{sym, ◌∙◌, ap}
use Prim.Native.Nat.{◌<◌}
use native.Mathlib.Omega.{arith}
use lib.ListN.{length}
use Rattle.plan.specs.Holders.{goes_at}
use Rattle.plan.proofs.Rows.{row_step}
use Rattle.plan.proofs.GrantingLoop.{holding-start, holding-covers, holding_on, holding_wait, holding-end, written_start, written-fewer, written-goes, written-next, written-gone, written-stay, written-end}
use Rattle.plan.proofs.granting.grant.Goals.{then-is_on, else-is_on, then-goes, else-goes}
use Rattle.plan.proofs.granting.grant.Goals as goal

pub loop-c-init : goal.loop-c-init
loop-c-init c = rw c.as_slice-c-items.ensures (holding-start c.requires.0.stock)

pub overflow_sub-free : goal.overflow_sub-free
overflow_sub-free c = holding-covers (rw (row_step c.as_slice-c-items.result.now c.loop-c.c-index (omega arith)) at c.loop-c.invariant) (sym c.is_on.ensures ∙ c.if-is_on.true)

pub loop-c-preserved : goal.loop-c-preserved
loop-c-preserved c =
    let here = rw (row_step c.as_slice-c-items.result.now c.loop-c.c-index (omega arith)) at c.loop-c.invariant in
    elim c.if-is_on.branch [
      | then-is_on w ↦ rw (w.held-is, w.free-is, w.union-held.ensures) (holding_on here (sym c.is_on.ensures ∙ w.if-is_on.true))
      | else-is_on w ↦ rw (w.held-is, w.free-is) (holding_wait here (sym c.is_on.ensures ∙ w.if-is_on.false))
    ]

pub loop-i-init : goal.loop-i-init
loop-i-init c =
    rw (c.new-tickets.ensures, ← c.as_slice-c-items.ensures) (written_start (holding-end (omega arith) c.loop-c.invariant))

pub push-requires : goal.push-requires
push-requires c = omega (arith, written-fewer c.loop-i.invariant)

pub loop-i-preserved : goal.loop-i-preserved
loop-i-preserved c =
    let w = c.loop-i.invariant in
    let h : c.loop-i.i < length c.args.pending.now = omega (arith, c.len-i-end.ensures) in
    let held = rw c.as_slice-c-items.ensures at (holding-end (omega arith) c.loop-c.invariant) in
    let e = written-goes w h c.requires.0 c.requires.1 held ∙ ap (goes_at c.args.v.clock c.loop-c.held c.loop-i.free) (sym c.get-c.ensures) ∙ sym c.goes.ensures in
    elim c.if-goes.branch [
      | then-goes k ↦ rw (k.pending-is, k.free-is, k.tickets-is, k.set.ensures, k.push.ensures)
          (written-gone w h c.requires.0 c.get-c.result _ (c.get-c.ensures ∙ written-next w h) (e ∙ k.if-goes.true) k.on_since.ensures)
      | else-goes k ↦ rw (k.pending-is, k.free-is, k.tickets-is) (written-stay w h (e ∙ k.if-goes.false))
    ]

pub returns-clause-granted : goal.returns-clause-granted
returns-clause-granted c = (written-end c.loop-i.invariant (omega arith)).0

pub returns-clause-tickets : goal.returns-clause-tickets
returns-clause-tickets c = (written-end c.loop-i.invariant (omega arith)).1
