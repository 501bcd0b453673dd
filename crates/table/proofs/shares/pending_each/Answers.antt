use Rattle.std.proofs.Common.{◌∷◌, ◌≤◌, ◌+◌, length, drop, get_or, sym, ap, arith}
use Rattle.std.proofs.lemmas.List.{drop_all, length-map}
use Rattle.numbers.specs.Numbers.{most_clients}
use Rattle.rules.specs.declared.Claim.{Claim}
use Rattle.rules.specs.Vacant.{vacant}
use Rattle.rules.specs.Calls.{clients_of}
use Rattle.rules.proofs.Lists.{map-i}
use Rattle.rules.proofs.Shares.{declared-range}
use Rattle.plan.proofs.Rows.{row_step}
use Rattle.rules.proofs.Places.{at-place}
use Rattle.table.proofs.Counting.{Counting, counting-start, counting-small, counting_more, counting-end}
use Rattle.table.proofs.shares.pending_each.Goals.{In-loop-c}
use Rattle.table.proofs.shares.pending_each.Goals as goal

pub loop-c-init : goal.loop-c-init
loop-c-init c = counting-start _

-- The client of the claim at hand is one from 1 to 8.
range : (c : In-loop-c) →
    let d = get_or c.as_slice-c-items.result.now c.loop-c.c-index vacant in
    (1 ≤ d.client) × (d.client ≤ most_clients)
range c =
    let v = c.requires in
    let m = at-place vacant c.as_slice-c-items.result.now c.loop-c.c-index (omega arith) in
    declared-range _ v.booked.eight _ (v.booked.known _ (rw (ap clients_of (sym c.as_slice-c-items.ensures)) (map-i (λ (x : Claim). x.client) m)))

here : (c : In-loop-c) →
    let l = c.as_slice-c-items.result.now in
    let i = c.loop-c.c-index in
    Counting (clients_of l) (get_or l i vacant ∷ drop (i + 1) l) c.loop-c.each
here c = rw (row_step c.as_slice-c-items.result.now c.loop-c.c-index (omega arith)) at c.loop-c.invariant

pub overflow_add-each : goal.overflow_add-each
overflow_add-each c =
    let r = range (goal.at.overflow_add-each c).In-loop-c in
    let l = c.as_slice-c-items.result.now in
    rw c.from.ensures (omega (arith, counting-small (here (goal.at.overflow_add-each c).In-loop-c) r.0 r.1, length-map l (λ (x : Claim). x.client), c.requires.ranged.ranges.few, ap length c.as_slice-c-items.ensures))

pub loop-c-preserved : goal.loop-c-preserved
loop-c-preserved c = let r = range (goal.at.loop-c-preserved c).In-loop-c in rw c.from.ensures (counting_more (here (goal.at.loop-c-preserved c).In-loop-c) r.0 r.1)

pub returns : goal.returns
returns c =
    let l = c.as_slice-c-items.result.now in
    rw (sym c.as_slice-c-items.ensures) (counting-end (rw (drop_all c.loop-c.c-index l c.loop-c-test.false) at c.loop-c.invariant))

pub overflow_sub-c : goal.overflow_sub-c
overflow_sub-c c = (range (goal.at.overflow_sub-c c).In-loop-c).0

pub bounds-each-from : goal.bounds-each-from
bounds-each-from c = let r = range (goal.at.bounds-each-from c).In-loop-c in omega (arith, r.0, r.1, c.from.ensures)

pub bounds-each-from-in-loop-c : goal.bounds-each-from-in-loop-c
bounds-each-from-in-loop-c c = let r = range (goal.at.bounds-each-from-in-loop-c c).In-loop-c in omega (arith, r.0, r.1, c.from.ensures)
