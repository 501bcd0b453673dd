-- `placing::rivals_of` meets its contract: claim by claim it counts the rivals and their time (`Counted`) and keeps their places
-- (`RivalsBelow`). That no sum wraps follows from the size of the whole, of proofs/Ranges.
use mathlib.Core.Path.{sym, ◌∙◌}
use native.Mathlib.Omega.{arith}
use Rattle.plan.proofs.Rows.{row_sized, row_small, left-start, left-next, left_end}
use Rattle.plan.proofs.PlacingLoop.{rivals-start, rivals-more, rivals-other, rivals_all, count_none, count-rival, count-other, counted-all}
use Rattle.plan.proofs.Ranges.{remaining-short}
use Rattle.plan.proofs.placing.rivals_of.Goals.{then-shares, else-shares}
use Rattle.plan.proofs.placing.rivals_of.Goals as goal

pub loop-i-init : goal.loop-i-init
loop-i-init c = record { counted = left-start c.requires (count_none _ c.requires); places = rivals-start _ _ }

pub time_left-requires : goal.time_left-requires
time_left-requires c = (row_small c.requires _ c.loop-i-test.true, c.requires.timely)

pub overflow_add-rivals-then-shares : goal.overflow_add-rivals-then-shares
overflow_add-rivals-then-shares c =
    let row = c.requires in
    omega (arith, c.loop-i.invariant.counted.holds, c.time_left.ensures, remaining-short c.args.v _ row.lenient (row_sized row c.loop-i.i c.loop-i-test.true))

pub loop-i-preserved : goal.loop-i-preserved
loop-i-preserved c =
    let l = c.loop-i.invariant in
    let turn = c.loop-i-test.true in
    elim c.if-shares.branch [
      | then-shares k ↦ let e = sym c.shares.ensures ∙ k.if-shares.true in rw (k.rivals-is, k.time_left.ensures, k.union.ensures, k.only.ensures) (record {
        counted = left-next l.counted turn (λ h. count-rival h e);
        places = rivals-more _ _ l.places;
      })
      | else-shares k ↦ let e = sym c.shares.ensures ∙ k.if-shares.false in rw k.rivals-is (record {
        counted = left-next l.counted turn (λ h. count-other h e);
        places = rivals-other _ _ l.places e;
      })
    ]

pub returns : goal.returns
returns c =
    let l = c.loop-i.invariant in
    counted-all (left_end l.counted c.loop-i-test.false) (rivals_all _ _ c.loop-i-test.false l.counted.within l.places)
