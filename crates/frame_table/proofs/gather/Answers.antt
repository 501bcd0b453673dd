-- `gather` meets its contract. The loop's invariant: what is gathered so far and the claims that are left give the rivals.
use Rattle.std.proofs.Common.{sym, ◌∙◌, arith}
use Rattle.frame_table.proofs.Gathering.{gather-rival, gather-other, gather-few, gather-end, next-left}
use Rattle.frame_table.proofs.gather.Goals.{else-shares, then-shares}
use Rattle.frame_table.proofs.gather.Goals as goal

pub overflow_add-count : goal.overflow_add-count
overflow_add-count c = omega (arith, gather-few (next-left c.loop-c.invariant c.loop-c-test.true) (sym c.shares.ensures ∙ c.if-shares.true))

pub loop-c-preserved : goal.loop-c-preserved
loop-c-preserved c =
    let w = next-left c.loop-c.invariant c.loop-c-test.true in
    let s = sym c.shares.ensures in
    elim c.if-shares.branch [
      | then-shares k ↦ rw (k.rows-is, k.count-is) (gather-rival w (s ∙ k.if-shares.true) _ k.with_row-rows.ensures)
      | else-shares k ↦ rw (k.rows-is, k.count-is) (gather-other w (s ∙ k.if-shares.false))
    ]

pub returns : goal.returns
returns c = gather-end c.loop-c.invariant c.loop-c-test.false
