-- `head_tickets` meets its contract: the tickets found so far and those of the claims behind are those of the head row.
use Rattle.std.proofs.Common.{refl, sym, ◌∙◌}
use Rattle.frame_table.proofs.Releasing.{grant-more, grant-few, grant-none, grant-end}
use Rattle.frame_table.proofs.head_tickets.Goals.{else-is_on, then-is_on}
use Rattle.frame_table.proofs.head_tickets.Goals as goal

pub push-requires : goal.push-requires
push-requires c = grant-few _ _ _ c.loop-c.invariant c.loop-c-test.true _ refl (sym c.is_on.ensures ∙ c.if-is_on.true) c.requires

pub loop-c-preserved : goal.loop-c-preserved
loop-c-preserved c =
    let o = sym c.is_on.ensures in
    elim c.if-is_on.branch [
      | then-is_on w ↦ rw (w.grants-is, w.push.ensures) (grant-more _ _ _ c.loop-c.invariant c.loop-c-test.true _ refl (o ∙ w.if-is_on.true))
      | else-is_on w ↦ rw w.grants-is (grant-none _ _ _ c.loop-c.invariant c.loop-c-test.true _ refl (o ∙ w.if-is_on.false))
    ]

pub returns : goal.returns
returns c = grant-end _ _ _ c.loop-c.invariant c.loop-c-test.false
