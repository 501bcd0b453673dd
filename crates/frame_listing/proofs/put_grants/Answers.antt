-- `put_grants` meets its contract: the lines laid so far, with those left, are all of them.
use Rattle.std.proofs.Common.{refl, ap, arith}
use Rattle.std.proofs.lemmas.List.{drop_all}
use Rattle.numerals.proofs.Pages.{laying-start, laying-more, laying-end, left_at}
use Rattle.frame_listing.specs.Lines.{on_lines}
use Rattle.frame_listing.proofs.put_grants.Goals as goal

pub loop-ticket-init : goal.loop-ticket-init
loop-ticket-init c = laying-start (omega arith) refl

pub loop-ticket-preserved : goal.loop-ticket-preserved
unfolding on_lines
loop-ticket-preserved c =
    let l = c.loop-ticket in
    laying-more _ _ l.invariant (ap on_lines (left_at c.args.grants.now l.ticket-index c.loop-ticket-test.true)) c.put_grant.ensures

pub returns : goal.returns
unfolding on_lines
returns c = laying-end c.loop-ticket.invariant (ap on_lines (drop_all _ _ c.loop-ticket-test.false))
