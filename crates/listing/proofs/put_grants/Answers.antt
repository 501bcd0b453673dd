use Rattle.std.proofs.Common.{refl, ap, arith}
use Rattle.std.proofs.lemmas.List.{drop_all}
use Rattle.numerals.proofs.Pages.{laying-start, laying-more, laying-end, left_at}
use Rattle.listing.specs.Lines.{on_lines}
use Rattle.listing.proofs.put_grants.Goals as goal

pub loop-ticket-init : goal.loop-ticket-init
loop-ticket-init c = laying-start (omega arith) refl

pub loop-ticket-preserved : goal.loop-ticket-preserved
unfolding on_lines
loop-ticket-preserved c =
    laying-more _ _ c.loop-ticket.invariant (ap (on_lines c.args.clock) (left_at c.args.grants.now c.loop-ticket.ticket-index c.loop-ticket-test.true)) c.put_grant.ensures

pub returns : goal.returns
unfolding on_lines
returns c = laying-end c.loop-ticket.invariant (ap (on_lines c.args.clock) (drop_all _ _ c.loop-ticket-test.false))
