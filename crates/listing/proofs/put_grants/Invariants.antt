-- What is laid so far, with what is left, is the whole.
use Rattle.std.proofs.Common.{drop}
use Rattle.numerals.proofs.Pages.{Laying}
use Rattle.listing.specs.Lines.{on_lines}
use Rattle.listing.proofs.put_grants.Given as goal

abbrev pub invariant-loop-ticket : goal.invariant-loop-ticket
invariant-loop-ticket l = Laying l.fn.page (on_lines l.clock l.grants) l.page (on_lines l.clock (drop l.ticket-index l.grants))
