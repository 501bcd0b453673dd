-- What is laid so far, with what is left, is the whole.
use Rattle.std.proofs.Common.{◌∷◌, drop}
use Rattle.numerals.proofs.Pages.{Laying}
use Rattle.question.specs.Told.{start_told, tickets_told}
use Rattle.question.proofs.sentences.put_chain.Given as goal

abbrev pub invariant-loop-link : goal.invariant-loop-link
invariant-loop-link l =
    Laying l.fn.page (tickets_told (start_told l.table.pending) 0 l.tickets) l.page (tickets_told (start_told l.table.pending) l.end (l.ticket ∷ drop l.link-index l.links))
