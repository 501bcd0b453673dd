-- `put_chain` meets its contract: the tickets laid so far, with those left, are all of them.
use mathlib.Core.List.{[]}
use mathlib.Core.Path.{refl, sym, ap, ◌∙◌}
use native.Mathlib.Omega.{arith}
use Rattle.std.proofs.lemmas.List.{append-nil}
use Rattle.numerals.proofs.Pages.{lays_as, lays_none, laying-start, laying-more, laying-end}
use Rattle.question.specs.Told.{start_told, tickets_told}
use Rattle.question.proofs.Told.{told_nothing, first_links, told_more, told-last, start-told}
use Rattle.question.proofs.sentences.put_chain.Goals as goal

pub returns-in_default : goal.returns-in_default
returns-in_default c = lays_as _ _ (told_nothing _ _ _ c.in_default.len_below) (lays_none _ (omega arith))

pub loop-link-init : goal.loop-link-init
loop-link-init c = laying-start (omega arith) (ap (tickets_told (start_told c.args.table.now.pending) 0) (first_links _ c.in-len1-up.len_at_least))

pub loop-link-preserved : goal.loop-link-preserved
loop-link-preserved c =
    let starts = start-told c.args.table.now.pending _ _ _ c.lookup.ensures.0 c.start_of-end.ensures in
    laying-more _ _ c.loop-link.invariant (told_more _ _ _ _ _ c.loop-link-test.true _ starts) c.put_waits.ensures

pub returns : goal.returns
returns c =
    laying-end (laying-more _ [] c.loop-link.invariant (told-last _ _ _ _ _ c.loop-link-test.false ∙ sym (append-nil _)) c.put_holds.ensures) refl
