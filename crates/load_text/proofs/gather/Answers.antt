-- Line by line the page has the load of the lines so far: the invariant is `Turn`.
use mathlib.Core.Path.{◌∙◌}
use borrow.Author.Rules.{rules}
use Rattle.std.proofs.lemmas.Result.{err_from_is_err_and}
use Rattle.numerals.proofs.Pages.{lays_then}
use Rattle.load_text.proofs.Making.{gather-misread, gather-unknown, turn-start, turn_more, turn-wrong, turn_end}
use Rattle.load_text.proofs.gather.Goals as goal

pub returns-in_err-start : goal.returns-in_err-start
returns-in_err-start c =
    let p = err_from_is_err_and c.from_residual.result c.from_residual.ensures.1 in
    rw (p.1, p.2) (gather-misread _ _ c.in_err-start.ensures)

pub returns-in-Err : goal.returns-in-Err
returns-in-Err c = rw c.from.ensures (gather-unknown _ _ c.in_ok-start.ensures _ c.in-Err.ensures)

pub loop-said-init : goal.loop-said-init
loop-said-init c = turn-start _ _ _ _ c.in_ok-start.ensures c.in_default.ensures c.new-page.ensures.clean.1 c.byte.ensures

pub returns-in-Err-add : goal.returns-in-Err-add
returns-in-Err-add c =
    rw c.from-in-Err-add.ensures (turn-wrong _ _ _ _ _ _ c.loop-said.invariant _ _ c.in-Some.ensures _ c.add.new.page c.in-Err-add.ensures)

pub loop-said-preserved : goal.loop-said-preserved
loop-said-preserved c = turn_more _ _ _ _ _ _ c.loop-said.invariant _ _ c.in-Some.ensures _ c.in_default-add.ensures

pub returns : goal.returns
returns c =
    let t = c.loop-said.invariant in
    let s = (lays_then c.byte.ensures t.lays).same ∙ c.new-page.ensures.same in
    turn_end _ _ _ _ _ _ t c.in_default-next_line.ensures _ _ _ c.new-page.ensures.clean c.byte.ensures (search rules)
