-- `release` meets its contract: the tests decide whether it is refused, and the place that they find is taken away.
use Rattle.std.proofs.Common.{sym, ap}
use Rattle.std.proofs.lemmas.Result.{err_from_is_err_and}
use Rattle.frames.specs.Calls.{Step}
use Rattle.frame_table.proofs.Steps.{step-refused, released-valid, released-table, released-answer}
use Rattle.frame_table.proofs.Table.release.Goals as goal

pub returns-in_err-place-clause-table : goal.returns-in_err-place-clause-table
returns-in_err-place-clause-table c = sym (ap (λ (s : Step). s.model) (step-refused _ _ _ c.in_err-place.ensures.number))

pub returns-in_err-place-clause-answer : goal.returns-in_err-place-clause-answer
returns-in_err-place-clause-answer c =
    let p = err_from_is_err_and c.from_residual.result c.from_residual.ensures.1 in
    rw (p.1, p.2) (sym (ap (λ (s : Step). s.answer) (step-refused _ _ _ c.in_err-place.ensures.number)))

pub invariant_of-self : goal.invariant_of-self
invariant_of-self c =
    let p = c.in_ok-place.ensures in
    let t = c.turn-grants.ensures in
    released-valid _ _ c.self.view_is c.self.invariant _ _ p.number p.place.1 _ _ _ c.remove.ensures t.pending t.grants

pub returns-clause-table : goal.returns-clause-table
returns-clause-table c =
    let p = c.in_ok-place.ensures in
    let t = c.turn-grants.ensures in
    released-table _ _ c.self.view_is c.self.invariant _ _ p.number p.place.1 _ _ _ c.remove.ensures t.pending t.grants

pub returns-clause-answer : goal.returns-clause-answer
returns-clause-answer c =
    let p = c.in_ok-place.ensures in
    let t = c.turn-grants.ensures in
    released-answer _ _ c.self.view_is c.self.invariant _ _ p.number p.place.1 _ _ _ c.remove.ensures t.pending t.grants
