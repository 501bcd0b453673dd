use Rattle.std.proofs.Common.{◌≡◌, sym, ◌∙◌, ap, subst}
use Rattle.std.proofs.lemmas.Result.{err_from_is_err_and}
use Rattle.rules.specs.Invariants.{Still}
use Rattle.rules.specs.Calls.{Model, clock, plain, finish, step}
use Rattle.table.specs.Valid.{Ranged}
use Rattle.table.specs.States.{model}
use Rattle.table.proofs.Ranged.{advance-ranged}
use Rattle.table.proofs.Steps.{refused-answer, refused-model, time-ok, clock-fails, clock-accepts, advanced-still, accepted-answer, accepted-model, accepted-valid}
use Rattle.table.proofs.table.Table.clock.Goals.{After-at_clock}
use Rattle.table.proofs.table.Table.clock.Goals as goal

pub returns-in_err-check_time-clause-answer : goal.returns-in_err-check_time-clause-answer
returns-in_err-check_time-clause-answer c =
    let m = model c.self.inside.state in
    let p = err_from_is_err_and c.from_residual.result c.from_residual.ensures.1 in
    rw (p.1, p.2) (refused-answer m _ c.self.view_is (clock c.args.clock) _ (clock-fails m c.args.clock _ c.in_err-check_time.ensures))

pub returns-in_err-check_time-clause-table : goal.returns-in_err-check_time-clause-table
returns-in_err-check_time-clause-table c =
    let m = model c.self.inside.state in
    refused-model m _ c.self.view_is (clock c.args.clock) _ (clock-fails m c.args.clock _ c.in_err-check_time.ensures)

pub at_clock-requires-clause-later : goal.at_clock-requires-clause-later
at_clock-requires-clause-later c = (time-ok (model c.self.inside.state) c.args.clock c.in_ok-check_time.ensures).later

pub at_clock-requires-clause-early : goal.at_clock-requires-clause-early
at_clock-requires-clause-early c = (time-ok (model c.self.inside.state) c.args.clock c.in_ok-check_time.ensures).early

pub finished-requires-clause-ranged : goal.finished-requires-clause-ranged
finished-requires-clause-ranged c =
    let m = model c.self.inside.state in
    let o = time-ok m c.args.clock c.in_ok-check_time.ensures in
    subst Ranged (sym c.at_clock.ensures) (advance-ranged m c.args.clock c.self.invariant.ranged o.later o.early)

pub finished-requires-clause-still : goal.finished-requires-clause-still
finished-requires-clause-still c = subst Still (sym c.at_clock.ensures) (advanced-still (model c.self.inside.state) c.args.clock c.self.invariant.ranged)

-- What is finished is the step.
step_is : (c : After-at_clock) → finish (model c.at_clock.new.t) (plain 0 c.args.clock) ≡ step (model c.self.inside.state) (clock c.args.clock)
step_is c =
    ap (λ (n : Model). finish n (plain 0 c.args.clock)) c.at_clock.ensures ∙ clock-accepts (model c.self.inside.state) c.args.clock c.in_ok-check_time.ensures

pub invariant_of-self : goal.invariant_of-self
invariant_of-self c =
    accepted-valid (model c.self.inside.state) _ c.self.view_is (clock c.args.clock) _ (step_is (goal.at.invariant_of-self c).After-at_clock) c.self.invariant c.finished.ensures.table

pub returns-clause-answer : goal.returns-clause-answer
returns-clause-answer c =
    accepted-answer (model c.self.inside.state) _ c.self.view_is (clock c.args.clock) _ (step_is (goal.at.returns-clause-answer c).After-at_clock) c.finished.ensures.answer

pub returns-clause-table : goal.returns-clause-table
returns-clause-table c =
    accepted-model (model c.self.inside.state) _ c.self.view_is (clock c.args.clock) _ (step_is (goal.at.returns-clause-table c).After-at_clock) c.finished.ensures.table
