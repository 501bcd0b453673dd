use Rattle.std.proofs.Common.{◌≡◌, ℕ, sym, ◌∙◌, ap, subst, arith}
use Rattle.std.proofs.lemmas.Result.{err_from_is_err_and}
use Rattle.rules.specs.Invariants.{Still}
use Rattle.numbers.specs.Refusals.{number_of}
use Rattle.rules.specs.Tests.{first_number}
use Rattle.rules.specs.Calls.{Model, plain, advance, remove, finish, step, tests}
use Rattle.rules.proofs.Calls.{Clocked}
use Rattle.table.specs.Valid.{Ranged}
use Rattle.table.specs.Outcomes.{departed, phase_number, leaving}
use Rattle.table.specs.States.{model}
use Rattle.table.proofs.Ranged.{advance-ranged, remove-ranged}
use Rattle.table.proofs.Steps.{refused-answer, refused-model, time-ok, leave-fails, leave-tests, departed-ranged, departed-clock, leave-accepts, advanced-still, accepted-answer, accepted-model, accepted-valid}
use Rattle.table.proofs.table.Table.leave.Goals.{In_ok-check_time, In_err-check_phase, After-pulled}
use Rattle.table.proofs.table.Table.leave.Goals as goal

pub returns-in_err-check_time-clause-answer : goal.returns-in_err-check_time-clause-answer
returns-in_err-check_time-clause-answer c =
    let a = c.args in
    let m = model c.self.inside.state in
    let p = err_from_is_err_and c.from_residual.result c.from_residual.ensures.1 in
    rw (p.1, p.2) (refused-answer m _ c.self.view_is (leaving a.releasing a.clock a.ticket) _ (leave-fails m a.releasing a.clock a.ticket _ c.in_err-check_time.ensures))

pub returns-in_err-check_time-clause-table : goal.returns-in_err-check_time-clause-table
returns-in_err-check_time-clause-table c =
    let a = c.args in
    let m = model c.self.inside.state in
    refused-model m _ c.self.view_is (leaving a.releasing a.clock a.ticket) _ (leave-fails m a.releasing a.clock a.ticket _ c.in_err-check_time.ensures)

-- What the phase decides.
refused : (c : In_err-check_phase) →
    let a = c.args in number_of c.in_err-check_phase.field-0.0 ≡ first_number (tests (model c.self.inside.state) (leaving a.releasing a.clock a.ticket))
refused c =
    let a = c.args in
    leave-tests (model c.self.inside.state) a.releasing a.clock a.ticket c.self.invariant.ranged.ranges.ascending c.in_ok-check_time.ensures (c.in_err-check_phase.ensures ∙ ap (phase_number a.releasing) c.lookup-standing.ensures)

pub returns-in_err-check_phase-clause-answer : goal.returns-in_err-check_phase-clause-answer
returns-in_err-check_phase-clause-answer c =
    let a = c.args in
    let r = c.from_residual-in_err-check_phase in
    let p = err_from_is_err_and r.result r.ensures.1 in
    rw (p.1, p.2) (refused-answer (model c.self.inside.state) _ c.self.view_is (leaving a.releasing a.clock a.ticket) _ (refused (goal.at.returns-in_err-check_phase-clause-answer c).In_err-check_phase))

pub returns-in_err-check_phase-clause-table : goal.returns-in_err-check_phase-clause-table
returns-in_err-check_phase-clause-table c =
    let a = c.args in
    refused-model (model c.self.inside.state) _ c.self.view_is (leaving a.releasing a.clock a.ticket) _ (refused (goal.at.returns-in_err-check_phase-clause-table c).In_err-check_phase)

-- The clock is right.
right : (c : In_ok-check_time) → Clocked (model c.self.inside.state) c.args.clock
right c = time-ok (model c.self.inside.state) c.args.clock c.in_ok-check_time.ensures

pub removed-requires-clause-later : goal.removed-requires-clause-later
removed-requires-clause-later c = (right (goal.at.removed-requires-clause-later c).In_ok-check_time).later

pub removed-requires-clause-early : goal.removed-requires-clause-early
removed-requires-clause-early c = (right (goal.at.removed-requires-clause-early c).In_ok-check_time).early

left-ranged : (m : Model) (t k : ℕ) → Ranged m → Clocked m t → Ranged (remove (departed m t) k)
left-ranged m t k r o = remove-ranged (departed m t) k (departed-ranged m t r o.later o.early)

pub pulled-requires-clause-ranged : goal.pulled-requires-clause-ranged
pulled-requires-clause-ranged c =
    subst Ranged (sym c.removed.ensures) (left-ranged (model c.self.inside.state) c.args.clock c.args.ticket c.self.invariant.ranged (right (goal.at.pulled-requires-clause-ranged c).In_ok-check_time))

pub pulled-requires-clause-later : goal.pulled-requires-clause-later
pulled-requires-clause-later c =
    omega (
      arith,
      ap (λ (n : Model). n.clock) c.removed.ensures,
      departed-clock (model c.self.inside.state) c.args.clock c.args.ticket (right (goal.at.pulled-requires-clause-later c).In_ok-check_time).later,
    )

pub pulled-requires-clause-early : goal.pulled-requires-clause-early
pulled-requires-clause-early c = (right (goal.at.pulled-requires-clause-early c).In_ok-check_time).early

-- The table after both.
rest_is : (c : After-pulled) →
    let a = c.args in model c.pulled.new.t ≡ advance (remove (departed (model c.self.inside.state) a.clock) a.ticket) a.clock
rest_is c = c.pulled.ensures ∙ ap (λ (n : Model). advance n c.args.clock) c.removed.ensures

pub finished-requires-clause-ranged : goal.finished-requires-clause-ranged
finished-requires-clause-ranged c =
    let a = c.args in
    let o = right (goal.at.finished-requires-clause-ranged c).In_ok-check_time in
    let m = model c.self.inside.state in
    subst Ranged (sym (rest_is (goal.at.finished-requires-clause-ranged c).After-pulled))
    (advance-ranged _ a.clock (left-ranged m a.clock a.ticket c.self.invariant.ranged o) (departed-clock m a.clock a.ticket o.later) o.early)

pub finished-requires-clause-still : goal.finished-requires-clause-still
finished-requires-clause-still c =
    let a = c.args in
    subst Still (sym (rest_is (goal.at.finished-requires-clause-still c).After-pulled))
    (advanced-still _ a.clock (left-ranged (model c.self.inside.state) a.clock a.ticket c.self.invariant.ranged (right (goal.at.finished-requires-clause-still c).In_ok-check_time)))

step_is : (c : After-pulled) →
    let a = c.args in finish (model c.pulled.new.t) (plain a.ticket a.clock) ≡ step (model c.self.inside.state) (leaving a.releasing a.clock a.ticket)
step_is c =
    let a = c.args in
    let m = model c.self.inside.state in
    ap (λ (n : Model). finish n (plain a.ticket a.clock)) (rest_is c)
    ∙ leave-accepts m a.releasing a.clock a.ticket c.self.invariant (time-ok m a.clock c.in_ok-check_time.ensures)
    (leave-tests m a.releasing a.clock a.ticket c.self.invariant.ranged.ranges.ascending c.in_ok-check_time.ensures (c.in_ok-check_phase.ensures ∙ ap (phase_number a.releasing) c.lookup-standing.ensures))

pub invariant_of-self : goal.invariant_of-self
invariant_of-self c =
    let a = c.args in
    accepted-valid (model c.self.inside.state) _ c.self.view_is (leaving a.releasing a.clock a.ticket) _ (step_is (goal.at.invariant_of-self c).After-pulled) c.self.invariant c.finished.ensures.table

pub returns-clause-answer : goal.returns-clause-answer
returns-clause-answer c =
    let a = c.args in
    accepted-answer (model c.self.inside.state) _ c.self.view_is (leaving a.releasing a.clock a.ticket) _ (step_is (goal.at.returns-clause-answer c).After-pulled) c.finished.ensures.answer

pub returns-clause-table : goal.returns-clause-table
returns-clause-table c =
    let a = c.args in
    accepted-model (model c.self.inside.state) _ c.self.view_is (leaving a.releasing a.clock a.ticket) _ (step_is (goal.at.returns-clause-table c).After-pulled) c.finished.ensures.table
