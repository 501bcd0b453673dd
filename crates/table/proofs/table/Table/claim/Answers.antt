use Rattle.std.proofs.Common.{◌≡◌, length, sym, ◌∙◌, ap, subst, arith}
use Rattle.std.proofs.lemmas.Result.{err_from_is_err_and}
use Rattle.rules.specs.Invariants.{Still}
use Rattle.rules.specs.Calls.{Model, claim, admit, step}
use Rattle.rules.proofs.Calls.{Admissible, admissible}
use Rattle.table.specs.Valid.{Ranged}
use Rattle.table.specs.States.{model}
use Rattle.table.proofs.Steps.{refused-answer, refused-model, advanced-still, claim-ranged, claim-few, claim-spare, claim-drawn, claim-accepts, accepted-answer, accepted-model, accepted-valid}
use Rattle.table.proofs.table.Table.claim.Goals.{In_ok-check_claim, After-at_clock}
use Rattle.table.proofs.table.Table.claim.Goals as goal

pub returns-in_err-check_claim-clause-answer : goal.returns-in_err-check_claim-clause-answer
returns-in_err-check_claim-clause-answer c =
    let p = err_from_is_err_and c.from_residual.result c.from_residual.ensures.1 in
    rw (p.1, p.2) (refused-answer (model c.self.inside.state) _ c.self.view_is (claim c.args.clock c.args.ask) _ c.in_err-check_claim.ensures)

pub returns-in_err-check_claim-clause-table : goal.returns-in_err-check_claim-clause-table
returns-in_err-check_claim-clause-table c = refused-model (model c.self.inside.state) _ c.self.view_is (claim c.args.clock c.args.ask) _ c.in_err-check_claim.ensures

-- What the tests let pass.
passed : (c : In_ok-check_claim) → Admissible (model c.self.inside.state) c.args.clock c.args.ask
passed c = admissible _ _ _ (sym c.in_ok-check_claim.ensures)

pub at_clock-requires-clause-later : goal.at_clock-requires-clause-later
at_clock-requires-clause-later c = (passed (goal.at.at_clock-requires-clause-later c).In_ok-check_claim).clocked.later

pub at_clock-requires-clause-early : goal.at_clock-requires-clause-early
at_clock-requires-clause-early c = (passed (goal.at.at_clock-requires-clause-early c).In_ok-check_claim).clocked.early

pub admitted-requires-clause-ranged : goal.admitted-requires-clause-ranged
admitted-requires-clause-ranged c =
    subst Ranged (sym c.at_clock.ensures) (claim-ranged (model c.self.inside.state) _ c.args.ask c.self.invariant (passed (goal.at.admitted-requires-clause-ranged c).In_ok-check_claim))

pub admitted-requires-clause-still : goal.admitted-requires-clause-still
admitted-requires-clause-still c = subst Still (sym c.at_clock.ensures) (advanced-still (model c.self.inside.state) c.args.clock c.self.invariant.ranged)

pub admitted-requires-clause-few : goal.admitted-requires-clause-few
admitted-requires-clause-few c =
    omega (arith, ap (λ (n : Model). length n.pending) c.at_clock.ensures, claim-few (model c.self.inside.state) _ c.args.ask c.self.invariant (passed (goal.at.admitted-requires-clause-few c).In_ok-check_claim))

pub admitted-requires-clause-spare : goal.admitted-requires-clause-spare
admitted-requires-clause-spare c =
    omega (arith, ap (λ (n : Model). n.issued) c.at_clock.ensures, claim-spare (model c.self.inside.state) _ c.args.ask c.self.invariant (passed (goal.at.admitted-requires-clause-spare c).In_ok-check_claim))

pub admitted-requires-clause-asked : goal.admitted-requires-clause-asked
admitted-requires-clause-asked c =
    let a = passed (goal.at.admitted-requires-clause-asked c).In_ok-check_claim in
    (a.long, a.short, omega (arith, ap (λ (n : Model). n.pool) c.at_clock.ensures, claim-drawn (model c.self.inside.state) _ c.args.ask c.self.invariant a))

step_is : (c : After-at_clock) → admit (model c.at_clock.new.t) c.args.ask ≡ step (model c.self.inside.state) (claim c.args.clock c.args.ask)
step_is c =
    ap (λ (n : Model). admit n c.args.ask) c.at_clock.ensures ∙ claim-accepts (model c.self.inside.state) c.args.clock c.args.ask c.in_ok-check_claim.ensures

pub invariant_of-self : goal.invariant_of-self
invariant_of-self c =
    accepted-valid (model c.self.inside.state) _ c.self.view_is (claim c.args.clock c.args.ask) _ (step_is (goal.at.invariant_of-self c).After-at_clock) c.self.invariant c.admitted.ensures.table

pub returns-clause-answer : goal.returns-clause-answer
returns-clause-answer c =
    accepted-answer (model c.self.inside.state) _ c.self.view_is (claim c.args.clock c.args.ask) _ (step_is (goal.at.returns-clause-answer c).After-at_clock) c.admitted.ensures.answer

pub returns-clause-table : goal.returns-clause-table
returns-clause-table c =
    accepted-model (model c.self.inside.state) _ c.self.view_is (claim c.args.clock c.args.ask) _ (step_is (goal.at.returns-clause-table c).After-at_clock) c.admitted.ensures.table
