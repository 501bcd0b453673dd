use Rattle.std.proofs.Common.{refl}
use Rattle.std.proofs.lemmas.Result.{err_from_is_err_and}
use Rattle.rules.specs.Calls.{set_grace}
use Rattle.table.specs.States.{model}
use Rattle.table.proofs.Steps.{refused-answer, refused-model, graces-is, accepted-answer, accepted-model, accepted-valid}
use Rattle.table.proofs.table.Table.set_grace.Goals as goal

pub returns-in_err-check_grace-clause-answer : goal.returns-in_err-check_grace-clause-answer
returns-in_err-check_grace-clause-answer c =
    let p = err_from_is_err_and c.from_residual.result c.from_residual.ensures.1 in
    rw (p.1, p.2) (refused-answer (model c.self.inside.state) _ c.self.view_is (set_grace c.args.grace) _ c.in_err-check_grace.ensures)

pub returns-in_err-check_grace-clause-table : goal.returns-in_err-check_grace-clause-table
returns-in_err-check_grace-clause-table c = refused-model (model c.self.inside.state) _ c.self.view_is (set_grace c.args.grace) _ c.in_err-check_grace.ensures

pub invariant_of-self : goal.invariant_of-self
invariant_of-self c =
    let m = model c.self.inside.state in
    accepted-valid m _ c.self.view_is (set_grace c.args.grace) _ (graces-is m c.args.grace c.in_ok-check_grace.ensures) c.self.invariant refl

pub returns-clause-answer : goal.returns-clause-answer
returns-clause-answer c =
    let m = model c.self.inside.state in
    accepted-answer m _ c.self.view_is (set_grace c.args.grace) _ (graces-is m c.args.grace c.in_ok-check_grace.ensures) c.accepted.ensures

pub returns-clause-table : goal.returns-clause-table
returns-clause-table c =
    let m = model c.self.inside.state in
    accepted-model m _ c.self.view_is (set_grace c.args.grace) _ (graces-is m c.args.grace c.in_ok-check_grace.ensures) refl
