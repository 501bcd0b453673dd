use Rattle.std.proofs.Common.{◌≤◌, refl, sym, arith}
use Rattle.std.proofs.lemmas.Result.{err_from_is_err_and}
use Rattle.numbers.specs.Numbers.{most_clients}
use Rattle.rules.specs.Calls.{declare}
use Rattle.rules.proofs.Calls.{declarable}
use Rattle.rules.proofs.Shares.{client-range}
use Rattle.table.specs.States.{model}
use Rattle.table.proofs.Steps.{refused-answer, refused-model, declares-is, accepted-answer, accepted-model, accepted-valid}
use Rattle.table.proofs.table.Table.declare.Goals.{In_ok-check_declaration}
use Rattle.table.proofs.table.Table.declare.Goals as goal

pub returns-in_err-check_declaration-clause-answer : goal.returns-in_err-check_declaration-clause-answer
returns-in_err-check_declaration-clause-answer c =
    let p = err_from_is_err_and c.from_residual.result c.from_residual.ensures.1 in
    rw (p.1, p.2) (refused-answer (model c.self.inside.state) _ c.self.view_is (declare c.args.client c.args.reserved c.args.limit) _ c.in_err-check_declaration.ensures)

pub returns-in_err-check_declaration-clause-table : goal.returns-in_err-check_declaration-clause-table
returns-in_err-check_declaration-clause-table c = refused-model (model c.self.inside.state) _ c.self.view_is (declare c.args.client c.args.reserved c.args.limit) _ c.in_err-check_declaration.ensures

pub invariant_of-self : goal.invariant_of-self
invariant_of-self c =
    let m = model c.self.inside.state in
    rw c.from.ensures (accepted-valid m _ c.self.view_is (declare c.args.client c.args.reserved c.args.limit) _ (declares-is m c.args.client c.args.reserved c.args.limit c.in_ok-check_declaration.ensures) c.self.invariant refl)

pub returns-clause-answer : goal.returns-clause-answer
returns-clause-answer c =
    let m = model c.self.inside.state in
    accepted-answer m _ c.self.view_is (declare c.args.client c.args.reserved c.args.limit) _ (declares-is m c.args.client c.args.reserved c.args.limit c.in_ok-check_declaration.ensures) c.accepted.ensures

pub returns-clause-table : goal.returns-clause-table
returns-clause-table c =
    let m = model c.self.inside.state in
    rw c.from.ensures (accepted-model m _ c.self.view_is (declare c.args.client c.args.reserved c.args.limit) _ (declares-is m c.args.client c.args.reserved c.args.limit c.in_ok-check_declaration.ensures) refl)

-- Where no test fails the client is one from 1 to 8.
range : (c : In_ok-check_declaration) → (1 ≤ c.args.client) × (c.args.client ≤ most_clients)
range c =
    let a = c.args in
    client-range a.client (declarable (model c.self.inside.state) a.client a.reserved a.limit (sym c.in_ok-check_declaration.ensures)).client

pub overflow_sub-client : goal.overflow_sub-client
overflow_sub-client c = (range (goal.at.overflow_sub-client c).In_ok-check_declaration).0

pub bounds-self-inside-from : goal.bounds-self-inside-from
bounds-self-inside-from c =
    let r = range (goal.at.bounds-self-inside-from c).In_ok-check_declaration in
    omega (arith, r.0, r.1, c.from.ensures)
