-- What the line says decides.
use mathlib.Core.Path.{sym, ap, ◌∙◌}
use native.Mathlib.Omega.{arith}
use Rattle.std.specs.Prelude.{Ok}
use Rattle.std.proofs.lemmas.Result.{err_from_is_err_and}
use Rattle.load_text.proofs.Making.{add_nothing, add-bad, add-refused, add-taken}
use Rattle.load_text.proofs.add.Goals as goal

pub returns-in_err-call : goal.returns-in_err-call
returns-in_err-call c =
    let p = err_from_is_err_and c.from_residual.result c.from_residual.ensures.1 in
    rw (p.1, p.2, sym c.parse_line.ensures.0 ∙ c.in_err-call.was) (add-bad c.args.edition c.args.page.now _)

pub returns-in_err-check_growth : goal.returns-in_err-check_growth
returns-in_err-check_growth c =
    let p = err_from_is_err_and c.from_residual-in_err-check_growth.result c.from_residual-in_err-check_growth.ensures.1 in
    rw (p.1, p.2, sym c.parse_line.ensures.0 ∙ c.in_ok-call.was ∙ ap (λ o. Ok o) c.in-Some.is) (add-refused c.args.edition c.args.page.now _ _ c.in_err-check_growth.ensures)

pub returns-in_ok-check_growth : goal.returns-in_ok-check_growth
returns-in_ok-check_growth c =
    rw (sym c.parse_line.ensures.0 ∙ c.in_ok-call.was ∙ ap (λ o. Ok o) c.in-Some.is) (add-taken _ _ _ _ c.in_ok-check_growth.ensures c.put_record.ensures)

pub returns-in_default : goal.returns-in_default
returns-in_default c =
    rw (sym c.parse_line.ensures.0 ∙ c.in_ok-call.was ∙ ap (λ o. Ok o) c.in_default.is) (add_nothing c.args.edition c.args.page.now (omega arith))
