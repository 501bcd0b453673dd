-- `words::value` meets its contract: what is read so far, with the digits left, is the number.
use mathlib.Core.Path.{refl, sym, ap, ◌∙◌}
use native.Mathlib.Omega.{arith}
use Rattle.std.proofs.lemmas.Result.{err_from_is_err_and}
use Rattle.std.specs.Option.{ok_or}
use Rattle.words.proofs.Numbers.{sum_over, sum-on, sum-end}
use Rattle.words.proofs.value.Goals as goal

pub loop-b-init : goal.loop-b-init
loop-b-init g c = record { room = omega arith; digits = c.requires; is = refl }

pub returns-in_err-v : goal.returns-in_err-v
returns-in_err-v g c =
    let p = err_from_is_err_and c.from_residual.result c.from_residual.ensures.1 in
    rw (p.1, p.2)
    (sum_over _ _ _ _ _ c.loop-b.invariant c.loop-b-test.true _ _ (ap (λ o. ok_or o c.args.large) (sym c.and_digit.ensures) ∙ sym c.ok_or.ensures.value ∙ c.in_err-v.was))

pub loop-b-preserved : goal.loop-b-preserved
loop-b-preserved g c =
    sum-on _ _ _ _ _ c.loop-b.invariant c.loop-b-test.true _ _ (ap (λ o. ok_or o c.args.large) (sym c.and_digit.ensures) ∙ sym c.ok_or.ensures.value ∙ c.in_ok-v.was)

pub returns : goal.returns
returns g c = sum-end _ _ _ _ _ c.loop-b.invariant _ (omega arith)
