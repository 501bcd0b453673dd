-- Line by line up to the first that is wrong: the invariant is `Passing`.
use mathlib.Core.Path.{refl, ap}
use native.Mathlib.Omega.{arith}
use Rattle.std.specs.Prelude.{Ok}
use Rattle.dance_text.proofs.Shows.{pass-start, pass-end, pass-wrong, pass-call, pass-none}
use Rattle.dance_text.proofs.survey.Goals as goal

pub loop-said-init : goal.loop-said-init
loop-said-init c = pass-start _

pub overflow_add-line : goal.overflow_add-line
overflow_add-line c = omega (arith, c.loop-said.invariant.few, c.in-Some.ensures.shorter)

pub overflow_add-calls : goal.overflow_add-calls
overflow_add-calls c = omega (arith, c.loop-said.invariant.few, c.loop-said.invariant.fewer, c.in-Some.ensures.shorter)

pub returns-in-Err : goal.returns-in-Err
returns-in-Err c = rw c.from.ensures (pass-wrong _ _ _ _ c.loop-said.invariant _ _ c.in-Some.ensures _ c.in-Err.ensures _ refl)

pub loop-said-smaller-in-Ok-Some : goal.loop-said-smaller-in-Ok-Some
loop-said-smaller-in-Ok-Some c = c.in-Some.ensures.shorter

pub loop-said-preserved-in-Ok-Some : goal.loop-said-preserved-in-Ok-Some
loop-said-preserved-in-Ok-Some c =
    pass-call _ _ _ _ c.loop-said.invariant _ _ c.in-Some.ensures _ c.in-Ok-Some.ensures _ (ap (λ o. Ok o) c.in-Ok-Some.field-0-is)

pub loop-said-smaller : goal.loop-said-smaller
loop-said-smaller c = c.in-Some.ensures.shorter

pub loop-said-preserved : goal.loop-said-preserved
loop-said-preserved c = pass-none _ _ _ _ c.loop-said.invariant _ _ c.in-Some.ensures _ c.in-Ok-None.ensures (ap (λ o. Ok o) c.in-Ok-None.field-0-is)

pub returns : goal.returns
returns c = pass-end _ _ _ _ c.loop-said.invariant c.in_default.ensures
