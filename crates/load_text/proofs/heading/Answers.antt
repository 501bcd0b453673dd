-- Line by line up to the first that says something: the invariant is `Heads`.
use mathlib.Core.Path.{refl, sym, ap, ◌∙◌}
use native.Mathlib.Omega.{arith}
use Rattle.std.specs.Prelude.{Ok}
use Rattle.load_text.proofs.Headings.{heads-start, heads-end, heads-on, heads-edition, heads-other, heads-misread}
use Rattle.load_text.proofs.heading.Goals as goal

pub loop-said-init : goal.loop-said-init
loop-said-init c = heads-start _

pub overflow_add-line : goal.overflow_add-line
overflow_add-line c = omega (arith, c.loop-said.invariant.few, c.in-Some.ensures.shorter)

pub returns-in-Ok-Edition : goal.returns-in-Ok-Edition
returns-in-Ok-Edition c =
    heads-edition _ _ _ c.loop-said.invariant _ _ c.in-Some.ensures _ (sym c.in-Ok-Edition.ensures ∙ ap (λ o. Ok o) c.in-Ok-Edition.field-0-is) refl refl

pub returns-in-Ok-Other : goal.returns-in-Ok-Other
returns-in-Ok-Other c =
    heads-other _ _ _ c.loop-said.invariant _ _ c.in-Some.ensures (sym c.in-Ok-Other.ensures ∙ ap (λ o. Ok o) c.in-Ok-Other.field-0-is) _ refl refl refl

pub returns-in-Err : goal.returns-in-Err
returns-in-Err c = rw c.from.ensures (heads-misread _ _ _ c.loop-said.invariant _ _ c.in-Some.ensures _ (sym c.in-Err.ensures))

pub loop-said-smaller : goal.loop-said-smaller
loop-said-smaller c = c.in-Some.ensures.shorter

pub loop-said-preserved : goal.loop-said-preserved
loop-said-preserved c =
    heads-on _ _ _ c.loop-said.invariant _ _ c.in-Some.ensures (sym c.in-Ok-Silent.ensures ∙ ap (λ o. Ok o) c.in-Ok-Silent.field-0-is)

pub returns : goal.returns
returns c = heads-end _ _ _ c.loop-said.invariant c.in_default.ensures _ refl refl refl
