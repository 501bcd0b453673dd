-- `numerals::put_digits` meets its contract: what is stored so far, with the digits left, is the number laid.
use native.Mathlib.Omega.{arith}
use native.Mathlib.Nat.{mod-lt}
use mathlib.Core.Path.{sym, ◌∙◌}
use Rattle.numerals.specs.Laid.{behind}
use Rattle.numerals.proofs.Numbers.{stored-turn, stored-none}
use Rattle.numerals.proofs.Laying.{stored-laid}
use Rattle.numerals.proofs.put_digits.Goals as goal

pub loop-i-preserved : goal.loop-i-preserved
loop-i-preserved c =
    let a = c.args in
    let l = c.loop-i in
    let d = mod-lt l.rest c.requires.0 in (
      c.store.auto.out ∙ l.invariant.0,
      rw c.store.ensures (stored-turn a.base a.zero a.at l.i l.rest _ l.out c.loop-i-test.true (omega (arith, d, c.requires.1))) ∙ l.invariant.1,
    )

pub returns : goal.returns
unfolding behind
returns c =
    let a = c.args in
    let l = c.loop-i in
    (c.saturating_add.ensures, sym (stored-none a.base a.zero a.at l.i l.rest l.out c.loop-i-test.false) ∙ l.invariant.1 ∙ stored-laid a.base a.zero a.at a.n a.value a.out.now)
