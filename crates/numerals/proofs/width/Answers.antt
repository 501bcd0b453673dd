-- `numerals::width` meets its contract: digits counted so far, with those left, are the width.
use native.Mathlib.Omega.{arith}
use Rattle.numerals.proofs.Numbers.{counting-start, counting_more, counting-end}
use Rattle.numerals.proofs.width.Goals as goal

pub loop-v-init : goal.loop-v-init
loop-v-init c = counting-start _ c.ranges.value.fits

pub overflow_add-n : goal.overflow_add-n
overflow_add-n c = omega (arith, c.loop-v.invariant.spent)

pub loop-v-preserved : goal.loop-v-preserved
loop-v-preserved c = counting_more _ _ _ c.loop-v-test.true c.loop-v.invariant

pub returns : goal.returns
returns c = counting-end _ _ _ c.loop-v-test.false c.loop-v.invariant
