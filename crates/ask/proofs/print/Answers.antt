-- The text is a part of its buffer.
use mathlib.Core.Path.{sym}
use native.Mathlib.Omega.{arith}
use lib.Seq.{length-take-le}
use Rattle.question.proofs.Answers.{asked-within}
use Rattle.ask.proofs.print.Goals as goal

pub slice_bounds-text-end : goal.slice_bounds-text-end
slice_bounds-text-end g c = omega (arith, asked-within _ _ _ _ (sym c.in-Ok.ensures.answer), c.answer.auto.out)

pub slice_bounds-write_output-end-in-Ok : goal.slice_bounds-write_output-end-in-Ok
slice_bounds-write_output-end-in-Ok g c = sym (length-take-le _ _ (omega (arith, asked-within _ _ _ _ (sym c.in-Ok.ensures.answer), c.answer.auto.out)))
