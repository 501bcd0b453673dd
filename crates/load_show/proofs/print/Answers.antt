-- The text is a part of its buffer.
use mathlib.Core.Path.{sym}
use native.Mathlib.Omega.{arith}
use lib.Seq.{length-take-le}
use Rattle.load_text.proofs.Lines.{printed-within}
use Rattle.load_show.proofs.print.Goals as goal

pub slice_bounds-room-end : goal.slice_bounds-room-end
slice_bounds-room-end g c = omega (arith, printed-within _ _ _ (sym c.in-Ok.ensures.answer), c.show.auto.out)

pub slice_bounds-write_output-end-in-Ok : goal.slice_bounds-write_output-end-in-Ok
slice_bounds-write_output-end-in-Ok g c = sym (length-take-le _ _ (omega (arith, printed-within _ _ _ (sym c.in-Ok.ensures.answer), c.show.auto.out)))
