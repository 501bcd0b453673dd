-- The load is a part of its buffer.
use mathlib.Core.Path.{sym}
use native.Mathlib.Omega.{arith}
use lib.Seq.{length-take-le}
use Rattle.load_text.proofs.Making.{made_reads}
use Rattle.load_write.proofs.write.Goals as goal

pub slice_bounds-load-end : goal.slice_bounds-load-end
slice_bounds-load-end g c = omega (arith, (made_reads _ _ _ (sym c.in-Ok.ensures.answer)).0, c.make.auto.out)

pub slice_bounds-write_output-end-in-Ok : goal.slice_bounds-write_output-end-in-Ok
slice_bounds-write_output-end-in-Ok g c = sym (length-take-le _ _ (omega (arith, (made_reads _ _ _ (sym c.in-Ok.ensures.answer)).0, c.make.auto.out)))
