-- The load is a part of its buffer.
use mathlib.Core.Path.{sym, ◌∙◌}
use native.Mathlib.Omega.{arith}
use lib.Seq.{length-take-le}
use Rattle.generator.proofs.Answering.{length-within}
use Rattle.workload.proofs.write.Goals as goal

pub slice_bounds-load-end : goal.slice_bounds-load-end
slice_bounds-load-end g c =
    omega (arith, length-within _ _ _ _ (sym c.workload.ensures.answer ∙ c.in-Ok.is), c.workload.auto.out)

pub slice_bounds-write_output-end-in-Ok : goal.slice_bounds-write_output-end-in-Ok
slice_bounds-write_output-end-in-Ok g c =
    sym (length-take-le _ _ (omega (arith, length-within _ _ _ _ (sym c.workload.ensures.answer ∙ c.in-Ok.is), c.workload.auto.out)))
