-- `part_at` meets its contract: the part that each answer of `item_at` gives. A record lies inside the load (`record-inside`).
use mathlib.Core.Path.{sym, ap, ◌∙◌}
use native.Mathlib.Omega.{arith}
use Rattle.std.specs.Prelude.{Ok}
use Rattle.reader.proofs.Items.{record-inside, record-shown, end-shown, refused-shown}
use Rattle.reader.proofs.part_at.Goals as goal

pub slice_bounds-result-count : goal.slice_bounds-result-count
slice_bounds-result-count c = let q = record-inside _ _ _ _ (sym c.in-Ok-Some.ensures.0 ∙ ap Ok c.in-Ok-Some.field-0-is) in omega (arith, q.0, q.1)

pub slice_bounds-result-start : goal.slice_bounds-result-start
slice_bounds-result-start c = let q = record-inside _ _ _ _ (sym c.in-Ok-Some.ensures.0 ∙ ap Ok c.in-Ok-Some.field-0-is) in omega (arith, q.0, q.1)

pub slice_bounds-result-end : goal.slice_bounds-result-end
slice_bounds-result-end c = let q = record-inside _ _ _ _ (sym c.in-Ok-Some.ensures.0 ∙ ap Ok c.in-Ok-Some.field-0-is) in omega (arith, q.0, q.1)

pub returns-in-Ok-Some : goal.returns-in-Ok-Some
returns-in-Ok-Some c = record-shown _ _ _ _ _ (sym c.in-Ok-Some.ensures.0 ∙ ap Ok c.in-Ok-Some.field-0-is)

pub returns-in-Ok-None : goal.returns-in-Ok-None
returns-in-Ok-None c = end-shown _ _ _ (sym c.in-Ok-None.ensures.0 ∙ ap Ok c.in-Ok-None.field-0-is)

pub returns-in-Err : goal.returns-in-Err
returns-in-Err c = refused-shown _ _ _ _ (sym c.in-Err.ensures.0)
