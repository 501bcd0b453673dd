use mathlib.Core.Path.{◌≡◌}
use Rattle.format.specs.Calls.{filled, values_in, kept}
use Rattle.format.proofs.Rows.{left}
use Rattle.format.proofs.kept.Given as goal

-- What is kept so far, with the fields left, is all that the edition keeps.
abbrev pub invariant-loop-field : goal.invariant-loop-field
invariant-loop-field l = filled (left l.edition l.call.kind l.field-index) (values_in (left l.edition l.call.kind l.field-index) l.call) l.kept ≡ kept l.edition l.call
