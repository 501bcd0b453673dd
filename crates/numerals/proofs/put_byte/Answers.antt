-- `numerals::put_byte` meets its contract: one byte, or none after the end.
use mathlib.Core.Path.{sym, ◌∙◌}
use Rattle.numerals.specs.Laid.{behind}
use Rattle.numerals.proofs.Laying.{laid_one, laid_out}
use Rattle.numerals.proofs.put_byte.Goals as goal
use Rattle.numerals.proofs.put_byte.Goals.{then-at-out, else-at-out}

pub returns : goal.returns
unfolding behind
returns c = (c.saturating_add.ensures, elim c.if-at-out.branch [ then-at-out w ↦ w.out-is ∙ sym (laid_one _ _ _) | else-at-out w ↦ w.out-is ∙ sym (laid_out _ _ _ w.if-at-out.false) ])
