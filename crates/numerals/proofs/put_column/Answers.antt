-- `numerals::put_column` meets its contract: the number, and the byte after it.
use native.Mathlib.Omega.{arith}
use Rattle.numerals.proofs.Laying.{put, put_then}
use Rattle.numerals.specs.Digits.{column}
use Rattle.numerals.proofs.put_column.Goals as goal

pub returns : goal.returns
unfolding column
returns c =
    let w = put_then _ _ _ _ _ _ _ _ (omega arith) (put c.put_decimal-end.ensures) (put c.put_byte.ensures) in
    (w.next, w.is)
