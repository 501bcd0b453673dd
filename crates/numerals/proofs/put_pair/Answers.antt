-- `numerals::put_pair` meets its contract: one number after the other.
use native.Mathlib.Omega.{arith}
use Rattle.numerals.specs.Digits.{pair}
use Rattle.numerals.proofs.Laying.{put, put_then}
use Rattle.numerals.proofs.put_pair.Goals as goal

pub returns : goal.returns
unfolding pair
returns c =
    let w = put_then _ _ _ _ _ _ _ _ (omega arith) (put c.put_column-end.ensures) (put c.put_column.ensures) in
    (w.next, w.is)
