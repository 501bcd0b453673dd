-- `numerals::put_decimal` meets its contract: as many digits as the number has.
use Rattle.numerals.specs.Digits.{decimal_of}
use Rattle.numerals.proofs.Laying.{put-digits}
use Rattle.numerals.proofs.put_decimal.Goals as goal

pub returns : goal.returns
unfolding decimal_of
returns c =
    let d = put-digits 10 48 _ _ c.put_digits.ensures in
    rw (← c.width-n.ensures) (d.next, d.is)
