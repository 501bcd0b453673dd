-- `numerals::value` meets its contract: eight bytes are two times four, and four two times two.
use native.Mathlib.Omega.{arith}
use Rattle.numerals.proofs.BigEndian.{numeral-eight}
use Rattle.numerals.proofs.value.Goals as goal

pub returns-in-len8 : goal.returns-in-len8
returns-in-len8 c = numeral-eight c.args.bytes.now _ (omega (arith, c.in-len8.len_at_least, c.in-len8.len_below)) (λ i. (c.type_inv.bytes i).fits) c.from_be_bytes-in-len8.ensures
