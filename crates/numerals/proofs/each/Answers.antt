-- `numerals::each` meets its contract: what is read so far, with the bytes left, is the number.
use Prim.Native.Nat.{suc}
use mathlib.Core.Path.{◌≡◌}
use native.Mathlib.Omega.{arith}
use native.Mathlib.Numerals.{add-one}
use lib.ListN.{length, drop_of_length-le}
use lib.Seq.{drop-cons}
use Rattle.numerals.specs.Digits.{numeral}
use Rattle.numerals.proofs.Numbers.{grown, fits8}
use Rattle.numerals.proofs.each.Goals as goal

pub overflow_mul-value : goal.overflow_mul-value
overflow_mul-value c =
    let k = grown c.loop-byte.value c.loop-byte.byte-index 0 c.loop-byte.invariant.0 (omega arith) in
    omega (arith, k, fits8 (suc c.loop-byte.byte-index) (omega (arith, c.requires, c.loop-byte-test.true)))

pub overflow_add-value : goal.overflow_add-value
overflow_add-value c =
    let k = grown c.loop-byte.value c.loop-byte.byte-index c.from.result c.loop-byte.invariant.0 (omega arith) in
    omega (arith, k, fits8 (suc c.loop-byte.byte-index) (omega (arith, c.requires, c.loop-byte-test.true)))

pub loop-byte-preserved : goal.loop-byte-preserved
unfolding numeral
loop-byte-preserved c =
    let i = c.loop-byte.invariant in
    let e = drop-cons c.args.bytes.now c.loop-byte.byte-index 0 c.loop-byte-test.true in (
      rw add-one (grown c.loop-byte.value c.loop-byte.byte-index c.from.result i.0 (omega (arith, c.from.ensures, c.type_inv.bytes c.loop-byte.byte-index))),
      rw (add-one, c.from.ensures) (rw e at i.1),
    )

pub returns : goal.returns
unfolding numeral
returns c =
    let i = c.loop-byte.invariant in
    let n : c.loop-byte.byte-index ≡ length c.args.bytes.now = omega arith in
    (rw (drop_of_length-le c.args.bytes.now {i = c.loop-byte.byte-index} c.loop-byte-test.false) at i.1, rw n at i.0)
