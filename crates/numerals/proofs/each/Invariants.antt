use Prim.Native.Nat.{◌<◌, ◌^◌}
use mathlib.Core.Path.{◌≡◌}
use lib.ListN.{drop}
use Rattle.numerals.specs.Digits.{numeral}
use Rattle.numerals.proofs.each.Given as goal

-- What is read so far, with the bytes left, is the number.
abbrev pub invariant-loop-byte : goal.invariant-loop-byte
invariant-loop-byte l = (l.value < 256 ^ l.byte-index) × (numeral l.value (drop l.byte-index l.bytes) ≡ numeral 0 l.bytes)
