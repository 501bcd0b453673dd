use mathlib.Core.Path.{◌≡◌}
use lib.ListN.{length}
use Rattle.numerals.proofs.Numbers.{stored}
use Rattle.numerals.proofs.put_digits.Given as goal

-- The digits that are left, stored, make what all of them make.
abbrev pub invariant-loop-i : goal.invariant-loop-i
invariant-loop-i l = (length l.out ≡ length l.initial.out) × (stored l.base l.zero l.at l.i l.rest l.out ≡ stored l.base l.zero l.at l.n l.value l.initial.out)
