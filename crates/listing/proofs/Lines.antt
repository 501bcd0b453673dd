-- The lengths of lines.
use mathlib.Core.List.{List, [], ◌∷◌}
use Prim.Native.Nat.{ℕ, ◌*◌, ◌≤◌}
use native.Mathlib.Omega.{arith}
use lib.ListN.{length, length-append}
use Rattle.numerals.specs.Digits.{pair}
use Rattle.numerals.proofs.Laying.{pair-length}
use Rattle.listing.specs.Lines.{line_of, on_line, on_lines}

pub line-length : (k n t s : ℕ) → length (line_of k n t s) ≤ 84
unfolding line_of
line-length k n t s = omega (arith, length-append (pair k n 32) (pair t s 10), pair-length k n 32, pair-length t s 10)

on-length : (t k : ℕ) → length (on_line t k) ≤ 45
unfolding on_line
on-length t k = omega (arith, pair-length k t 10)

pub ons-length : (t : ℕ) (ks : List ℕ) → length (on_lines t ks) ≤ 45 * length ks
unfolding on_lines
ons-length t [] = omega arith
ons-length t (k ∷ ks) = omega (arith, length-append (on_line t k) (on_lines t ks), on-length t k, ons-length t ks)
