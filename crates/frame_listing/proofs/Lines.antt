-- The lengths of lines.
use mathlib.Core.List.{List, [], ◌∷◌, ◌++◌}
use Prim.Native.Nat.{ℕ, ◌*◌, ◌≤◌}
use native.Mathlib.Omega.{arith}
use lib.ListN.{length, length-append}
use Rattle.numerals.specs.Digits.{column, pair}
use Rattle.numerals.specs.Texts.{space, line_feed}
use Rattle.numerals.proofs.Laying.{column-length, pair-length}
use Rattle.frame_listing.specs.Lines.{line_of, on_line, on_lines}

-- The line of a call has five numbers of at most 20 digits, and a byte after each.
pub line-length : (k n t r c : ℕ) → length (line_of k n t r c) ≤ 105
unfolding line_of
line-length k n t r c =
    omega (arith, length-append (pair k n space) (pair t r space ++ column c line_feed), length-append (pair t r space) (column c line_feed), pair-length k n space, pair-length t r space, column-length c line_feed)

-- An `on` line has three bytes before its number and a byte after it;
on-length : (t : ℕ) → length (on_line t) ≤ 24
unfolding on_line
on-length t = omega (arith, column-length t line_feed)

-- there is one for each grant.
pub ons-length : (ks : List ℕ) → length (on_lines ks) ≤ 24 * length ks
unfolding on_lines
ons-length [] = omega arith
ons-length (k ∷ ks) = omega (arith, length-append (on_line k) (on_lines ks), on-length k, ons-length ks)
