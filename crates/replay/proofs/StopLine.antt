-- The stop line, where there is one, and its length.
use mathlib.Core.Path.{◌≡◌, refl}
use mathlib.Core.List.{List}
use Prim.Native.Nat.{ℕ, zero, suc, ◌≤◌}
use native.Mathlib.Omega.{arith}
use lib.ListN.{length}
use Rattle.numerals.proofs.Laying.{pair-length}
use Rattle.replay.specs.StopLine.{stop_line, stop_or}

pub stop-some : (n k : ℕ) (lines : List ℕ) → (n ≡ 0 → ⊥) → stop_or n k lines ≡ stop_line n k
stop-some zero k lines h = absurd (h refl)
stop-some (suc n) k lines h = refl

pub stop-none : (n k : ℕ) (lines : List ℕ) → n ≡ 0 → stop_or n k lines ≡ lines
stop-none zero k lines h = refl
stop-none (suc n) k lines h = absurd (omega arith)

pub stop-length : (n k b : ℕ) (lines : List ℕ) → length lines ≤ b → 47 ≤ b → length (stop_or n k lines) ≤ b
unfolding stop_line
stop-length zero k b lines h g = h
stop-length (suc n) k b lines h g = omega (arith, pair-length (suc n) k 10)
