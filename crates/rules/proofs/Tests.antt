-- Lists of tests: the first that fails gives the number.
use mathlib.Core.Path.{◌≡◌, sym, ◌∙◌}
use mathlib.Core.Logic.{◌⊎◌, inl, inr, ◌≢◌}
use mathlib.Core.Bool.{true, false}
use mathlib.Core.List.{List, [], ◌∷◌}
use Prim.Native.Nat.{ℕ, ◌≤◌}
use native.Mathlib.Omega.{arith}
use Rattle.rules.specs.Tests.{Test, first_number}
use Rattle.rules.proofs.Bools.{by-test, clash}

-- Where no test fails, the first does not, and none of the rest.
pub passes : (x : Test) (ts : List Test) → 1 ≤ x.number → first_number (x ∷ ts) ≡ 0 → (x.fails ≡ false) × (first_number ts ≡ 0)
unfolding first_number
passes x ts h e = by-test x.fails (λ q. let z = rw q at e in absurd (omega arith)) (λ q. (q, rw q at e))

-- A test in front of others decides where it fails, and else they do.
pub fails-here : {n : ℕ} (x : Test) (ts : List Test) → n ≡ x.number → x.fails ≡ true → n ≡ first_number (x ∷ ts)
unfolding first_number
fails-here x ts e q = e ∙ sym (rw q)

pub past : {n : ℕ} (x : Test) (ts : List Test) → x.fails ≡ false → n ≡ first_number ts → n ≡ first_number (x ∷ ts)
unfolding first_number
past x ts q e = e ∙ sym (rw q)

-- Lists of tests that give one number.
pub front : (x : Test) (ts us : List Test) → first_number ts ≡ first_number us → first_number (x ∷ ts) ≡ first_number (x ∷ us)
unfolding first_number
front x ts us e = rw e

pub skipped : (x : Test) (ts : List Test) → x.fails ≡ false → first_number (x ∷ ts) ≡ first_number ts
unfolding first_number
skipped x ts e = rw e

pub stops : (x : Test) (ts us : List Test) → x.fails ≡ true → first_number (x ∷ ts) ≡ first_number (x ∷ us)
unfolding first_number
stops x ts us e = rw e

pub swapped : (x y : Test) (ts : List Test) → x.fails ≡ y.fails → x.number ≡ y.number → first_number (x ∷ ts) ≡ first_number (y ∷ ts)
unfolding first_number
swapped x y ts e n = rw (e, n)

-- A number that none of the tests gives.
abbrev pub Never : ℕ → List Test → Type 0
Never n [] = n ≢ 0
Never n (x ∷ ts) = ((x.fails ≡ false) ⊎ (x.number ≢ n)) × Never n ts

pub never : (n : ℕ) (ts : List Test) → Never n ts → first_number ts ≢ n
unfolding first_number
never n [] h e = h (sym e)
never n (x ∷ ts) h e = by-test x.fails (λ q. given q h.0 (rw q at e)) (λ q. never n ts h.1 (rw q at e))
  where
    given : x.fails ≡ true → (x.fails ≡ false) ⊎ (x.number ≢ n) → x.number ≡ n → ⊥
    given q (inl p) e = clash q p
    given q (inr p) e = p e
