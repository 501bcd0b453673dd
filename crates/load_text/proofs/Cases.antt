-- Proofs by whether a number is 0, which refuses nothing.
use Prim.Native.Nat.{ℕ, zero, suc, ◌<◌}
use mathlib.Core.Path.{◌≡◌, refl}
use native.Mathlib.Omega.{arith}
use Rattle.numbers.specs.Numbers.{or_else}
use Rattle.load.specs.Reading.{unless_refused}

-- Of two numbers the first that is not 0.
pub first-wrong : (n m : ℕ) → 0 < n → or_else n m ≡ n
first-wrong zero m h = absurd (omega arith)
first-wrong (suc n) m h = refl

module _ {A : Type 0} (f : ℕ → A) (a : A) where
  pub refused : (n : ℕ) → (n ≡ 0 → ⊥) → unless_refused n f a ≡ f n
  refused zero h = absurd (h refl)
  refused (suc n) h = refl

  pub not-refused : (n : ℕ) (b : A) → ((k : ℕ) → f k ≡ b → ⊥) → unless_refused n f a ≡ b → (n ≡ 0) × (a ≡ b)
  not-refused zero b h e = (refl, e)
  not-refused (suc n) b h e = absurd (h (suc n) e)

  pub was-refused : (n : ℕ) (b : A) → (a ≡ b → ⊥) → unless_refused n f a ≡ b → (n ≡ 0 → ⊥) × (f n ≡ b)
  was-refused zero b h e = absurd (h e)
  was-refused (suc n) b h e = ((λ z. omega arith), e)
