-- Proofs by a test.
use Prim.Native.Nat.{ℕ, ◌≤◌, ◌<◌}
use mathlib.Core.Bool.{Bool, true, false}
use mathlib.Core.Path.{◌≡◌, refl}
use lib.Dec.{ltb}
use borrow.Author.Tests.{ltb-true, ltb-false}

module _ {P : Type 0} where
  pub either : (b : Bool) → (b ≡ true → P) → (b ≡ false → P) → P
  either true f g = f refl
  either false f g = g refl

  pub below : (a b : ℕ) → (a < b → P) → (b ≤ a → P) → P
  below a b f g = either (ltb a b) (λ e. f (ltb-true a b e)) (λ e. g (ltb-false a b e))
