-- The player's call: the listing where the buffer takes it, else 15.
use mathlib.Core.Path.{◌≡◌, refl, ◌∙◌}
use mathlib.Core.Bool.{true, false}
use mathlib.Core.List.{List}
use Prim.Native.Nat.{ℕ, ◌≤◌}
use native.Mathlib.Omega.{arith}
use lib.ListN.{length}
use lib.Dec.{leb}
use borrow.Author.Tests.{leb-true}
use Rattle.numerals.specs.Laid.{laid, lent_out}
use Rattle.numerals.proofs.Laying.{laid-fits}
use Rattle.format.proofs.Format.{either}
use Rattle.listing.specs.Text.{answer_of}

pub listing_none : (x out : List ℕ) → leb (length x) (length out) ≡ false → (15 ≡ answer_of x out) × (out ≡ lent_out x out)
unfolding answer_of lent_out
listing_none x out e = rw e (refl, refl)

pub listing-all : (x out : List ℕ) → leb (length x) (length out) ≡ true → (r : ℕ) (p : List ℕ) → (r ≡ length x) × (p ≡ laid out 0 x) → (r ≡ answer_of x out) × (p ≡ lent_out x out)
unfolding answer_of lent_out
listing-all x out e r p w = rw e (w.0, w.1 ∙ laid-fits out x (leb-true (length x) (length out) e))

-- The answer is a count of the buffer's bytes, where it has 15.
pub answer-within : (x out p : List ℕ) (r : ℕ) → r ≡ answer_of x out → length p ≡ length out → 15 ≤ length out → r ≤ length p
unfolding answer_of
answer-within x out p r e l h =
    either (leb (length x) (length out)) (λ b. omega (arith, leb-true (length x) (length out) b, rw b at e)) (λ b. omega (arith, rw b at e))
