-- Tests: from a Bool to what it says, and back.
use mathlib.Core.Path.{◌≡◌, refl, sym, ◌∙◌}
use mathlib.Core.Logic.{◌⊎◌, inl, inr, ◌≢◌}
use mathlib.Core.Bool.{Bool, true, false, ◌&&◌, ◌||◌, true≢false, false≢true}
use Prim.Native.Nat.{ℕ, ◌≤◌, ◌<◌}
use lib.Dec.{leb, eqb}
use borrow.Author.Tests.{leb-true, leb-false, eqb-true, eqb-false}

pub split : (b : Bool) → (b ≡ true) ⊎ (b ≡ false)
split true = inl refl
split false = inr refl

-- To show something by a test, show it in both cases.
pub by-test : {A : Type 0} (b : Bool) → (b ≡ true → A) → (b ≡ false → A) → A
by-test true h k = h refl
by-test false h k = k refl

pub clash : {A : Type 0} {b : Bool} → b ≡ true → b ≡ false → A
clash p q = absurd (true≢false (sym p ∙ q))

pub and_l : (a b : Bool) → a && b ≡ true → a ≡ true
and_l true b e = refl
and_l false b e = e

pub and_r : (a b : Bool) → a && b ≡ true → b ≡ true
and_r true b e = e
and_r false b e = absurd (false≢true e)

pub and_i : (a b : Bool) → a ≡ true → b ≡ true → a && b ≡ true
and_i true b p q = q
and_i false b p q = p

pub or-e : (a b : Bool) → a || b ≡ true → (a ≡ true) ⊎ (b ≡ true)
or-e true b e = inl refl
or-e false b e = inr e

pub or_l : (a b : Bool) → a ≡ true → a || b ≡ true
or_l true b e = refl
or_l false b e = absurd (false≢true e)

pub or_r : (a b : Bool) → b ≡ true → a || b ≡ true
or_r true b e = refl
or_r false b e = e

pub or-fl : (a b : Bool) → a || b ≡ false → a ≡ false
or-fl true b e = e
or-fl false b e = refl

pub or-fr : (a b : Bool) → a || b ≡ false → b ≡ false
or-fr true b e = absurd (true≢false e)
or-fr false b e = e

-- Two tests are equal where each gives the other.
pub both_ways : (a b : Bool) → (a ≡ true → b ≡ true) → (b ≡ true → a ≡ true) → a ≡ b
both_ways true b f g = sym (f refl)
both_ways false true f g = g refl
both_ways false false f g = refl

-- Which of two numbers is the smaller.
pub by_order : {A : Type 0} (m n : ℕ) → (m ≤ n → A) → (n < m → A) → A
by_order m n h k = by-test (leb m n) (λ e. h (leb-true m n e)) (λ e. k (leb-false m n e))

pub compare : (m n : ℕ) → (m ≤ n) ⊎ (n < m)
compare m n = by_order m n inl inr

pub same? : (m n : ℕ) → (m ≡ n) ⊎ (m ≢ n)
same? m n = by-test (eqb m n) (λ e. inl (eqb-true m n e)) (λ e. inr (eqb-false m n e))
