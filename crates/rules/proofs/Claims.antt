-- Conflicts and ends: all that the other laws know of them.
use mathlib.Core.Path.{◌≡◌, refl, ◌∙◌, ap}
use mathlib.Core.Bool.{true, false}
use Prim.Native.Nat.{ℕ, ◌+◌, ◌≤◌, ◌<◌, max}
use native.Mathlib.Omega.{arith}
use borrow.Author.Tests.{le-leb, lt-leb}
use Rattle.groups.proofs.Groups.{shares-sym}
use Rattle.rules.specs.declared.Claim.{Claim}
use Rattle.rules.specs.declared.Phase.{Phase}
use Rattle.rules.specs.declared.Phase.TheVariants.{Waiting, On}
use Rattle.rules.specs.declared.Setting.{Setting}
use Rattle.rules.specs.Claims.{is_on, mark, on, at, with_phase, rival, held_until, end_of, remaining}
use Rattle.rules.proofs.Bools.{by-test, by_order, clash}

-- The rules at clock t with a pool of k and a grace of d.
abbrev pub setting : ℕ → ℕ → ℕ → Setting
setting t k d = record { clock = t; pool = k; grace = d }

pub conflicts-sym : (c d : Claim) → rival c d ≡ true → rival d c ≡ true
conflicts-sym c d h = shares-sym d.groups c.groups ∙ h

-- A waiting claim is its start.
pub waiting-is : (c : Claim) → on c ≡ false → with_phase c (Waiting (at c)) ≡ c
waiting-is c o = ap (with_phase c) (go c.phase o)
  where
    go : (p : Phase) → is_on p ≡ false → Waiting (mark p) ≡ p
    go (Waiting s) o = refl
    go (On g) o = clash refl o

pub held-prompt : (v : Setting) (p : ℕ) → v.clock ≤ p → held_until v p ≡ p
unfolding held_until
held-prompt v p h = rw (le-leb v.clock p h)

pub held-late : (v : Setting) (p : ℕ) → p < v.clock → held_until v p ≡ v.clock + v.grace
unfolding held_until
held-late v p h = rw (lt-leb v.clock p h)

-- With a grace of 0 an end is "the greater of promised end and the table's clock" (document 01).
pub held-documented : (v : Setting) (p : ℕ) → v.grace ≡ 0 → held_until v p ≡ max p v.clock
held-documented v p z = by_order v.clock p (λ h. omega (arith, held-prompt v p h)) (λ h. omega (arith, held-late v p h))

held-ge : (v : Setting) (p : ℕ) → p ≤ held_until v p
held-ge v p = by_order v.clock p (λ h. omega (arith, held-prompt v p h)) (λ h. omega (arith, held-late v p h))

held-clock : (v : Setting) (p : ℕ) → v.clock ≤ held_until v p
held-clock v p = by_order v.clock p (λ h. omega (arith, held-prompt v p h)) (λ h. omega (arith, held-late v p h))

held-le : (v : Setting) (p b : ℕ) → p ≤ b → v.clock + v.grace ≤ b → held_until v p ≤ b
held-le v p b h k = by_order v.clock p (λ q. omega (arith, held-prompt v p q)) (λ q. omega (arith, held-late v p q))

pub end-wait : (v : Setting) (c : Claim) → on c ≡ false → end_of v c ≡ at c + c.length
unfolding end_of
end-wait v c e = rw e

pub end_on : (v : Setting) (c : Claim) → on c ≡ true → end_of v c ≡ held_until v (at c + c.length)
unfolding end_of
end_on v c e = rw e

-- A holder ends at or after the clock, and at or after its promised end; at that, while the clock is not past it.
pub end-clock : (v : Setting) (c : Claim) → on c ≡ true → v.clock ≤ end_of v c
end-clock v c o = omega (arith, end_on v c o, held-clock v (at c + c.length))

pub end_ge : (v : Setting) (c : Claim) → on c ≡ true → at c + c.length ≤ end_of v c
end_ge v c o = omega (arith, end_on v c o, held-ge v (at c + c.length))

pub end-no-overrun : (v : Setting) (c : Claim) → on c ≡ true → v.clock ≤ at c + c.length → end_of v c ≡ at c + c.length
end-no-overrun v c o h = end_on v c o ∙ held-prompt v (at c + c.length) h

-- An end is bounded by what bounds clock + grace and start or grant + length.
pub end-le : (v : Setting) (c : Claim) (b : ℕ) → at c + c.length ≤ b → v.clock + v.grace ≤ b → end_of v c ≤ b
end-le v c b h k = by-test (on c) (λ o. omega (arith, end_on v c o, held-le v (at c + c.length) b h k)) (λ o. omega (arith, end-wait v c o))

-- A claim has no more time left than its length or the grace, if it was not granted in the future.
pub remaining-le : (v : Setting) (c : Claim) (b : ℕ) → (on c ≡ true → at c ≤ v.clock) → c.length ≤ b → v.grace ≤ b → remaining v c ≤ b
unfolding remaining
remaining-le v c b h l g =
    by-test (on c)
    (λ o. rw o (omega (arith, h o, end-le v c (v.clock + b) (omega (arith, h o)) (omega arith))))
    (λ o. rw o (omega arith))
