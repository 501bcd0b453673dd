-- The planned start of a new claim that draws no units is at most its start bound: each number below the start is ruled out by a
-- conflicting claim, and a claim rules out only so many. Proved once for intervals.
use mathlib.Core.Path.{◌≡◌, refl}
use mathlib.Core.Bool.{Bool, true, false, ◌&&◌, cond}
use mathlib.Core.List.{List}
use Prim.Native.Nat.{ℕ, zero, suc, ◌+◌, ◌-◌, ◌≤◌, ◌<◌, min}
use native.Mathlib.Omega.{arith}
use Rattle.rules.specs.declared.Claim.{Claim}
use Rattle.rules.specs.Lists.{◌∈◌, sum, all}
use Rattle.rules.specs.declared.Setting.{Setting}
use Rattle.rules.specs.Claims.{on, at, rival, end_of, remaining}
use Rattle.rules.specs.Order.{rivals}
use Rattle.rules.specs.Pool.{spare}
use Rattle.rules.specs.Plans.{Sane}
use Rattle.rules.specs.Placing.{clear, fits, place, contention, start_bound}
use Rattle.rules.proofs.Bools.{by-test, clash}
use Rattle.rules.proofs.Lists.{sum-le, sum-gap, sum-add, all-not, keep-i}
use Rattle.rules.proofs.Claims.{end-wait}
use Rattle.rules.proofs.Pool.{spare-none}
use Rattle.rules.proofs.Placing.{barred, fits-e, place-least}

-- Where each x from a on, n of them, lies in a claim's interval, n is at most the sum of the intervals' parts below a + n.
cover : (lo hi : Claim → ℕ) (l : List Claim) (a n : ℕ)
    → ((x : ℕ) → a ≤ x → x < a + n → (c : Claim) × c ∈ l × (lo c ≤ x) × (x < hi c))
    → n ≤ sum (λ c. min (hi c) (a + n) - lo c) l
cover lo hi l a zero h = omega arith
cover lo hi l a (suc n) h =
    let ih = cover lo hi l a n (λ x p q. h x p (omega arith)) in
    let r = h (a + n) (omega arith) (omega arith) in
    omega
    (arith, sum-gap (λ (c : Claim). min (hi c) (a + n) - lo c) (λ (c : Claim). min (hi c) (a + suc n) - lo c) 1 r.1 (omega (arith, r.2, r.3)) (λ d m. omega arith))

-- Where each x from a to below b lies in an interval, b − a is at most the sum of their lengths.
covered : (lo hi : Claim → ℕ) (l : List Claim) (a b : ℕ)
    → ((x : ℕ) → a ≤ x → x < b → (c : Claim) × c ∈ l × (lo c ≤ x) × (x < hi c))
    → b ≤ a + sum (λ c. hi c - lo c) l
covered lo hi l a b h =
    let k = cover lo hi l a (b - a) (λ x p q. h x p (omega arith)) in
    omega (arith, sum-le (λ (c : Claim). min (hi c) (a + (b - a)) - lo c) (λ (c : Claim). hi c - lo c) l (λ c m. omega arith))

and-false-l : (a b : Bool) → b ≡ true → a && b ≡ false → a ≡ false
and-false-l true b p e = clash p e
and-false-l false b p e = refl

module _ (v : Setting) (ps : List Claim) (w : Claim) where
  -- The first number that c rules out; the first behind them is its end.
  from : Claim → ℕ
  from c = cond (on c) v.clock (suc (at c) - w.length)

  ruled-by : (x : ℕ) → v.clock ≤ x → (c : Claim) → clear v w x c ≡ false → (rival c w ≡ true) × (from c ≤ x) × (x < end_of v c)
  unfolding from
  ruled-by x h c e =
      let b = barred v w x c e in
      (b.0, by-test (on c) (λ o. rw o h) (λ o. rw o (omega (arith, b.2 o))), b.1)

  ruled_out : w.units ≡ 0 → (x : ℕ) → v.clock ≤ x → fits v ps w x ≡ false → (c : Claim) × c ∈ rivals ps w × (from c ≤ x) × (x < end_of v c)
  unfolding fits
  ruled_out z x h e =
      let r = all-not (clear v w x) ps (and-false-l (all (clear v w x) ps) (spare v ps w x) (spare-none v ps w z x) e) in
      let q = ruled-by x h r.0 r.2 in
      (r.0, keep-i (λ c. rival c w) q.0 r.1, q.1, q.2)

  -- So many it rules out.
  count : (c : Claim) → end_of v c - from c ≤ remaining v c + (w.length - 1)
  unfolding from remaining
  count c = by-test (on c) (λ e. rw e (omega arith)) (λ e. rw e (omega (arith, end-wait v c e)))

  pub place-bound : Sane v w → w.units ≡ 0 → place v ps w ≤ start_bound v ps w
  unfolding start_bound contention
  place-bound sane z =
      omega (
        arith,
        covered from (end_of v) (rivals ps w) v.clock (place v ps w) below,
        sum-le (λ c. end_of v c - from c) (λ c. remaining v c + (w.length - 1)) (rivals ps w) (λ c m. count c),
        sum-add (remaining v) (w.length - 1) (rivals ps w),
      )
    where
      below : (x : ℕ) → v.clock ≤ x → x < place v ps w → (c : Claim) × c ∈ rivals ps w × (from c ≤ x) × (x < end_of v c)
      below x h k = by-test (fits v ps w x) (λ e. absurd (omega (arith, place-least v ps w sane x h (fits-e v ps w x e)))) (ruled_out z x h)
