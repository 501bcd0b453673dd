-- Packed starts stay small: at most a bound B on the clock and the holders' ends, and the lengths of all that is pending. So no sum in
-- code wraps.
use mathlib.Core.Path.{◌≡◌, refl, ap}
use mathlib.Core.Logic.{◌⊎◌, inl, inr}
use mathlib.Core.Bool.{true, false, cond}
use mathlib.Core.List.{List}
use Prim.Native.Nat.{ℕ, ◌+◌, ◌≤◌, ◌<◌}
use native.Mathlib.Omega.{arith}
use lib.Dec.{ltb}
use borrow.Author.Tests.{ltb-true, lt-ltb, le-ltb}
use Rattle.rules.specs.declared.Claim.{Claim}
use Rattle.rules.specs.declared.Phase.TheVariants.{Waiting}
use Rattle.rules.specs.Lists.{◌∈◌, sum}
use Rattle.rules.specs.declared.Setting.{Setting}
use Rattle.rules.specs.Claims.{on, with_phase, end_of}
use Rattle.rules.specs.Order.{key, before, meets}
use Rattle.rules.specs.Packing.{start_for, ahead, packed_start}
use Rattle.rules.specs.Plans.{Sane}
use Rattle.rules.proofs.Lists.{Each, sum-le, sum-gap}
use Rattle.rules.proofs.Bools.{by-test}
use Rattle.rules.proofs.Claims.{end-wait}
use Rattle.rules.proofs.Order.{before-lt, by_key}
use Rattle.rules.proofs.Packing.{moved-cases, ahead-e, start-eq}
use Rattle.rules.proofs.Starts.{for-is}

-- The length of c, if c is packed before w.
sooner : Claim → Claim → ℕ
sooner w c = cond (ltb (key c) (key w)) c.length 0

sooner-le : (w c : Claim) → sooner w c ≤ c.length
unfolding sooner
sooner-le w c = by-test (ltb (key c) (key w)) (λ e. rw e (omega arith)) (λ e. rw e (omega arith))

sooner-mono : (c w d : Claim) → key c < key w → sooner c d ≤ sooner w d
unfolding sooner
sooner-mono c w d l =
    by-test (ltb (key d) (key c))
    (λ e. let k = ltb-true (key d) (key c) e in rw (e, lt-ltb (key d) (key w) (omega arith)) (omega arith))
    (λ e. rw e (omega arith))

sooner-gap : (c w : Claim) → key c < key w → sooner c c + c.length ≤ sooner w c
unfolding sooner
sooner-gap c w l = rw (lt-ltb (key c) (key w) l, le-ltb (key c) (key c) (omega arith)) (omega arith)

pub start-cap : (v : Setting) (B : ℕ) (ps : List Claim) → Each (Sane v) ps → v.clock ≤ B → ((c : Claim) → c ∈ ps → on c ≡ true → end_of v c ≤ B)
    → (w : Claim) → w ∈ ps → on w ≡ false → packed_start v ps w ≤ B + sum (λ c. c.length) ps
start-cap v B ps sane h k w m o = omega (arith, near w m o, sum-le (sooner w) (λ (c : Claim). c.length) ps (λ c m. sooner-le w c))
  where
    near : (w : Claim) → w ∈ ps → on w ≡ false → packed_start v ps w ≤ B + sum (sooner w) ps
    near = by_key (λ (w : Claim). packed_start v ps w ≤ B + sum (sooner w) ps) ps (λ w m o ih. rw (start-eq v ps w) (go w ih (for-is v (ahead (packed_start v ps) ps w) w (sane w m))))
      where
        go : (w : Claim) → ((c : Claim) → c ∈ ps → on c ≡ false → before c w ≡ true → packed_start v ps c ≤ B + sum (sooner c) ps)
            → (start_for v (ahead (packed_start v ps) ps w) w ≡ v.clock)
            ⊎ ((c : Claim) × c ∈ ahead (packed_start v ps) ps w × (meets c w ≡ true) × (end_of v c ≡ start_for v (ahead (packed_start v ps) ps w) w))
            → start_for v (ahead (packed_start v ps) ps w) w ≤ B + sum (sooner w) ps
        go w ih (inl e) = omega arith
        go w ih (inr r) =
            let a = ahead-e (packed_start v ps) ps w r.1 in
            let q =
            moved-cases (λ (x : Claim). end_of v x ≤ B + sum (sooner w) ps) (packed_start v ps) a.0 (λ o. omega (arith, k a.0 a.1 o))
            (λ o.
            let l = before-lt a.0 w a.2 o in
            omega (
              arith,
              ih a.0 a.1 o a.2,
              end-wait v (with_phase a.0 (Waiting (packed_start v ps a.0))) refl,
              sum-gap (sooner a.0) (sooner w) a.0.length a.1 (sooner-gap a.0 w l) (λ d i. sooner-mono a.0 w d l),
            )) in
            omega (arith, ap (end_of v) a.3, r.3)
