-- Seeking a start, for any test that passes behind all ends, and at the anchor of each start where it passes.
use mathlib.Core.Path.{◌≡◌, refl, sym, subst}
use mathlib.Core.Logic.{◌⊎◌, inl, inr, ⊎_elim}
use mathlib.Core.Bool.{Bool, true, ◌&&◌, cond}
use mathlib.Core.List.Memᴰ
use mathlib.Core.List.{List}
use Prim.Native.Nat.{ℕ, ◌≤◌, ◌<◌, max}
use native.Mathlib.Omega.{arith}
use lib.Dec.{leb}
use borrow.Author.Tests.{leb-true, le-leb}
use Rattle.rules.specs.declared.Claim.{Claim}
use Rattle.rules.specs.Lists.{◌∈◌, greatest}
use Rattle.rules.specs.declared.Setting.{Setting}
use Rattle.rules.specs.Claims.{end_of}
use Rattle.rules.specs.Order.{meets}
use Rattle.rules.specs.Pool.{units_at, used}
use Rattle.rules.specs.Seeking.{candidates, seek}
use Rattle.rules.specs.Plans.{Spare}
use Rattle.rules.proofs.Bools.{by-test, by_order, and_l, and_r}
use Rattle.rules.proofs.Lists.{Each, here, there, greatest-base, greatest-ge, greatest-le, greatest-is, map-i, map_each, sum-le, least-le, least-passes, least-low}
use Rattle.rules.proofs.Order.{meets-units}
use Rattle.rules.proofs.Pool.{Covers, units_mono}

-- ── the anchor of a start: the greatest of the clock and the ends, up to it, of the claims that matter ──
end_up_to : Setting → (Claim → Bool) → ℕ → Claim → ℕ
end_up_to v matters s c = cond (matters c && leb (end_of v c) s) (end_of v c) 0

pub anchor : Setting → (Claim → Bool) → List Claim → ℕ → ℕ
anchor v matters ps s = greatest (end_up_to v matters s) v.clock ps

end_up_to-le : (v : Setting) (matters : Claim → Bool) (s : ℕ) (c : Claim) → end_up_to v matters s c ≤ s
unfolding end_up_to
end_up_to-le v matters s c =
    by-test (matters c && leb (end_of v c) s) (λ e. rw e (leb-true _ _ (and_r (matters c) _ e))) (λ e. rw e (omega arith))

module _ (v : Setting) (matters : Claim → Bool) (ps : List Claim) where
  pub anchor-le : (s : ℕ) → v.clock ≤ s → anchor v matters ps s ≤ s
  unfolding anchor
  anchor-le s h = greatest-le (end_up_to v matters s) v.clock ps s h (λ c m. end_up_to-le v matters s c)

  pub anchor-low : (s : ℕ) → v.clock ≤ anchor v matters ps s
  unfolding anchor
  anchor-low s = greatest-base (end_up_to v matters s) v.clock ps

  pub anchor-ge : (s : ℕ) (c : Claim) → c ∈ ps → matters c ≡ true → end_of v c ≤ s → end_of v c ≤ anchor v matters ps s
  unfolding anchor end_up_to
  anchor-ge s c m e p = simp (e, le-leb (end_of v c) s p) at (greatest-ge (end_up_to v matters s) v.clock m)

  anchor-is : (s : ℕ) → (anchor v matters ps s ≡ v.clock) ⊎ ((c : Claim) × c ∈ ps × (matters c ≡ true) × (end_of v c ≡ anchor v matters ps s))
  unfolding anchor end_up_to
  anchor-is s =
      ⊎_elim inl
      (λ r.
      by-test (matters r.0 && leb (end_of v r.0) s)
      (λ e. inr (r.0, r.1, and_l (matters r.0) _ e, rw e at r.2))
      (λ e. let q = rw e at r.2 in inl (omega (arith, greatest-base (end_up_to v matters s) v.clock ps))))
      (greatest-is (end_up_to v matters s) v.clock ps)

-- ── seeking ──
module _ (v : Setting) (ps : List Claim) (p : ℕ → Bool) where
  pub seek-low : v.clock ≤ seek v p ps
  unfolding seek
  seek-low = least-low p (greatest (end_of v) v.clock ps) v.clock (candidates v ps) (greatest-base (end_of v) v.clock ps) low
    where
      low : Each (λ n. v.clock ≤ n) (candidates v ps)
      low n (Memᴰ.head e) = rw e (omega arith)
      low n (Memᴰ.tail m) = map_each (λ (n : ℕ). v.clock ≤ n) (λ c. max v.clock (end_of v c)) ps (λ c i. omega arith) n m

  pub seek-passes : p (greatest (end_of v) v.clock ps) ≡ true → p (seek v p ps) ≡ true
  unfolding seek
  seek-passes last = least-passes p (greatest (end_of v) v.clock ps) (candidates v ps) last

-- A test that passes at the anchor of each start where it passes; and, for the last, behind all ends.
module _ (v : Setting) (matters : Claim → Bool) (ps : List Claim) (p : ℕ → Bool) where
  pub seek-least : ((s : ℕ) → v.clock ≤ s → p s ≡ true → p (anchor v matters ps s) ≡ true) → (s : ℕ) → v.clock ≤ s → p s ≡ true → seek v p ps ≤ s
  unfolding seek
  seek-least down s h f = go (anchor-is v matters ps s)
    where
      ok : p (anchor v matters ps s) ≡ true
      ok = down s h f

      go : (anchor v matters ps s ≡ v.clock) ⊎ ((c : Claim) × c ∈ ps × (matters c ≡ true) × (end_of v c ≡ anchor v matters ps s))
          → seek v p ps ≤ s
      go (inl a) = omega (arith, least-le p (greatest (end_of v) v.clock ps) {l = candidates v ps} here (subst (λ (x : ℕ). p x ≡ true) a ok))
      go (inr r) =
          let q : max v.clock (end_of v r.0) ≡ anchor v matters ps s = omega (arith, anchor-low v matters ps s, r.3) in
          let k = least-le p (greatest (end_of v) v.clock ps) {l = candidates v ps} (there (map-i (λ c. max v.clock (end_of v c)) r.1)) (subst (λ (x : ℕ). p x ≡ true) (sym q) ok) in
          omega (arith, anchor-le v matters ps s h)

  -- It is the clock, or the end of a claim that matters.
  pub seek_is : p (greatest (end_of v) v.clock ps) ≡ true → ((s : ℕ) → v.clock ≤ s → p s ≡ true → p (anchor v matters ps s) ≡ true)
      → (seek v p ps ≡ v.clock) ⊎ ((c : Claim) × c ∈ ps × (matters c ≡ true) × (end_of v c ≡ seek v p ps))
  seek_is last down = subst (λ (x : ℕ). (x ≡ v.clock) ⊎ ((c : Claim) × c ∈ ps × (matters c ≡ true) × (end_of v c ≡ x))) same (anchor-is v matters ps (seek v p ps))
    where
      same : anchor v matters ps (seek v p ps) ≡ seek v p ps
      same =
          omega (
            arith,
            anchor-le v matters ps (seek v p ps) (seek-low v ps p),
            seek-least down (anchor v matters ps (seek v p ps)) (anchor-low v matters ps (seek v p ps)) (down (seek v p ps) (seek-low v ps p) (seek-passes v ps p last)),
          )

-- Where there are units enough from s on, there are from its anchor on: up to s nothing ends there that w could wait for.
pub spare-down : (v : Setting) (qs : List Claim) (w : Claim) (s : ℕ) → 1 ≤ w.length → v.clock ≤ s → Spare v qs w s → Spare v qs w (anchor v (λ c. meets c w) qs s)
unfolding used
spare-down v qs w s long low k z x h l =
    by_order s x
    (λ b. k z x b (omega (arith, anchor-le v (λ c. meets c w) qs s low)))
    (λ b.
    omega (
      arith,
      k z s (omega arith) (omega arith),
      sum-le (units_at v x) (units_at v s) qs (λ c m. units_mono v v x s c c refl (λ q y. still c m b q y)),
    ))
  where
    still : (c : Claim) → c ∈ qs → x < s → Covers v x c → 0 < c.units → Covers v s c
    still c m b q y =
        by_order (end_of v c) s
        (λ e. absurd (omega (arith, q.going, anchor-ge v (λ c. meets c w) qs s c m (meets-units c w y z) e)))
        (λ e. record { begun = λ o. omega (arith, q.begun o); going = e })
