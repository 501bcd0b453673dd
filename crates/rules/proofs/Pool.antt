-- The pool: what a claim uses at a time, and that testing a hold at its start and at the planned starts within it tests it at every time.
use mathlib.Core.Path.{◌≡◌, refl, sym, subst}
use mathlib.Core.Logic.{◌⊎◌, inl, inr, ⊎_elim}
use mathlib.Core.Bool.{Bool, true, false, not, ◌&&◌, ◌||◌, cond}
use mathlib.Core.List.{List}
use Prim.Native.Nat.{ℕ, ◌+◌, ◌≤◌, ◌<◌}
use native.Mathlib.Omega.{arith}
use lib.Dec.{leb, ltb, eqb}
use borrow.Author.Tests.{ltb-true, lt-ltb, leb-true, le-leb, eqb-true, eqb-false, eq-eqb}
use Rattle.rules.specs.declared.Claim.{Claim}
use Rattle.rules.specs.Lists.{◌∈◌, greatest, all}
use Rattle.rules.specs.declared.Setting.{Setting}
use Rattle.rules.specs.Claims.{on, at, end_of}
use Rattle.rules.specs.Pool.{covers, units_at, used, enough, starts_within, spare}
use Rattle.rules.specs.Plans.{Spare}
use Rattle.rules.proofs.Bools.{by-test, by_order, clash, and_l, and_r, and_i, or-e, or_l, or_r}
use Rattle.rules.proofs.Lists.{greatest-base, greatest-ge, greatest-le, greatest-is, sum-le, sum-zero, all-e, all-i}

-- ── a claim in use at a time ──
pub record Covers (v : Setting) (x : ℕ) (c : Claim) : Type 0 where
  pub begun : on c ≡ false → at c ≤ x
  pub going : x < end_of v c

pub covers-e : (v : Setting) (x : ℕ) (c : Claim) → covers v x c ≡ true → Covers v x c
unfolding covers
covers-e v x c e = record {
  begun = λ o. ⊎_elim (λ p. clash p o) (leb-true (at c) x) (or-e (on c) _ (and_l (on c || leb (at c) x) _ e));
  going = ltb-true _ _ (and_r (on c || leb (at c) x) _ e);
}

pub covers-i : (v : Setting) (x : ℕ) (c : Claim) → Covers v x c → covers v x c ≡ true
unfolding covers
covers-i v x c k =
    and_i (on c || leb (at c) x) _ (by-test (on c) (or_l (on c) _) (λ o. or_r (on c) _ (le-leb (at c) x (k.begun o)))) (lt-ltb x (end_of v c) k.going)

units-yes : (v : Setting) (x : ℕ) (c : Claim) → covers v x c ≡ true → units_at v x c ≡ c.units
unfolding units_at
units-yes v x c e = rw e

units-no : (v : Setting) (x : ℕ) (c : Claim) → covers v x c ≡ false → units_at v x c ≡ 0
unfolding units_at
units-no v x c e = rw e

-- A bound on what c uses at x: there is something to show only where c covers x and draws units.
pub units-le : (v : Setting) (x : ℕ) (c : Claim) (n : ℕ) → (Covers v x c → 0 < c.units → c.units ≤ n) → units_at v x c ≤ n
units-le v x c n h =
    by-test (covers v x c)
    (λ e. by_order c.units 0 (λ z. omega (arith, units-yes v x c e)) (λ z. omega (arith, units-yes v x c e, h (covers-e v x c e) z)))
    (λ e. omega (arith, units-no v x c e))

pub units-is : (v : Setting) (x : ℕ) (c : Claim) → Covers v x c → units_at v x c ≡ c.units
units-is v x c k = units-yes v x c (covers-i v x c k)

-- What uses units covers the time.
pub units-cover : (v : Setting) (x : ℕ) (c : Claim) → 0 < units_at v x c → Covers v x c × (0 < c.units)
units-cover v x c z =
    by-test (covers v x c)
    (λ e. (covers-e v x c e, omega (arith, units-yes v x c e)))
    (λ e. absurd (omega (arith, units-no v x c e)))

-- c uses at x no more than d at y, where d covers y if c covers x.
pub units_mono : (v u : Setting) (x y : ℕ) (c d : Claim) → c.units ≡ d.units → (Covers v x c → 0 < c.units → Covers u y d) → units_at v x c ≤ units_at u y d
units_mono v u x y c d e h = units-le v x c (units_at u y d) (λ k z. omega (arith, units-is u y d (h k z)))

-- With its end a claim's use stays.
pub units-same : (v u : Setting) (x : ℕ) (c : Claim) → end_of v c ≡ end_of u c → units_at v x c ≡ units_at u x c
units-same v u x c e =
    omega (
      arith,
      units_mono v u x x c c refl (λ k z. record { begun = k.begun; going = omega (arith, k.going) }),
      units_mono u v x x c c refl (λ k z. record { begun = k.begun; going = omega (arith, k.going) }),
    )

-- ── spare units over a hold ──
module _ (v : Setting) (qs : List Claim) (w : Claim) where
  -- The last planned start from s up to x, or s.
  begins : ℕ → Claim → ℕ
  begins x c = cond (not (on c) && leb (at c) x) (at c) 0

  begins_cases : (P : ℕ → Type 0) (x : ℕ) (c : Claim) → P 0 → (on c ≡ false → at c ≤ x → P (at c)) → P (begins x c)
  unfolding begins
  begins_cases P x c h k =
      by-test (on c)
      (λ o. rw o h)
      (λ o. by-test (leb (at c) x) (λ e. rw (o, e) (k o (leb-true _ _ e))) (λ e. rw (o, e) h))

  begins-is : (x : ℕ) (c : Claim) → on c ≡ false → at c ≤ x → begins x c ≡ at c
  unfolding begins
  begins-is x c o h = rw (o, le-leb (at c) x h)

  last : ℕ → ℕ → ℕ
  last s x = greatest (begins x) s qs

  -- Use does not rise between planned starts.
  used-last : (s x : ℕ) → s ≤ x → used v x qs ≤ used v (last s x) qs
  unfolding used last
  used-last s x h =
      sum-le (units_at v x) (units_at v (last s x)) qs
      (λ c m. units_mono v v x (last s x) c c refl
      (λ k z. record {
        begun = λ o. omega (arith, greatest-ge (begins x) s m, begins-is x c o (k.begun o));
        going = omega (arith, k.going, greatest-le (begins x) s qs x h (λ d i. begins_cases (λ (n : ℕ). n ≤ x) x d (omega arith) (λ o q. q)));
      }))

  pub spare-e : (s : ℕ) → spare v qs w s ≡ true → Spare v qs w s
  unfolding spare enough last
  spare-e s e z x h l =
      ⊎_elim
      (λ p. absurd (omega (arith, eqb-true w.units 0 p)))
      (λ p. omega (arith, used-last s x h, at_last (leb-true _ _ (and_l (enough v qs w s) _ p)) (and_r (enough v qs w s) _ p) (greatest-is (begins x) s qs)))
      (or-e (eqb w.units 0) _ e)
    where
      at_last : used v s qs + w.units ≤ v.pool → all (λ c. not (starts_within w s c) || enough v qs w (at c)) qs ≡ true
          → (last s x ≡ s) ⊎ ((c : Claim) × c ∈ qs × (begins x c ≡ last s x)) → used v (last s x) qs + w.units ≤ v.pool
      at_last p q (inl r) = subst (λ (n : ℕ). used v n qs + w.units ≤ v.pool) (sym r) p
      at_last p q (inr r) =
          begins_cases (λ (n : ℕ). n ≡ last s x → used v (last s x) qs + w.units ≤ v.pool) x r.0
          (λ y.
          let b = greatest-base (begins x) s qs in
          let f : last s x ≡ s = omega arith in
          subst (λ (n : ℕ). used v n qs + w.units ≤ v.pool) (sym f) p)
          (λ o i y.
          let b = greatest-base (begins x) s qs in
          let t = all-e (λ c. not (starts_within w s c) || enough v qs w (at c)) q r.1 in
          let f : enough v qs w (at r.0) ≡ true = simp (o, le-leb s (at r.0) (omega arith), lt-ltb (at r.0) (s + w.length) (omega arith)) at t in
          subst (λ (n : ℕ). used v n qs + w.units ≤ v.pool) y (leb-true _ _ f))
          r.2

  pub spare-i : (s : ℕ) → 1 ≤ w.length → Spare v qs w s → spare v qs w s ≡ true
  unfolding spare enough
  spare-i s long k =
      by-test (eqb w.units 0)
      (λ e. or_l (eqb w.units 0) _ e)
      (λ e.
      let n = eqb-false w.units 0 e in
      let z : 0 < w.units = omega arith in
      or_r (eqb w.units 0) _ (and_i (enough v qs w s) _ (here z s (omega arith) (omega arith)) (all-i _ qs (λ c m. each z c))))
    where
      here : 0 < w.units → (x : ℕ) → s ≤ x → x < s + w.length → enough v qs w x ≡ true
      here z x h l = le-leb _ _ (k z x h l)

      each : 0 < w.units → (c : Claim) → (not (starts_within w s c) || enough v qs w (at c)) ≡ true
      each z c = more (on c) (leb s (at c)) refl (ltb (at c) (s + w.length)) refl
        where
          more : (a b : Bool) → leb s (at c) ≡ b → (d : Bool) → ltb (at c) (s + w.length) ≡ d → (not (not a && (b && d)) || enough v qs w (at c)) ≡ true
          more true b e d f = refl
          more false false e d f = refl
          more false true e false f = refl
          more false true e true f = here z (at c) (leb-true _ _ e) (ltb-true _ _ f)

  -- A claim that draws none asks nothing of the pool.
  pub spare-none : w.units ≡ 0 → (s : ℕ) → spare v qs w s ≡ true
  unfolding spare
  spare-none z s = or_l (eqb w.units 0) _ (eq-eqb w.units 0 z)

  -- After all ends nothing is in use.
  pub spare-last : w.units ≤ v.pool → Spare v qs w (greatest (end_of v) v.clock qs)
  unfolding used
  spare-last d z x h l =
      omega (
        arith,
        sum-zero (units_at v x) qs (λ c m.
            let q = units-le v x c 0 (λ k y. absurd (omega (arith, k.going, greatest-ge (end_of v) v.clock m))) in
            omega arith),
      )
