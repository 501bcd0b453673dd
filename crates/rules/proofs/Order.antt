-- Which claim comes before which; tickets; induction in the order of packing.
use mathlib.Core.Path.{◌≡◌, ◌∙◌, ap}
use mathlib.Core.Logic.{◌⊎◌, inl, inr, ⊎_elim, ◌≢◌}
use mathlib.Core.Bool.{Bool, true, false}
use mathlib.Core.List.Memᴰ
use mathlib.Core.List.{List, [], ◌∷◌, ◌++◌, map}
use lib.Dec.{ltb}
use Prim.Native.Nat.{ℕ, zero, suc, ◌≤◌, ◌<◌}
use native.Mathlib.Omega.{arith}
use borrow.Author.Tests.{ltb-true, ltb-false, lt-ltb}
use Rattle.rules.specs.declared.Claim.{Claim}
use Rattle.rules.specs.Lists.{◌∈◌, keep}
use Rattle.rules.specs.declared.Setting.{Setting}
use Rattle.rules.specs.Claims.{on, at, rival, end_of}
use Rattle.rules.specs.Order.{key, before, precedes, meets}
use Rattle.rules.specs.Plans.{Ascending, Sane, Separated}
use Rattle.rules.proofs.Bools.{and_l, and_r, and_i, or-e, or_l, or_r, or-fl, or-fr, clash, by-test, by_order}
use Rattle.rules.proofs.Lists.{Each, here, there, none, ascends_same, ascends-map, ascends-keep, ascends-snoc}
use Rattle.rules.proofs.Claims.{end-wait}

-- ── before ──
pub before_on : (c w : Claim) → on c ≡ true → before c w ≡ true
unfolding before
before_on c w o = or_l (on c) _ o

pub before-key : (c w : Claim) → key c < key w → before c w ≡ true
unfolding before
before-key c w l = or_r (on c) _ (lt-ltb (key c) (key w) l)

pub before-lt : (c w : Claim) → before c w ≡ true → on c ≡ false → key c < key w
unfolding before
before-lt c w e o = ⊎_elim (λ p. clash p o) (ltb-true (key c) (key w)) (or-e (on c) _ e)

pub before-not : (c w : Claim) → before c w ≡ false → (on c ≡ false) × (key w ≤ key c)
unfolding before
before-not c w e = (or-fl (on c) _ e, ltb-false (key c) (key w) (or-fr (on c) _ e))

pub keys-differ : {v : Setting} (c d : Claim) → Sane v c → Sane v d → c.ticket ≢ d.ticket → key c ≢ key d
keys-differ c d s r n = λ e. n (omega (arith, s.small, r.small))

-- Of two claims, the second waiting, one is before the other.
pub either-before : {v : Setting} (c d : Claim) → Sane v c → Sane v d → c.ticket ≢ d.ticket → (before c d ≡ true) ⊎ (before d c ≡ true)
either-before c d s r n = by-test (before c d) inl (λ b. let z = keys-differ c d s r n in inr (before-key d c (omega (arith, (before-not c d b).1))))

-- Strong induction in the order of packing.
pub by_key : (P : Claim → Type 0) (ps : List Claim)
    → ((w : Claim) → w ∈ ps → on w ≡ false → ((c : Claim) → c ∈ ps → on c ≡ false → before c w ≡ true → P c) → P w)
    → (w : Claim) → w ∈ ps → on w ≡ false → P w
by_key P ps h w m o = go (suc (key w)) w m o (omega arith)
  where
    go : (j : ℕ) (w : Claim) → w ∈ ps → on w ≡ false → key w < j → P w
    go zero w m o l = absurd (omega arith)
    go (suc j) w m o l = h w m o (λ c k q b. let z = before-lt c w b q in go j c k q (omega arith))

-- The last, in the order of packing, of those that pass p: none, or one that no other follows.
abbrev pub LastOf : (Claim → Bool) → List Claim → Type 0
LastOf p l = (w : Claim) × w ∈ l × (p w ≡ true) × ((c : Claim) → c ∈ l → p c ≡ true → key c ≤ key w)

pub last_of : (p : Claim → Bool) (l : List Claim) → Each (λ c. p c ≡ false) l ⊎ LastOf p l
last_of p [] = inl (λ c m. none m)
last_of p (c ∷ l) =
    by-test (p c)
    (λ e. ⊎_elim
    (λ h. inr (c, here, e, first c (omega arith) (λ d i q. clash q (h d i))))
    (λ r. by_order (key c) (key r.0)
    (λ k. inr (r.0, there r.1, r.2, first r.0 k r.3))
    (λ k. inr (c, here, e, first c (omega arith) (λ d i q. omega (arith, r.3 d i q)))))
    (last_of p l))
    (λ e. ⊎_elim
    (λ h. inl (λ d m. ⊎_elim (λ q. ap p q ∙ e) (h d) (Memᴰ.cases_cons m)))
    (λ r. inr (r.0, there r.1, r.2, λ d m z. ⊎_elim (λ q. clash z (ap p q ∙ e)) (λ i. r.3 d i z) (Memᴰ.cases_cons m)))
    (last_of p l))
  where
    first : (w : Claim) → key c ≤ key w → ((d : Claim) → d ∈ l → p d ≡ true → key d ≤ key w) → (d : Claim) → d ∈ (c ∷ l) → p d ≡ true → key d ≤ key w
    first w k h d m e = ⊎_elim (λ q. omega (arith, ap key q)) (λ i. h d i e) (Memᴰ.cases_cons m)

-- ── meets ──
pub meets-rival : (c w : Claim) → rival c w ≡ true → meets c w ≡ true
meets-rival c w h = or_l (rival c w) _ h

pub meets-units : (c w : Claim) → 0 < c.units → 0 < w.units → meets c w ≡ true
meets-units c w h k = or_r (rival c w) _ (and_i (ltb 0 c.units) _ (lt-ltb 0 c.units h) (lt-ltb 0 w.units k))

-- A claim that draws no units meets only those that it conflicts with.
pub meets-none : (c w : Claim) → w.units ≡ 0 → meets c w ≡ true → rival c w ≡ true
meets-none c w z e =
    ⊎_elim (λ h. h) (λ h. absurd (omega (arith, ltb-true 0 w.units (and_r (ltb 0 c.units) _ h)))) (or-e (rival c w) _ e)

-- ── precedes ──
pub precedes-conflicts : (c w : Claim) → precedes c w ≡ true → rival c w ≡ true
unfolding precedes
precedes-conflicts c w e = and_l (rival c w) _ e

pub precedes-e : (c w : Claim) → precedes c w ≡ true → (on c ≡ true) ⊎ (at c < at w)
unfolding precedes
precedes-e c w e = ⊎_elim inl (λ p. inr (ltb-true (at c) (at w) p)) (or-e (on c) _ (and_r (rival c w) _ e))

pub precedes-on : (c w : Claim) → rival c w ≡ true → on c ≡ true → precedes c w ≡ true
unfolding precedes
precedes-on c w h o = and_i (rival c w) _ h (or_l (on c) _ o)

pub precedes-lt : (c w : Claim) → rival c w ≡ true → at c < at w → precedes c w ≡ true
unfolding precedes
precedes-lt c w h l = and_i (rival c w) _ h (or_r (on c) _ (lt-ltb (at c) (at w) l))

pub precedes-before : {v : Setting} (c w : Claim) → Sane v c → precedes c w ≡ true → before c w ≡ true
precedes-before c w s e = ⊎_elim (before_on c w) (λ l. before-key c w (omega (arith, s.small))) (precedes-e c w e)

-- What ends as w starts, or sooner, is before it, and precedes it where they conflict.
pub ends-before : (v : Setting) (c w : Claim) → Sane v c → end_of v c ≤ at w → before c w ≡ true
ends-before v c w s l = by-test (on c) (before_on c w) (λ o. before-key c w (omega (arith, end-wait v c o, s.long, s.small)))

pub ends-precedes : (v : Setting) (c w : Claim) → Sane v c → rival c w ≡ true → end_of v c ≤ at w → precedes c w ≡ true
ends-precedes v c w s h l = by-test (on c) (precedes-on c w h) (λ o. precedes-lt c w h (omega (arith, end-wait v c o, s.long)))

-- Where nobody overlaps, a conflicting claim before w precedes it.
pub before-precedes : (v : Setting) (ps : List Claim) → Separated v ps → (c w : Claim) → Sane v c → c ∈ ps → w ∈ ps → on w ≡ false → before c w ≡ true
    → rival c w ≡ true → precedes c w ≡ true
before-precedes v ps f c w s m k o b h = ends-precedes v c w s h (f.behind c w m k o b h)

-- ── tickets ──
abbrev ticket_of : Claim → ℕ
ticket_of c = c.ticket

pub ascending-same : (l : List Claim) → Ascending l → (c d : Claim) → c ∈ l → d ∈ l → c.ticket ≡ d.ticket → c ≡ d
ascending-same l = ascends_same ticket_of l

pub ascending-map : (f : Claim → Claim) (l : List Claim) → ((c : Claim) → (f c).ticket ≡ c.ticket) → Ascending l → Ascending (map f l)
ascending-map f l h = ascends-map ticket_of ticket_of f l h

pub ascending-keep : (p : Claim → Bool) (l : List Claim) → Ascending l → Ascending (keep p l)
ascending-keep p l = ascends-keep ticket_of p l

pub ascending-snoc : (l : List Claim) (w : Claim) → Ascending l → Each (λ c. c.ticket < w.ticket) l → Ascending (l ++ (w ∷ []))
ascending-snoc l w = ascends-snoc ticket_of l w
