-- Laws of specs/Groups.antt for callers: `shares` as a statement of the groups 0 to 63, what a union shares, and the lowest group of a set
-- with its others. They rest on inductions over the groups: `from-elim`, `from-intro`, `from-same`,
-- `from_or`; `set_same` and `from-has` for sets; `lowest-from` and `none_from` for the lowest. Assumes nothing.
use mathlib.Core.Path.{◌≡◌, refl, sym, ap, ◌∙◌}
use mathlib.Core.Bool.{Bool, true, false, not, ◌&&◌, ◌||◌, cond, and_comm, and-eq-true_iff, and-or_distrib_right, or-true, false≢true}
use Prim.Native.Nat.{ℕ, zero, suc, ◌+◌, ◌*◌, ◌/◌, ◌%◌, ◌^◌, ◌<◌}
use native.Mathlib.Nat.{add-zero, zero-add, div-one, two-pow-succ}
use native.Mathlib.Omega.{arith}
use lib.Dec.{eqb, ltb}
use lib.Pow.{shr-shr}
use borrow.Author.Tests.{eqb-true, eqb-false, ltb-true, ltb-false, not-true, not-false}
use Rattle.std.proofs.Common.{Some, None}
use Rattle.std.proofs.Common.{is_some}
use Rattle.groups.specs.Groups.{has, some_from, some_group, common, CommonLowest, shares, empty, within, set_from, set_where, union, without, only, lowest_from, lowest, lowest_missing, others}

-- Group j + 1 from g on is group j from the next one on.
next : (g j : ℕ) → g + suc j ≡ suc g + j
next g j = omega arith

-- Where one of the k groups from g on passes p, there is such a group.
from-elim : (k g : ℕ) (p : ℕ → Bool) → some_from k g p ≡ true → (j : ℕ) × (j < k) × (p (g + j) ≡ true)
unfolding some_from
from-elim zero g p e = absurd (false≢true e)
from-elim (suc k) g p e = go (from-elim k (suc g) p) (p g) refl e
  where
    go : (some_from k (suc g) p ≡ true → (j : ℕ) × (j < k) × (p (suc g + j) ≡ true)) → (t : Bool) → p g ≡ t
        → (t || some_from k (suc g) p) ≡ true → (j : ℕ) × (j < suc k) × (p (g + j) ≡ true)
    go later true q e = (0, omega arith, rw add-zero q)
    go later false q e = let r = later e in (suc r.0, omega arith, rw next r.2)

-- Where a group of the k from g on passes p, one of them does.
from-intro : (k g : ℕ) (p : ℕ → Bool) (j : ℕ) → j < k → p (g + j) ≡ true → some_from k g p ≡ true
unfolding some_from
from-intro zero g p j h e = absurd (omega arith)
from-intro (suc k) g p zero h e = rw (rw add-zero at e)
from-intro (suc k) g p (suc j) h e = rw (from-intro k (suc g) p j (omega arith) (rw next at e)) (or-true (p g))

-- Where none of them does, each fails it.
from-none : (k g : ℕ) (p : ℕ → Bool) → some_from k g p ≡ false → (j : ℕ) → j < k → p (g + j) ≡ false
from-none k g p e j h = go (p (g + j)) refl
  where
    go : (t : Bool) → p (g + j) ≡ t → t ≡ false
    go true q = sym (from-intro k g p j h q) ∙ e
    go false q = refl

-- Tests that agree at each of the k groups give the same answer.
pub from-same : (k g : ℕ) (p q : ℕ → Bool) → ((h : ℕ) → h < g + k → p h ≡ q h) → some_from k g p ≡ some_from k g q
unfolding some_from
from-same zero g p q s = refl
from-same (suc k) g p q s = rw (s g (omega arith), from-same k (suc g) p q (λ h l. s h (omega arith)))

-- The groups from the next one on.
pub from_next : (k g : ℕ) (p : ℕ → Bool) → some_from k (suc g) p ≡ some_from k g (λ h. p (suc h))
unfolding some_from
from_next zero g p = refl
from_next (suc k) g p = rw (from_next k (suc g) p)

-- Of two tests some group passes either exactly where one passes the first or one passes the second.
from_or : (k g : ℕ) (p q : ℕ → Bool) → some_from k g (λ h. p h || q h) ≡ (some_from k g p || some_from k g q)
unfolding some_from
from_or zero g p q = refl
from_or (suc k) g p q = rw (from_or k (suc g) p q) (go (p g) (q g) (some_from k (suc g) p))
  where
    go : (a b c : Bool) → (a || b || (c || some_from k (suc g) q)) ≡ (a || c || (b || some_from k (suc g) q))
    go true b c = refl
    go false true c = sym (or-true c)
    go false false c = refl

-- The lowest of the k groups from g on that passes p is one of them, passes, and no group below it does.
lowest-from : (k g : ℕ) (p : ℕ → Bool) (h : ℕ) → lowest_from k g p ≡ Some h → (j : ℕ) × (j < k) × (g + j ≡ h) × (p h ≡ true) × (some_from j g p ≡ false)
unfolding some_from lowest_from
lowest-from zero g p h e = let z : ◌≡◌ {A = ℕ} 0 1 = cc in absurd (omega arith)
lowest-from (suc k) g p h e = go (lowest-from k (suc g) p h) (p g) refl e
  where
    go : (lowest_from k (suc g) p ≡ Some h → (j : ℕ) × (j < k) × (suc g + j ≡ h) × (p h ≡ true) × (some_from j (suc g) p ≡ false)) → (t : Bool) → p g ≡ t
        → cond t (Some g) (lowest_from k (suc g) p) ≡ Some h
        → (j : ℕ) × (j < suc k) × (g + j ≡ h) × (p h ≡ true) × (some_from j g p ≡ false)
    go later true q e = let z : g ≡ h = cc e in (0, omega arith, omega arith, ap p (sym z) ∙ q, refl)
    go later false q e = let r = later e in (suc r.0, omega arith, omega (arith, r.2), r.3, rw (q, r.4))

-- One passes exactly where the lowest that does is not none.
found_from : (k g : ℕ) (p : ℕ → Bool) → is_some (lowest_from k g p) ≡ some_from k g p
unfolding lowest_from some_from
found_from zero g p = refl
found_from (suc k) g p = go (found_from k (suc g) p) (p g)
  where
    go : is_some (lowest_from k (suc g) p) ≡ some_from k (suc g) p → (t : Bool) → is_some (cond t (Some g) (lowest_from k (suc g) p)) ≡ (t || some_from k (suc g) p)
    go later true = refl
    go later false = later

-- Tests that agree at each of the k groups have the same lowest.
pub lowest-same : (k g : ℕ) (p q : ℕ → Bool) → ((h : ℕ) → h < g + k → p h ≡ q h) → lowest_from k g p ≡ lowest_from k g q
unfolding lowest_from
lowest-same zero g p q s = refl
lowest-same (suc k) g p q s = rw (s g (omega arith), lowest-same k (suc g) p q (λ h l. s h (omega arith)))

-- Two sets share a group exactly where some group is in both.
pub shares-some : (a b : ℕ) → shares a b ≡ some_group (λ g. has a g && has b g)
unfolding shares common
shares-some a b = found_from 64 0 (λ g. has a g && has b g)

-- Where some group passes p, there is such a group.
pub some-elim : (p : ℕ → Bool) → some_group p ≡ true → (g : ℕ) × (g < 64) × (p g ≡ true)
some-elim p e = let r = from-elim _ 0 p e in (r.0, omega arith, rw zero-add at r.2)

-- Where a group passes p, some group does.
pub some-intro : (p : ℕ → Bool) (g : ℕ) → g < 64 → p g ≡ true → some_group p ≡ true
some-intro p g h e = from-intro _ 0 p g (omega arith) (rw zero-add e)

-- Where no group passes p, each fails it.
pub none-elim : (p : ℕ → Bool) → some_group p ≡ false → (g : ℕ) → g < 64 → p g ≡ false
none-elim p e g h = rw zero-add at (from-none _ 0 p e g (omega arith))

-- Where each group fails p, none passes it.
pub none-intro : (p : ℕ → Bool) → ((g : ℕ) → g < 64 → p g ≡ false) → some_group p ≡ false
none-intro p f = go (some_group p) refl
  where
    go : (t : Bool) → some_group p ≡ t → t ≡ false
    go true q = let r = some-elim p q in sym r.2 ∙ f r.0 r.1
    go false q = refl

-- Sets of groups that pass tests which agree at each of the k groups are equal.
pub set_same : (k g : ℕ) (p q : ℕ → Bool) → ((h : ℕ) → h < g + k → p h ≡ q h) → set_from k g p ≡ set_from k g q
unfolding set_from
set_same zero g p q s = refl
set_same (suc k) g p q s = rw (s g (omega arith), set_same k (suc g) p q (λ h l. s h (omega arith)))

pub one-add : (j : ℕ) → 1 + j ≡ suc j
one-add j = omega arith

-- The lowest digit of a set, and the others.
low_digit : (t : Bool) (n : ℕ) → (cond t 1 0 + 2 * n) % 2 ≡ cond t 1 0
low_digit true n = omega arith
low_digit false n = omega arith

high-digits : (t : Bool) (n : ℕ) → (cond t 1 0 + 2 * n) / 2 ≡ n
high-digits true n = omega arith
high-digits false n = omega arith

-- A set of k groups is a number of k bits.
pub set-under : (k g : ℕ) (p : ℕ → Bool) → set_from k g p < 2 ^ k
unfolding set_from
set-under zero g p = omega arith
set-under (suc k) g p = more (p g) (set-under k (suc g) p)
  where
    more : (t : Bool) {n : ℕ} → n < 2 ^ k → cond t 1 0 + 2 * n < 2 ^ suc k
    more true h = let e = two-pow-succ k in omega arith
    more false h = let e = two-pow-succ k in omega arith

-- Group g + j is in the set of the k groups from g on that pass p exactly where it passes.
from-has : (k g : ℕ) (p : ℕ → Bool) (j : ℕ) → j < k → has (set_from k g p) j ≡ p (g + j)
unfolding set_from
from-has zero g p j h = absurd (omega arith)
from-has (suc k) g p zero h = rw (add-zero, div-one, low_digit) (go (p g))
  where
    go : (t : Bool) → eqb (cond t 1 0) 1 ≡ t
    go true = refl
    go false = refl
from-has (suc k) g p (suc j) h =
    let n = cond (p g) 1 0 + 2 * set_from k (suc g) p in
    let half : n / 2 ≡ set_from k (suc g) p = high-digits (p g) (set_from k (suc g) p) in
    let all : n / 2 ^ suc j ≡ set_from k (suc g) p / 2 ^ j = rw (← one-add j) (sym (shr-shr n 1 j)) ∙ ap (λ m. m / 2 ^ j) half in
    ap (λ m. eqb (m % 2) 1) all ∙ from-has k (suc g) p j (omega arith) ∙ ap p (sym (next g j))

-- A group is in the set of the groups that pass p exactly where it passes.
pub has-set : (p : ℕ → Bool) (g : ℕ) → g < 64 → has (set_where p) g ≡ p g
has-set p g h = from-has _ 0 p g (omega arith) ∙ ap p (zero-add g)

-- Sharing a group does not depend on the order.
pub common-sym : (a b : ℕ) → common a b ≡ common b a
unfolding common
common-sym a b = lowest-same _ 0 _ _ (λ g h. and_comm (has a g) (has b g))

pub shares-sym : (a b : ℕ) → shares a b ≡ shares b a
unfolding shares
shares-sym a b = ap is_some (common-sym a b)

-- Two sets that share a group have a group in both.
pub shares-elim : (a b : ℕ) → shares a b ≡ true → (g : ℕ) × (g < 64) × (has a g ≡ true) × (has b g ≡ true)
shares-elim a b e =
    let r = some-elim _ (sym (shares-some a b) ∙ e) in
    let both = (and-eq-true_iff (has a r.0) (has b r.0)).0 r.2 in
    (r.0, r.1, both.0, both.1)

-- Two sets with a group in both share a group.
pub shares-intro : (a b g : ℕ) → g < 64 → has a g ≡ true → has b g ≡ true → shares a b ≡ true
shares-intro a b g h p q = shares-some a b ∙ some-intro _ g h (rw (p, q))

-- A union shares a group with x exactly where one of its two sets does.
pub union-shares : (a b x : ℕ) → shares (union a b) x ≡ (shares a x || shares b x)
unfolding union
union-shares a b x = rw (shares-some (union a b) x, shares-some a x, shares-some b x) (from-same _ 0 _ _ at-group ∙ from_or _ 0 _ _)
  where
    at-group : (g : ℕ) → g < 64 → (has (union a b) g && has x g) ≡ (has a g && has x g || has b g && has x g)
    at-group g h = rw (has-set _ g h) (and-or_distrib_right (has a g) (has b g) (has x g))

-- A set is within another by the other's groups 0 to 63 alone: two that have none are alike.
pub within_none : (a b c : ℕ) → empty b ≡ true → empty c ≡ true → within a b ≡ within a c
unfolding empty within
within_none a b c p q =
    ap not (from-same _ 0 _ _ (λ g h. ap (λ (t : Bool). has a g && not t) (none-elim (has b) (not-true _ p) g h ∙ sym (none-elim (has c) (not-true _ q) g h))))

-- The groups of a union, those of a set of one group,
pub union-has : (a b g : ℕ) → g < 64 → has (union a b) g ≡ (has a g || has b g)
unfolding union
union-has a b g h = has-set _ g h

pub only-has : (g h : ℕ) → h < 64 → has (only g) h ≡ eqb h g
unfolding only
only-has g h l = has-set _ h l

-- and those of a set without another.
pub without-has : (a b g : ℕ) → g < 64 → has (without a b) g ≡ (has a g && not (has b g))
unfolding without
without-has a b g h = has-set _ g h

-- Where there is no lowest, no group passes.
none_from : (k g : ℕ) (p : ℕ → Bool) → lowest_from k g p ≡ None → some_from k g p ≡ false
unfolding some_from lowest_from
none_from zero g p e = refl
none_from (suc k) g p e = go (none_from k (suc g) p) (p g) e
  where
    go : (lowest_from k (suc g) p ≡ None → some_from k (suc g) p ≡ false) → (t : Bool) → cond t (Some g) (lowest_from k (suc g) p) ≡ None
        → (t || some_from k (suc g) p) ≡ false
    go later true e = let z : ◌≡◌ {A = ℕ} 0 1 = cc in absurd (omega arith)
    go later false e = later e

-- The lowest common group of two sets is in both, and no lower one is; where there is none, no group is in both.
pub common-lowest : (a b : ℕ) → CommonLowest a b
unfolding common
common-lowest a b = record {
  in_both = λ g e.
      let r = lowest-from _ 0 both g e in
      let t = (and-eq-true_iff (has a g) (has b g)).0 r.3 in
      (omega (arith, r.1, r.2), t.0, t.1);
  none_lower = λ g e h l p q.
      let r = lowest-from _ 0 both g e in
      apart h (rw zero-add at (from-none r.0 0 both r.4 h (omega (arith, r.2)))) p q;
  none_common = λ e h l. apart h (none-elim both (none_from _ 0 both e) h l);
}
  where
    both : ℕ → Bool
    both g = has a g && has b g

    apart : (h : ℕ) → both h ≡ false → has a h ≡ true → has b h ≡ true → ⊥
    apart h f p q = false≢true (sym f ∙ rw (p, q) refl)

-- The lowest group of a set is in it.
pub lowest-in : (a g : ℕ) → lowest a ≡ Some g → (g < 64) × (has a g ≡ true)
unfolding lowest
lowest-in a g e = let r = lowest-from _ 0 _ g e in (omega (arith, r.1, r.2), r.3)

-- A set without a lowest group has none.
pub lowest-none : (a : ℕ) → lowest a ≡ None → (g : ℕ) → g < 64 → has a g ≡ false
unfolding lowest
lowest-none a e = none-elim (has a) (none_from _ 0 _ e)

-- The lowest group that is not in a set: those below it are. Where there is none, all are in it.
pub missing-lowest : (a g : ℕ) → lowest_missing a ≡ Some g → (g < 64) × (has a g ≡ false) × ((h : ℕ) → h < g → has a h ≡ true)
unfolding lowest_missing
missing-lowest a g e =
    let r = lowest-from _ 0 _ g e in (
      omega (arith, r.1, r.2),
      not-true (has a g) r.3,
      λ h l. not-false (has a h) (rw zero-add at (from-none r.0 0 (λ g. not (has a g)) r.4 h (omega (arith, r.2)))),
    )

pub missing-none : (a : ℕ) → lowest_missing a ≡ None → (g : ℕ) → g < 64 → has a g ≡ true
unfolding lowest_missing
missing-none a e g h = not-false (has a g) (none-elim (λ g. not (has a g)) (none_from _ 0 _ e) g h)

-- Its others are all but that one.
pub others-has : (a g : ℕ) → lowest a ≡ Some g → (h : ℕ) → h < 64 → has (others a) h ≡ (has a h && not (eqb h g))
unfolding lowest others
others-has a g e h l = has-set _ h l ∙ go (eqb h g) refl (ltb g h) refl
  where
    r : (j : ℕ) × (j < 64) × (0 + j ≡ g) × (has a g ≡ true) × (some_from j 0 (has a) ≡ false)
    r = lowest-from _ 0 _ g e

    go : (t : Bool) → eqb h g ≡ t → (u : Bool) → ltb g h ≡ u → (has a h && some_from h 0 (has a)) ≡ (has a h && not t)
    go true q u z =
        let same : h ≡ r.0 = omega (arith, eqb-true h g q, r.2) in
        ap (λ (k : ℕ). has a h && some_from k 0 (has a)) same ∙ ap (λ (b : Bool). has a h && b) r.4
    go false q true z = ap (λ (b : Bool). has a h && b) (from-intro h 0 (has a) g (omega (arith, ltb-true)) (rw zero-add r.3))
    go false q false z =
        let d = eqb-false h g q in
        rw (rw zero-add at (from-none r.0 0 (has a) r.4 h (omega (arith, ltb-false, r.2))))
