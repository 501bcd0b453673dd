-- What the code's words have to do with the definitions of specs/Groups.antt. Group g is the digit of 2^g, and two words are equal
-- exactly where no digit differs: `differ-from`, the one induction. Three of the laws say which two words to compare; those of
-- union, without and others rest on `word-from`: a word is the set of the groups that it has. Assumes nothing.
use mathlib.Core.Path.{◌≡◌, refl, sym, ap, ◌∙◌}
use mathlib.Core.Bool.{Bool, true, false, not, ◌&&◌, ◌||◌, cond, not-not, and-true, and-false, false≢true}
use Prim.Native.Nat.{ℕ, zero, suc, ◌+◌, ◌*◌, ◌/◌, ◌%◌, ◌^◌, ◌-◌, ◌≤◌, ◌<◌, min, max}
use native.Mathlib.Nat.{add-zero, zero-add, div-one, zero-div, two-pow-succ}
use native.Mathlib.Numerals.{add-one}
use native.Mathlib.Omega.{arith}
use lib.Bits.{differ as unlike, bit_and, bit_or, and_shr, and_step, and_le_l, or_shr, or_step, or_lt, bit_xor, xor_shr, xor_step, xor_lt, and_self, and_le_r}
use lib.Count.{count_trailing_zeros, under}
use lib.Dec.{eqb}
use lib.Pow.{shr-shr, pow_mono}
use borrow.Author.Tests.{eq-eqb, ne_eqb, eqb-true, eqb-false, not-false}
use Rattle.std.proofs.Common.{Some, None}
use Rattle.groups.specs.Groups.{has, some_from, some_group, common, shares, empty, within, set_from, union, without, only, lowest_from, lowest, lowest_missing, others}
use Rattle.groups.proofs.Groups.{one-add, from-same, from_next, lowest-same, shares-some, none-intro, none-elim, set_same, without-has, lowest-in}

-- The digit of x that stands for group g.
abbrev digit : ℕ → ℕ → ℕ
digit x g = x / 2 ^ g % 2

-- The words x and y differ at group g.
abbrev differ : ℕ → ℕ → ℕ → Bool
differ x y g = not (eqb (digit x g) (digit y g))

-- What holds of 0 and of 1 holds of every digit.
two : (P : ℕ → Type 0) → P 0 → P 1 → (n : ℕ) → P (n % 2)
two P h0 h1 n = go (n % 2) (omega arith)
  where
    go : (d : ℕ) → d < 2 → P d
    go zero h = h0
    go (suc zero) h = h1
    go (suc (suc d)) h = absurd (omega arith)

-- The same for two digits.
four : (P : ℕ → ℕ → Type 0) → P 0 0 → P 0 1 → P 1 0 → P 1 1 → (m n : ℕ) → P (m % 2) (n % 2)
four P h00 h01 h10 h11 m n = two (λ u. P u (n % 2)) (two (P 0) h00 h01 n) (two (P 1) h10 h11 n) m

-- Two numbers differ exactly where their lowest digits or their halves do.
halves : (x y : ℕ) (s t : Bool) → eqb (x % 2) (y % 2) ≡ s → eqb (x / 2) (y / 2) ≡ t → (not s || not t) ≡ not (eqb x y)
halves x y true true p q =
    let d = eqb-true (x % 2) (y % 2) p in
    let r = eqb-true (x / 2) (y / 2) q in
    let z : x ≡ y = omega arith in
    rw (eq-eqb x y z)
halves x y true false p q = rw (ne_eqb x y (λ e. eqb-false (x / 2) (y / 2) q (ap (λ k. k / 2) e)))
halves x y false t p q = rw (ne_eqb x y (λ e. eqb-false (x % 2) (y % 2) p (ap (λ k. k % 2) e)))

-- The digits from the next group on.
shifted : (n g : ℕ) → n / 2 ^ suc g ≡ n / 2 ^ g / 2
shifted n g = rw (← add-one g) (sym (shr-shr n g 1))

-- Words of k digits from group g on differ exactly where they differ at one of these groups.
differ-from : (k g x y : ℕ) → x / 2 ^ g < 2 ^ k → y / 2 ^ g < 2 ^ k → some_from k g (differ x y) ≡ not (eqb (x / 2 ^ g) (y / 2 ^ g))
unfolding some_from
differ-from zero g x y h l =
    let z : x / 2 ^ g ≡ y / 2 ^ g = omega arith in
    rw (eq-eqb _ _ z)
differ-from (suc k) g x y h l =
    let p = two-pow-succ k in
    let sx = shifted x g in
    let sy = shifted y g in
    rw (differ-from k (suc g) x y (omega arith) (omega arith), sx, sy) (halves (x / 2 ^ g) (y / 2 ^ g) _ _ refl refl)

-- Where a test passes the groups at which two words differ, some group passes it exactly where the words differ.
some-differ : (p : ℕ → Bool) (x y : ℕ) → x < 2 ^ 64 → y < 2 ^ 64 → ((g : ℕ) → p g ≡ differ x y g) → some_group p ≡ not (eqb x y)
some-differ p x y h l s = from-same 64 0 p (differ x y) (λ g k. s g) ∙ (simp div-one at (differ-from 64 0 x y (simp div-one h) (simp div-one l)))

-- A group is in `a & b` exactly where it is in both.
and-digit : (a b g : ℕ) → digit (bit_and a b) g ≡ min (digit a g) (digit b g)
and-digit a b g = rw and_shr (omega (arith, and_step (a / 2 ^ g) (b / 2 ^ g)))

-- No group is in the word 0.
no_digit : (g : ℕ) → digit 0 g ≡ 0
no_digit g = rw (zero-div (2 ^ g))

and-has : (a b g : ℕ) → has (bit_and a b) g ≡ (has a g && has b g)
and-has a b g = rw and-digit (four (λ u v. eqb (min u v) 1 ≡ (eqb u 1 && eqb v 1)) refl refl refl refl (a / 2 ^ g) (b / 2 ^ g))

-- The lowest common group of two sets is the lowest of `a & b`.
pub common-word : (a b : ℕ) → lowest (bit_and a b) ≡ common a b
unfolding lowest common
common-word a b = lowest-same 64 0 _ _ (λ g h. and-has a b g)

-- The word 0 shares no group.
pub zero-shares : (b : ℕ) → shares 0 b ≡ false
zero-shares b = shares-some 0 b ∙ none-intro _ (λ g h. rw no_digit)

-- A set is empty exactly where its word is 0.
pub empty-word : (a : ℕ) → a < 2 ^ 64 → empty a ≡ eqb a 0
unfolding empty
empty-word a h = ap not (some-differ _ a 0 h (omega arith) at-group) ∙ not-not _
  where
    at-group : (g : ℕ) → has a g ≡ differ a 0 g
    at-group g = rw no_digit (two (λ u. eqb u 1 ≡ not (eqb u 0)) refl refl (a / 2 ^ g))

-- A set a is within b exactly where `a & b` is a.
pub within_word : (a b : ℕ) → a < 2 ^ 64 → within a b ≡ eqb (bit_and a b) a
unfolding within
within_word a b h = ap not (some-differ _ (bit_and a b) a (omega (arith, and_le_l a b)) h at-group) ∙ not-not _
  where
    at-group : (g : ℕ) → (has a g && not (has b g)) ≡ differ (bit_and a b) a g
    at-group g =
        rw and-digit
        (four (λ u v. (eqb u 1 && not (eqb v 1)) ≡ not (eqb (min u v) u)) refl refl refl refl (a / 2 ^ g) (b / 2 ^ g))

-- A group is in `a | b` exactly where it is in one of the two.
or-digit : (a b g : ℕ) → digit (bit_or a b) g ≡ max (digit a g) (digit b g)
or-digit a b g = rw or_shr (omega (arith, or_step (a / 2 ^ g) (b / 2 ^ g)))

or-has : (a b g : ℕ) → has (bit_or a b) g ≡ (has a g || has b g)
or-has a b g =
    rw or-digit
    (four (λ u v. eqb (max u v) 1 ≡ (eqb u 1 || eqb v 1)) refl refl refl refl (a / 2 ^ g) (b / 2 ^ g))

-- A word of k digits from group g on is the set of the groups that it has.
word-from : (k g x : ℕ) → x / 2 ^ g < 2 ^ k → set_from k g (has x) ≡ x / 2 ^ g
unfolding set_from
word-from zero g x h = omega arith
word-from (suc k) g x h =
    let p = two-pow-succ k in
    let s = shifted x g in
    rw (word-from k (suc g) x (omega arith), s) (two-parts (x / 2 ^ g))
  where
    two-parts : (y : ℕ) → cond (eqb (y % 2) 1) 1 0 + 2 * (y / 2) ≡ y
    two-parts y = omega (arith, two (λ u. cond (eqb u 1) 1 0 ≡ u) refl refl y)

-- `a | b` is the union.
pub union-word : (a b : ℕ) → a < 2 ^ 64 → b < 2 ^ 64 → union a b ≡ bit_or a b
unfolding union
union-word a b h l =
    set_same 64 0 _ (has (bit_or a b)) (λ g k. sym (or-has a b g))
    ∙ (simp div-one at (word-from 64 0 (bit_or a b) (simp div-one (or_lt 64 a b h l))))

-- A group is in `a ^ (a & b)` exactly where it is in a and not in b.
xor-digit : (a b g : ℕ) → digit (bit_xor a b) g ≡ unlike (digit a g) (digit b g)
xor-digit a b g = rw xor_shr (omega (arith, xor_step (a / 2 ^ g) (b / 2 ^ g), four (λ u v. unlike u v < 2) (omega arith) (omega arith) (omega arith) (omega arith) (a / 2 ^ g) (b / 2 ^ g)))

left-has : (a b g : ℕ) → has (bit_xor a (bit_and a b)) g ≡ (has a g && not (has b g))
left-has a b g =
    rw (xor-digit, and-digit)
    (four (λ u v. eqb (unlike u (min u v)) 1 ≡ (eqb u 1 && not (eqb v 1))) refl refl refl refl (a / 2 ^ g) (b / 2 ^ g))

-- `a ^ (a & b)` is a without b.
pub without-word : (a b : ℕ) → a < 2 ^ 64 → without a b ≡ bit_xor a (bit_and a b)
unfolding without
without-word a b h =
    set_same 64 0 _ (has (bit_xor a (bit_and a b))) (λ g k. sym (left-has a b g))
    ∙ (simp div-one at (word-from 64 0 (bit_xor a (bit_and a b)) (simp div-one (xor_lt 64 a (bit_and a b) h (omega (arith, and_le_l a b))))))

-- ── one group ──
-- Of the k groups from g on, the set of one of them, and of none.
set-none : (k g n : ℕ) → n < g → set_from k g (λ h. eqb h n) ≡ 0
unfolding set_from
set-none zero g n l = refl
set-none (suc k) g n l = rw (ne_eqb g n (λ e. omega arith), set-none k (suc g) n (omega arith))

set_past : (k g n : ℕ) → g + k ≤ n → set_from k g (λ h. eqb h n) ≡ 0
unfolding set_from
set_past zero g n l = refl
set_past (suc k) g n l = rw (ne_eqb g n (λ e. omega arith), set_past k (suc g) n (omega arith))

set-one : (k g n : ℕ) → g ≤ n → n < g + k → set_from k g (λ h. eqb h n) ≡ 2 ^ (n - g)
unfolding set_from
set-one zero g n l h = absurd (omega arith)
set-one (suc k) g n l h = go (eqb g n) refl (set-one k (suc g) n)
  where
    go : (t : Bool) → eqb g n ≡ t → (suc g ≤ n → n < suc g + k → set_from k (suc g) (λ h. eqb h n) ≡ 2 ^ (n - suc g)) → cond t 1 0 + 2 * set_from k (suc g) (λ h. eqb h n) ≡ 2 ^ (n - g)
    go true q later = let e = eqb-true g n q in let z : n - g ≡ 0 = omega arith in rw (z, set-none k (suc g) n (omega arith))
    go false q later =
        let d = eqb-false g n q in
        let z : n - g ≡ suc (n - suc g) = omega arith in
        rw (z, later (omega arith) (omega arith)) (sym (two-pow-succ (n - suc g) ∙ omega arith))

-- `1 << g` is the set of group g; a number past 63 is no group.
pub only-word : (g : ℕ) → g ≤ 63 → (only g ≡ 2 ^ g) × (1 * 2 ^ g % 18446744073709551616 ≡ 2 ^ g)
unfolding only
only-word g h =
    let z : g - 0 ≡ g = omega arith in
    let t : 2 ^ g ≤ 9223372036854775808 = pow_mono h in
    (set-one 64 0 g (omega arith) (omega arith) ∙ ap (λ n. 2 ^ n) z, omega arith)

pub only_none : (g : ℕ) → 63 < g → only g ≡ 0
unfolding only
only_none g h = set_past 64 0 g (omega arith)

-- Every group is in the greatest word.
all-has : (g : ℕ) → g < 64 → has 18446744073709551615 g ≡ true
unfolding some_from
all-has g h = not-false (has 18446744073709551615 g) (none-elim (λ g. not (has 18446744073709551615 g)) refl g h)

-- The lowest group that is not in a set is the lowest of the others.
pub missing-word : (a : ℕ) → lowest (without 18446744073709551615 a) ≡ lowest_missing a
unfolding lowest lowest_missing
missing-word a = lowest-same 64 0 _ _ (λ g h. without-has 18446744073709551615 a g h ∙ ap (λ (b : Bool). b && not (has a g)) (all-has g h))

-- ── the lowest group ──
-- Of a word with a digit from group g on, k of them, the zeros below the first tell the lowest group.
zeros-from : (k g x : ℕ) → 0 < x / 2 ^ g → x / 2 ^ g < 2 ^ k → lowest_from k g (has x) ≡ Some (g + count_trailing_zeros k (x / 2 ^ g))
unfolding lowest_from count_trailing_zeros
zeros-from zero g x p h = absurd (omega arith)
zeros-from (suc k) g x p h =
    let s = shifted x g in
    let q = two-pow-succ k in
    go (x / 2 ^ g % 2) (λ o. zeros-from k (suc g) x (omega arith) (omega arith) ∙ ap (λ n. Some (suc g + count_trailing_zeros k n)) s) (omega arith)
  where
    go : (r : ℕ) → (r ≡ 0 → lowest_from k (suc g) (has x) ≡ Some (suc g + count_trailing_zeros k (x / 2 ^ g / 2))) → r < 2
        → cond (eqb r 1) (Some g) (lowest_from k (suc g) (has x)) ≡ Some (g + under r (count_trailing_zeros k (x / 2 ^ g / 2)))
    go zero later l = later refl ∙ ap Some (one_more (count_trailing_zeros k (x / 2 ^ g / 2)))
      where
        one_more : (z : ℕ) → suc g + z ≡ g + suc z
        one_more z = omega arith
    go (suc zero) later l = ap Some (sym (add-zero g))
    go (suc (suc r)) later l = absurd (omega arith)

-- The lowest group of a word that is not 0; 0 has none.
pub lowest-word : (a : ℕ) → 0 < a → a < 2 ^ 64 → lowest a ≡ Some (count_trailing_zeros 64 a)
unfolding lowest
lowest-word a p h = simp (div-one, zero-add) at (zeros-from 64 0 a (simp div-one p) (simp div-one h))

pub lowest-zero : lowest 0 ≡ None
unfolding lowest lowest_from
lowest-zero = refl

-- Group g of a word's half is the next group of the word.
half-has : (x g : ℕ) → has x (suc g) ≡ has (x / 2) g
half-has x g =
    let e : x / 2 ^ suc g ≡ x / 2 / 2 ^ g = rw (← one-add g) (sym (shr-shr x 1 g)) in
    ap (λ n. eqb (n % 2) 1) e

first-has : (x : ℕ) → has x 0 ≡ eqb (x % 2) 1
first-has x = ap (λ n. eqb (n % 2) 1) (div-one x)

-- What `x & (x - 1)` has: the groups of x that have another below.
cleared : (g x : ℕ) → has (bit_and x (x - 1)) g ≡ (has x g && some_from g 0 (has x))
unfolding some_from
cleared zero x =
    let e : bit_and x (x - 1) % 2 ≡ 0 = omega (arith, and_step x (x - 1)) in
    first-has (bit_and x (x - 1)) ∙ ap (λ d. eqb d 1) e ∙ sym (and-false (has x 0))
cleared (suc g) x = half-has (bit_and x (x - 1)) g ∙ go (x % 2) refl (cleared g (x / 2)) ∙ rw (half-has x g, from_next g 0 (has x), first-has x)
  where
    go : (r : ℕ) → x % 2 ≡ r → has (bit_and (x / 2) (x / 2 - 1)) g ≡ (has (x / 2) g && some_from g 0 (has (x / 2)))
        → has (bit_and x (x - 1) / 2) g ≡ (has (x / 2) g && (eqb r 1 || some_from g 0 (λ h. has x (suc h))))
    go zero o later =
        let h : (x - 1) / 2 ≡ x / 2 - 1 = omega arith in
        let e : bit_and x (x - 1) / 2 ≡ bit_and (x / 2) (x / 2 - 1) = omega (arith, and_step x (x - 1), ap (bit_and (x / 2)) h) in
        ap (λ n. has n g) e ∙ later ∙ ap (λ b. has (x / 2) g && b) (from-same g 0 _ _ (λ h l. sym (half-has x h)))
    go (suc zero) o later =
        let h : (x - 1) / 2 ≡ x / 2 = omega arith in
        let e : bit_and x (x - 1) / 2 ≡ x / 2 = omega (arith, and_step x (x - 1), ap (bit_and (x / 2)) h, and_self (x / 2)) in
        ap (λ n. has n g) e ∙ sym (and-true (has (x / 2) g))
    go (suc (suc r)) o later = absurd (omega arith)

-- `a & (a - 1)` is a without its lowest group.
pub others-word : (a : ℕ) → a < 2 ^ 64 → others a ≡ bit_and a (a - 1)
unfolding others
others-word a h =
    set_same 64 0 _ (has (bit_and a (a - 1))) (λ g k. sym (cleared g a))
    ∙ (simp div-one at (word-from 64 0 (bit_and a (a - 1)) (simp div-one (omega (arith, and_le_l a (a - 1))))))

-- No group is in the word 0.
pub zero_has : (g : ℕ) → has 0 g ≡ false
zero_has g = ap (λ d. eqb d 1) (no_digit g)

-- A walk through the groups of a set ends.
pub others-less : (a g : ℕ) → a < 2 ^ 64 → lowest a ≡ Some g → others a < a
others-less a g h e = go (eqb a 0) refl
  where
    go : (t : Bool) → eqb a 0 ≡ t → others a < a
    go true q = absurd (false≢true (sym (zero_has g) ∙ ap (λ n. has n g) (sym (eqb-true a 0 q)) ∙ (lowest-in a g e).1))
    go false q = let n = eqb-false a 0 q in omega (arith, others-word a h, and_le_r a (a - 1))
