-- Laws of the functions of specs/Lists, by membership.
use mathlib.Core.Path.{◌≡◌, refl, sym, ◌∙◌, ap, subst}
use mathlib.Core.Logic.{◌⊎◌, inl, inr, ⊎_elim, ◌≢◌}
use mathlib.Core.Bool.{Bool, true, false, cond, true≢false, false≢true}
use mathlib.Core.List.Memᴰ
use mathlib.Core.List.{List, [], ◌∷◌, ◌++◌, map}
use Prim.Native.Nat.{ℕ, zero, suc, ◌+◌, ◌*◌, ◌≤◌, ◌<◌}
use native.Mathlib.Omega.{arith}
use native.Mathlib.Nat.{min-eq_left, min-eq_right, le_of_lt}
use lib.Dec.{eqb}
use lib.ListN.{length, drop}
use borrow.Author.Tests.{eqb-true, eqb-false, eq-eqb}
use Rattle.rules.specs.Lists.{◌∈◌, greatest, least, sum, all, any, keep, first_with, Ascends}
use Rattle.rules.proofs.Bools.{and_l, and_r, and_i, or-e, or_l, or_r, or-fl, or-fr, split, clash, by-test, by_order}

-- Every element has P; every two have R.
abbrev pub Each : {A : Type 0} → (A → Type 0) → List A → Type 0
Each {A} P l = (x : A) → x ∈ l → P x

abbrev pub Each2 : {A : Type 0} → (A → A → Type 0) → List A → Type 0
Each2 {A} R l = (x y : A) → x ∈ l → y ∈ l → R x y

module _ {A : Type 0} where
  pub here : {x : A} {l : List A} → x ∈ (x ∷ l)
  here = Memᴰ.head refl

  pub there : {x y : A} {l : List A} → x ∈ l → x ∈ (y ∷ l)
  there m = Memᴰ.tail m

  pub none : {B : Type 0} {x : A} → x ∈ [] → B
  none m = absurd (Memᴰ.not-nil m)

  -- ── greatest ──
  pub greatest-base : (f : A → ℕ) (b : ℕ) (l : List A) → b ≤ greatest f b l
  unfolding greatest
  greatest-base f b [] = omega arith
  greatest-base f b (x ∷ l) = omega (arith, greatest-base f b l)

  pub greatest-ge : (f : A → ℕ) (b : ℕ) {x : A} {l : List A} → x ∈ l → f x ≤ greatest f b l
  unfolding greatest
  greatest-ge f b (Memᴰ.head {x = y} {xs = l} e) = rw e (omega arith)
  greatest-ge f b (Memᴰ.tail {x = y} {xs = l} m) = omega (arith, greatest-ge f b m)

  pub greatest-le : (f : A → ℕ) (b : ℕ) (l : List A) (n : ℕ) → b ≤ n → Each (λ x. f x ≤ n) l → greatest f b l ≤ n
  unfolding greatest
  greatest-le f b [] n p h = p
  greatest-le f b (x ∷ l) n p h = omega (arith, greatest-le f b l n p (λ y m. h y (there m)), h x here)

  pub greatest-is : (f : A → ℕ) (b : ℕ) (l : List A) → (greatest f b l ≡ b) ⊎ ((x : A) × x ∈ l × (f x ≡ greatest f b l))
  unfolding greatest
  greatest-is f b [] = inl refl
  greatest-is f b (x ∷ l) =
      by_order (f x) (greatest f b l)
      (λ h. ⊎_elim (λ e. inl (omega arith)) (λ r. inr (r.0, there r.1, omega (arith, r.2))) (greatest-is f b l))
      (λ h. inr (x, here, omega arith))

  -- ── sums ──
  pub sum-le : (f g : A → ℕ) (l : List A) → Each (λ x. f x ≤ g x) l → sum f l ≤ sum g l
  unfolding sum
  sum-le f g [] h = omega arith
  sum-le f g (x ∷ l) h = omega (arith, sum-le f g l (λ y m. h y (there m)), h x here)

  pub sum-le-each : (f : A → ℕ) (k : ℕ) (l : List A) → Each (λ x. f x ≤ k) l → sum f l ≤ length l * k
  unfolding sum
  sum-le-each f k [] h = omega arith
  sum-le-each f k (x ∷ l) h = omega (arith, h x here, sum-le-each f k l (λ y m. h y (there m)))

  -- Where one of the numbers grows by n and none falls, the sum grows by n.
  pub sum-gap : (f g : A → ℕ) (n : ℕ) {x : A} {l : List A} → x ∈ l → f x + n ≤ g x → Each (λ y. f y ≤ g y) l → sum f l + n ≤ sum g l
  unfolding sum
  sum-gap f g n (Memᴰ.head {x = y} {xs = l} e) p h =
      let q : f y + n ≤ g y = subst (λ (z : A). f z + n ≤ g z) e p in
      omega (arith, sum-le f g l (λ z m. h z (there m)))
  sum-gap f g n (Memᴰ.tail {x = y} {xs = l} m) p h = omega (arith, sum-gap f g n m p (λ z k. h z (there k)), h y here)

  pub sum-zero : (f : A → ℕ) (l : List A) → Each (λ x. f x ≡ 0) l → sum f l ≡ 0
  unfolding sum
  sum-zero f [] h = refl
  sum-zero f (x ∷ l) h = omega (arith, sum-zero f l (λ y m. h y (there m)), h x here)

  pub sum-cong : (f g : A → ℕ) (l : List A) → Each (λ x. f x ≡ g x) l → sum f l ≡ sum g l
  sum-cong f g l h = omega (arith, sum-le f g l (λ x m. omega (arith, h x m)), sum-le g f l (λ x m. omega (arith, h x m)))

  pub sum_both : (f g : A → ℕ) (l : List A) → sum (λ x. f x + g x) l ≡ sum f l + sum g l
  unfolding sum
  sum_both f g [] = refl
  sum_both f g (x ∷ l) = omega (arith, sum_both f g l)

  pub sum-keep : (f : A → ℕ) (p : A → Bool) (l : List A) → sum f (keep p l) ≡ sum (λ x. cond (p x) (f x) 0) l
  unfolding sum keep
  sum-keep f p [] = refl
  sum-keep f p (x ∷ l) = let ih = sum-keep f p l in by-test (p x) (λ e. rw e (omega arith)) (λ e. rw e (omega arith))

  pub sum-keep-le : (f : A → ℕ) (p : A → Bool) (l : List A) → sum f (keep p l) ≤ sum f l
  unfolding sum keep
  sum-keep-le f p [] = omega arith
  sum-keep-le f p (x ∷ l) = let ih = sum-keep-le f p l in by-test (p x) (λ e. rw e (omega arith)) (λ e. rw e (omega arith))

  pub sum-snoc : (f : A → ℕ) (l : List A) (w : A) → sum f (l ++ (w ∷ [])) ≡ sum f l + f w
  unfolding sum
  sum-snoc f [] w = omega arith
  sum-snoc f (x ∷ l) w = omega (arith, sum-snoc f l w)

  pub sum-append : (f : A → ℕ) (a b : List A) → sum f (a ++ b) ≡ sum f a + sum f b
  unfolding sum
  sum-append f [] b = omega arith
  sum-append f (x ∷ a) b = omega (arith, sum-append f a b)

  -- Among elements with ascending numbers, the one of number k alone may take n more.
  pub sum-but : (ticket f g : A → ℕ) (k n : ℕ) (l : List A) → Ascends ticket l → Each (λ x. ticket x ≢ k → f x ≤ g x) l → Each (λ x. ticket x ≡ k → f x ≤ g x + n) l
      → sum f l ≤ sum g l + n
  unfolding sum
  sum-but ticket f g k n [] u h i = omega arith
  sum-but ticket f g k n (x ∷ l) u h i =
      by-test (eqb (ticket x) k)
      (λ e.
      let q = eqb-true (ticket x) k e in
      omega (arith, i x here q, sum-le f g l (λ y m. h y (there m) (λ z. omega (arith, u.0 y m)))))
      (λ e. omega (arith, h x here (eqb-false (ticket x) k e), sum-but ticket f g k n l u.1 (λ y m. h y (there m)) (λ y m. i y (there m))))

  pub sum-add : (f : A → ℕ) (k : ℕ) (l : List A) → sum (λ x. f x + k) l ≡ sum f l + length l * k
  unfolding sum
  sum-add f k [] = omega arith
  sum-add f k (x ∷ l) = omega (arith, sum-add f k l)

  -- ── all, any ──
  pub all-e : (p : A → Bool) {x : A} {l : List A} → all p l ≡ true → x ∈ l → p x ≡ true
  unfolding all
  all-e p h (Memᴰ.head {x = y} {xs = l} e) = ap p e ∙ and_l (p y) (all p l) h
  all-e p h (Memᴰ.tail {x = y} {xs = l} m) = all-e p (and_r (p y) (all p l) h) m

  pub all-i : (p : A → Bool) (l : List A) → Each (λ x. p x ≡ true) l → all p l ≡ true
  unfolding all
  all-i p [] h = refl
  all-i p (x ∷ l) h = and_i (p x) (all p l) (h x here) (all-i p l (λ y m. h y (there m)))

  pub all-not : (p : A → Bool) (l : List A) → all p l ≡ false → (x : A) × x ∈ l × (p x ≡ false)
  unfolding all
  all-not p [] h = absurd (true≢false h)
  all-not p (x ∷ l) h = by-test (p x) (λ e. let r = all-not p l (rw e at h) in (r.0, there r.1, r.2)) (λ e. (x, here, e))

  pub any_none : (p : A → Bool) {x : A} {l : List A} → any p l ≡ false → x ∈ l → p x ≡ false
  unfolding any
  any_none p h (Memᴰ.head {x = y} {xs = l} e) = ap p e ∙ or-fl (p y) (any p l) h
  any_none p h (Memᴰ.tail {x = y} {xs = l} m) = any_none p (or-fr (p y) (any p l) h) m

  pub any-i : (p : A → Bool) {x : A} {l : List A} → p x ≡ true → x ∈ l → any p l ≡ true
  any-i p {x} {l} h m = by-test (any p l) (λ e. e) (λ e. clash h (any_none p e m))

  pub any_false : (p : A → Bool) (l : List A) → Each (λ x. p x ≡ false) l → any p l ≡ false
  unfolding any
  any_false p [] h = refl
  any_false p (x ∷ l) h = rw (h x here) (any_false p l (λ y m. h y (there m)))

  pub any_some : (p : A → Bool) (l : List A) → any p l ≡ true → (x : A) × x ∈ l × (p x ≡ true)
  unfolding any
  any_some p [] h = absurd (false≢true h)
  any_some p (x ∷ l) h = ⊎_elim (λ e. (x, here, e)) (λ e. let r = any_some p l e in (r.0, there r.1, r.2)) (or-e (p x) (any p l) h)

  -- ── keep ──
  pub keep-e : (p : A → Bool) (l : List A) {y : A} → y ∈ keep p l → y ∈ l × (p y ≡ true)
  unfolding keep
  keep-e p [] m = none m
  keep-e p (x ∷ l) {y} m =
      let later : y ∈ keep p l → y ∈ (x ∷ l) × (p y ≡ true) = λ k. let r = keep-e p l k in (there r.0, r.1) in
      by-test (p x) (λ q. ⊎_elim (λ e. (Memᴰ.head e, ap p e ∙ q)) later (Memᴰ.cases_cons (rw q at m))) (λ q. later (rw q at m))

  pub keep-i : (p : A → Bool) {x : A} {l : List A} → p x ≡ true → x ∈ l → x ∈ keep p l
  unfolding keep
  keep-i p {x} h (Memᴰ.head {x = y} {xs = l} e) =
      let q : p y ≡ true = sym (ap p e) ∙ h in
      rw q (Memᴰ.head e)
  keep-i p {x} h (Memᴰ.tail {x = y} {xs = l} m) = let k = keep-i p h m in by-test (p y) (λ e. rw e (there k)) (λ e. rw e k)

  pub keep-length : (p : A → Bool) (l : List A) → length (keep p l) ≤ length l
  unfolding keep
  keep-length p [] = omega arith
  keep-length p (x ∷ l) = let h = keep-length p l in by-test (p x) (λ e. rw e (omega arith)) (λ e. rw e (omega arith))

  -- Tests that agree on the list keep the same.
  pub keep-cong : (p q : A → Bool) (l : List A) → Each (λ x. p x ≡ q x) l → keep p l ≡ keep q l
  unfolding keep
  keep-cong p q [] h = refl
  keep-cong p q (x ∷ l) h = rw (h x here, keep-cong p q l (λ y m. h y (there m)))

  pub keep_all : (p : A → Bool) (l : List A) → Each (λ x. p x ≡ true) l → keep p l ≡ l
  unfolding keep
  keep_all p [] h = refl
  keep_all p (x ∷ l) h = rw (h x here, keep_all p l (λ y m. h y (there m)))

  -- An element more that fails adds nothing.
  pub keep_snoc : (p : A → Bool) (l : List A) (w : A) → p w ≡ false → keep p (l ++ (w ∷ [])) ≡ keep p l
  unfolding keep
  keep_snoc p [] w e = rw e
  keep_snoc p (x ∷ l) w e = rw (keep_snoc p l w e)

  -- Tests that agree on the list pass of some element alike.
  pub any-cong : (p q : A → Bool) (l : List A) → Each (λ x. p x ≡ q x) l → any p l ≡ any q l
  unfolding any
  any-cong p q [] h = refl
  any-cong p q (x ∷ l) h = rw (h x here, any-cong p q l (λ y m. h y (there m)))

  -- ── the first that passes ──
  pub first-e : (p : A → Bool) (d : A) {x : A} {l : List A} → p x ≡ true → x ∈ l → first_with p d l ∈ l × (p (first_with p d l) ≡ true)
  unfolding first_with
  first-e p d h (Memᴰ.head {x = y} {xs = l} e) =
      let q : p y ≡ true = sym (ap p e) ∙ h in
      rw q (here, q)
  first-e p d h (Memᴰ.tail {x = y} {xs = l} m) =
      let r = first-e p d h m in
      by-test (p y) (λ e. rw e (here, e)) (λ e. rw e (there r.0, r.1))

  -- ── one element more ──
  pub snoc-each : (P : A → Type 0) (l : List A) (w : A) → Each P l → P w → Each P (l ++ (w ∷ []))
  snoc-each P l w h k x m = ⊎_elim (h x) (λ i. subst P (sym (Memᴰ.eq_of_singleton i)) k) (Memᴰ.append_cases l m)

  pub snoc-each2 : (R : A → A → Type 0) (l : List A) (w : A) → Each2 R l → Each (λ x. R x w) l → Each (λ x. R w x) l → R w w → Each2 R (l ++ (w ∷ []))
  snoc-each2 R l w h f g k x y m n =
      snoc-each (λ (z : A). R z y) l w
      (λ z i. snoc-each (R z) l w (λ u j. h z u i j) (f z i) y n)
      (snoc-each (R w) l w g k y n) x m

  pub map-id : (f : A → A) (l : List A) → Each (λ x. f x ≡ x) l → map f l ≡ l
  map-id f [] h = refl
  map-id f (x ∷ l) h = cc (h x here, map-id f l (λ y m. h y (there m)))

-- ── map ──
module _ {A B : Type 0} where
  pub map-e : (f : A → B) (l : List A) {y : B} → y ∈ map f l → (x : A) × x ∈ l × (y ≡ f x)
  map-e f [] m = none m
  map-e f (x ∷ l) m = ⊎_elim (λ e. (x, here, e)) (λ k. let r = map-e f l k in (r.0, there r.1, r.2)) (Memᴰ.cases_cons m)

  pub map-i : (f : A → B) {x : A} {l : List A} → x ∈ l → f x ∈ map f l
  map-i f (Memᴰ.head e) = Memᴰ.head (ap f e)
  map-i f (Memᴰ.tail m) = there (map-i f m)

  -- What holds of f x for each x holds of each element of map f l; and for two.
  pub map_each : (P : B → Type 0) (f : A → B) (l : List A) → Each (λ x. P (f x)) l → Each P (map f l)
  map_each P f l h y m = let r = map-e f l m in subst P (sym r.2) (h r.0 r.1)

  pub map-each2 : (R : B → B → Type 0) (f : A → B) (l : List A) → Each2 (λ x y. R (f x) (f y)) l → Each2 R (map f l)
  map-each2 R f l h x y m k = map_each (λ (z : B). R z y) f l (λ a i. map_each (R (f a)) f l (λ b j. h a b i j) y k) x m

  pub map-cong : (f g : A → B) (l : List A) → Each (λ x. f x ≡ g x) l → map f l ≡ map g l
  map-cong f g [] h = refl
  map-cong f g (x ∷ l) h = cc (h x here, map-cong f g l (λ y m. h y (there m)))

  pub keep-map : (p : B → Bool) (f : A → B) (l : List A) → keep p (map f l) ≡ map f (keep (λ x. p (f x)) l)
  unfolding keep
  keep-map p f [] = refl
  keep-map p f (x ∷ l) =
      let e = keep-map p f l in
      by-test (p (f x)) (λ q. rw q (ap (λ (k : List B). f x ∷ k) e)) (λ q. rw q e)

  pub any-map : (p : B → Bool) (f : A → B) (l : List A) → any p (map f l) ≡ any (λ x. p (f x)) l
  unfolding any
  any-map p f [] = refl
  any-map p f (x ∷ l) = rw (any-map p f l)

  pub sum-map : (f : B → ℕ) (g : A → B) (l : List A) → sum f (map g l) ≡ sum (λ x. f (g x)) l
  unfolding sum
  sum-map f g [] = refl
  sum-map f g (x ∷ l) = omega (arith, sum-map f g l)

  pub greatest-map : (g : B → ℕ) (f : A → B) (b : ℕ) (l : List A) → greatest g b (map f l) ≡ greatest (λ x. g (f x)) b l
  unfolding greatest
  greatest-map g f b [] = refl
  greatest-map g f b (x ∷ l) = rw (greatest-map g f b l)

-- ── the least that passes ──
pub least-le : (p : ℕ → Bool) (d : ℕ) {n : ℕ} {l : List ℕ} → n ∈ l → p n ≡ true → least p d l ≤ n
unfolding least
least-le p d {n} (Memᴰ.head {x} {xs = l} e) h =
    let q : p x ≡ true = rw e at h in
    rw (e, q) (omega arith)
least-le p d {n} (Memᴰ.tail {x} {xs = l} m) h = let k = least-le p d m h in by-test (p x) (λ e. rw e (omega arith)) (λ e. rw e k)

pub least_under : (p : ℕ → Bool) (d : ℕ) (l : List ℕ) → least p d l ≤ d
unfolding least
least_under p d [] = omega arith
least_under p d (n ∷ l) = let h = least_under p d l in by-test (p n) (λ e. rw e (omega arith)) (λ e. rw e h)

pub least-passes : (p : ℕ → Bool) (d : ℕ) (l : List ℕ) → p d ≡ true → p (least p d l) ≡ true
unfolding least
least-passes p d [] h = h
least-passes p d (n ∷ l) h =
    let ih = least-passes p d l h in
    by-test (p n)
    (λ e. rw e (by_order n (least p d l) (λ k. rw (min-eq_left k) e) (λ k. rw (min-eq_right (le_of_lt k)) ih)))
    (λ e. rw e ih)

pub least-low : (p : ℕ → Bool) (d b : ℕ) (l : List ℕ) → b ≤ d → Each (λ n. b ≤ n) l → b ≤ least p d l
unfolding least
least-low p d b [] h k = h
least-low p d b (n ∷ l) h k =
    let x = least-low p d b l h (λ m i. k m (there i)) in
    by-test (p n) (λ e. rw e (omega (arith, k n here))) (λ e. rw e x)

-- ── numbers that ascend ──
module _ {A : Type 0} (f : A → ℕ) where
  pub ascends_same : (l : List A) → Ascends f l → (x y : A) → x ∈ l → y ∈ l → f x ≡ f y → x ≡ y
  ascends_same [] h x y m k e = none m
  ascends_same (z ∷ l) h x y m k e = go (Memᴰ.cases_cons m) (Memᴰ.cases_cons k) (ascends_same l h.1)
    where
      go : (x ≡ z) ⊎ (x ∈ l) → (y ≡ z) ⊎ (y ∈ l) → ((x y : A) → x ∈ l → y ∈ l → f x ≡ f y → x ≡ y) → x ≡ y
      go (inl p) (inl q) ih = p ∙ sym q
      go (inl p) (inr q) ih = absurd (omega (arith, h.0 y q, ap f p))
      go (inr p) (inl q) ih = absurd (omega (arith, h.0 x p, ap f q))
      go (inr p) (inr q) ih = ih x y p q e

  pub ascends-keep : (p : A → Bool) (l : List A) → Ascends f l → Ascends f (keep p l)
  unfolding keep
  ascends-keep p [] u = tt
  ascends-keep p (x ∷ l) u =
      let ih = ascends-keep p l u.1 in
      by-test (p x) (λ e. rw e (λ y m. u.0 y (keep-e p l m).0, ih)) (λ e. rw e ih)

  -- The first that passes has the lowest number.
  pub ascends-first : (p : A → Bool) (d : A) {x : A} {l : List A} → Ascends f l → p x ≡ true → x ∈ l → f (first_with p d l) ≤ f x
  unfolding first_with
  ascends-first p d u h (Memᴰ.head {x = y} {xs = l} e) =
      let q : p y ≡ true = sym (ap p e) ∙ h in
      rw q (omega (arith, ap f e))
  ascends-first p d {x} u h (Memᴰ.tail {x = y} {xs = l} m) =
      let r = ascends-first p d u.1 h m in
      by-test (p y) (λ e. rw e (omega (arith, u.0 x m))) (λ e. rw e r)

  pub ascends-drop : (i : ℕ) (l : List A) → Ascends f l → Ascends f (drop i l)
  ascends-drop zero l u = u
  ascends-drop (suc i) [] u = u
  ascends-drop (suc i) (x ∷ l) u = ascends-drop i l u.1

  -- What stands before an element is below it, and what stands after it above.
  pub ascends-around : (a b : List A) (w : A) → Ascends f (a ++ (w ∷ b)) → Each (λ x. f x < f w) a × Each (λ x. f w < f x) b
  ascends-around [] b w u = (λ x m. none m, u.0)
  ascends-around (z ∷ a) b w u =
      let r = ascends-around a b w u.1 in
      (λ x m. ⊎_elim (λ e. omega (arith, ap f e, u.0 w (Memᴰ.append_right a here))) (r.0 x) (Memᴰ.cases_cons m), r.1)

  pub ascends-snoc : (l : List A) (w : A) → Ascends f l → Each (λ x. f x < f w) l → Ascends f (l ++ (w ∷ []))
  ascends-snoc [] w u h = (λ y m. none m, tt)
  ascends-snoc (x ∷ l) w u h = (snoc-each (λ (y : A). f x < f y) l w u.0 (h x here), ascends-snoc l w u.1 (λ y m. h y (there m)))

-- Elements that change one by one, and keep their numbers.
pub ascends-map : {A B : Type 0} (f : A → ℕ) (g : B → ℕ) (h : A → B) (l : List A) → ((x : A) → g (h x) ≡ f x) → Ascends f l → Ascends g (map h l)
ascends-map f g h [] e u = tt
ascends-map {A} {B} f g h (x ∷ l) e u =
    (map_each (λ (y : B). g (h x) < g y) h l (λ y m. omega (arith, u.0 y m, e x, e y)), ascends-map f g h l e u.1)

-- ── the tickets that an answer names ──
module _ {A : Type 0} (ticket : A → ℕ) where
  named-i : {x : A} {l : List A} → x ∈ l → any (λ k. eqb k (ticket x)) (map ticket l) ≡ true
  unfolding any
  named-i {x} (Memᴰ.head {x = y} {xs = l} e) = or_l (eqb (ticket y) (ticket x)) _ (eq-eqb _ _ (sym (ap ticket e)))
  named-i {x} (Memᴰ.tail {x = y} {xs = l} m) = or_r (eqb (ticket y) (ticket x)) _ (named-i m)

  -- An element's ticket is named among those of the kept elements exactly if it is kept.
  pub named_keep : (p : A → Bool) (l : List A) → ((x y : A) → x ∈ l → y ∈ l → ticket x ≡ ticket y → x ≡ y) → (x : A) → x ∈ l
      → any (λ k. eqb k (ticket x)) (map ticket (keep p l)) ≡ p x
  named_keep p l u x m = go (split (p x)) (split (any (λ k. eqb k (ticket x)) (map ticket (keep p l))))
    where
      go : (p x ≡ true) ⊎ (p x ≡ false) → (any (λ k. eqb k (ticket x)) (map ticket (keep p l)) ≡ true) ⊎ (any (λ k. eqb k (ticket x)) (map ticket (keep p l)) ≡ false)
          → any (λ k. eqb k (ticket x)) (map ticket (keep p l)) ≡ p x
      go (inl e) q = named-i (keep-i p e m) ∙ sym e
      go (inr e) (inr q) = q ∙ sym e
      go (inr e) (inl q) =
          let r = any_some (λ k. eqb k (ticket x)) (map ticket (keep p l)) q in
          let s = map-e ticket (keep p l) r.1 in
          let k = keep-e p l s.1 in
          clash (ap p (u x s.0 m k.0 (sym (eqb-true _ _ r.2) ∙ s.2)) ∙ k.1) e

-- Elements that changed one by one and kept their numbers: where these ascend now, they ascended before.
pub ascends-unmap : {A B : Type 0} (f : A → ℕ) (g : B → ℕ) (h : A → B) (l : List A) → ((x : A) → g (h x) ≡ f x) → Ascends g (map h l) → Ascends f l
ascends-unmap f g h [] e u = tt
ascends-unmap f g h (x ∷ l) e u = (λ y m. omega (arith, u.0 (h y) (map-i h m), e x, e y), ascends-unmap f g h l e u.1)

-- ── counts ──
-- A list that is not empty has an element.
pub some_of : {A : Type 0} (l : List A) → (l ≡ [] → ⊥) → (x : A) × x ∈ l
some_of [] h = absurd (h refl)
some_of (x ∷ l) h = (x, here)

module _ {A : Type 0} (p q : A → Bool) where
  -- Where each element that passes p passes q, no more pass p than q.
  pub keep-le : (l : List A) → Each (λ x. p x ≡ true → q x ≡ true) l → length (keep p l) ≤ length (keep q l)
  unfolding keep
  keep-le [] h = omega arith
  keep-le (x ∷ l) h =
      let ih = keep-le l (λ y m. h y (there m)) in
      by-test (p x)
      (λ e. rw (e, h x here e) (omega arith))
      (λ e. by-test (q x) (λ f. rw (e, f) (omega arith)) (λ f. rw (e, f) ih))

  -- Where one more passes q, fewer pass p.
  pub keep-lt : {x : A} {l : List A} → x ∈ l → p x ≡ false → q x ≡ true → Each (λ y. p y ≡ true → q y ≡ true) l → length (keep p l) < length (keep q l)
  unfolding keep
  keep-lt (Memᴰ.head {x = y} {xs = l} e) n k h =
      let n' : p y ≡ false = sym (ap p e) ∙ n in
      let k' : q y ≡ true = sym (ap q e) ∙ k in
      rw (n', k') (omega (arith, keep-le l (λ z m. h z (there m))))
  keep-lt (Memᴰ.tail {x = y} {xs = l} m) n k h =
      let ih = keep-lt m n k (λ z i. h z (there i)) in
      by-test (p y)
      (λ e. rw (e, h y here e) (omega arith))
      (λ e. by-test (q y) (λ f. rw (e, f) (omega arith)) (λ f. rw (e, f) ih))
