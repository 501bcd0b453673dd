-- What the loops keep: a number read byte by byte, digits stored the last first, digits counted.
use Prim.Native.Nat.{ℕ, zero, suc, ◌+◌, ◌-◌, ◌*◌, ◌/◌, ◌%◌, ◌^◌, ◌≤◌, ◌<◌, min}
use mathlib.Core.Bool.{Bool, true, false}
use mathlib.Core.List.{List, [], ◌∷◌}
use mathlib.Core.Path.{◌≡◌, refl, sym, ap, ◌∙◌}
use native.Mathlib.Omega.{arith}
use native.Mathlib.Nat.{pow-le-pow_right, pow-suc}
use native.Mathlib.Numerals.{add-one}
use lib.Dec.{leb}
use borrow.Author.Tests.{leb-true, leb-false, lt-ltb, le-ltb}
use lib.ListN.{length, take, drop, get_or, set, length-take, length-drop, drop_of_length-le}
use lib.Seq.{take_all, take-length, take-nil, drop-cons, get_or-take}
use Rattle.numerals.specs.Digits.{bytes_at, numeral, width_up_to, width_of}

-- ── a number read ──
-- One byte more.
pub grown : (v i b : ℕ) → v < 256 ^ i → b < 256 → v * 256 + b < 256 ^ suc i
grown v i b h k = omega (arith, pow-suc 256 i)

pub fits8 : (i : ℕ) → i ≤ 8 → 256 ^ i ≤ 2 ^ 64
fits8 i h = pow-le-pow_right {n = 256} (omega arith) {i = i} {j = 8} h

below_more : (v m n : ℕ) → m ≤ n → v < 256 ^ m → v < 256 ^ n
below_more v m n h k = omega (arith, pow-le-pow_right {n = 256} (omega arith) {i = m} {j = n} h)

-- What is left of the first n elements at place i: the element there, and what is left after it.
pub prefix-step : {X : Type 0} (d : X) (l : List X) (n i : ℕ) → i < n → n ≤ length l → drop i (take n l) ≡ get_or l i d ∷ drop (i + 1) (take n l)
prefix-step d l n i h k =
    let q : i < length (take n l) = simp (length-take) (omega arith) in
    drop-cons (take n l) i d q ∙ rw (add-one, get_or-take)

-- Behind them nothing is.
pub prefix-end : {X : Type 0} (l : List X) (n i : ℕ) → n ≤ i → drop i (take n l) ≡ []
prefix-end l n i h = drop_of_length-le (take n l) {i = i} (simp (length-take) (omega arith))

take_min : (k : ℕ) (l : List ℕ) → take (min k (length l)) l ≡ take k l
take_min k l = go (leb k (length l)) refl
  where
    go : (b : Bool) → leb k (length l) ≡ b → take (min k (length l)) l ≡ take k l
    go true p = let h = leb-true k (length l) p in let e : min k (length l) ≡ k = omega arith in rw e
    go false p = let h = leb-false k (length l) p in let e : min k (length l) ≡ length l = omega arith in rw (e, take-length l) (sym (take_all k l (omega arith)))

-- The bytes that are read are those of the definition.
take-readable : (s : List ℕ) (at from n m : ℕ) → from ≡ min at (length s) → m ≡ min (min n 8) (length s - from) → take m (drop from s) ≡ bytes_at s at n
take-readable s at from n m f e = go (leb at (length s)) refl
  where
    go : (b : Bool) → leb at (length s) ≡ b → take m (drop from s) ≡ bytes_at s at n
    go true p =
        let h = leb-true at (length s) p in
        let i : from ≡ at = omega arith in
        let k : m ≡ min (min n 8) (length s - at) = rw i at e in
        rw (i, k, ← (length-drop at s)) (take_min (min n 8) (drop at s))
    go false p =
        let h = leb-false at (length s) p in
        let k : m ≡ 0 = omega arith in
        rw (k, drop_of_length-le s {i = at} (omega arith)) (sym (take-nil (min n 8)))

-- A number that the bytes there say is the number of the definition.
pub read_as : (s : List ℕ) (at from n m r : ℕ) → from ≡ min at (length s) → m ≡ min (min n 8) (length s - from)
    → (r ≡ numeral 0 (take (from + m - from) (drop from s))) × (r < 256 ^ length (take (from + m - from) (drop from s))) → (r ≡ numeral 0 (bytes_at s at n)) × (r < 256 ^ n)
read_as s at from n m r f e h =
    let k : from + m - from ≡ m = omega arith in
    let l : length (take m (drop from s)) ≡ m = simp (length-take, length-drop) (omega arith) in
    let x = rw k at h.0 in
    let y = rw (k, l) at h.1 in
    (x ∙ ap (numeral 0) (take-readable s at from n m f e), below_more r m n (omega arith) y)

-- ── digits stored, the last first ──
unfoldable pub stored : ℕ → ℕ → ℕ → ℕ → ℕ → List ℕ → List ℕ
stored b z at zero v o = o
stored b z at (suc n) v o = stored b z at n (v / b) (set o (at + n) (v % b + z))

-- One step of the loop; the digit may be said in any way.
pub stored-turn : (b z at i v d : ℕ) (o : List ℕ) → 0 < i → d ≡ v % b + z → stored b z at (i - 1) (v / b) (set o (at + (i - 1)) d) ≡ stored b z at i v o
unfolding stored
stored-turn b z at i v d o h e =
    let p : i ≡ suc (i - 1) = omega arith in
    rw e (sym (ap (λ k. stored b z at k v o) p))

pub stored-none : (b z at i v : ℕ) (o : List ℕ) → i ≤ 0 → stored b z at i v o ≡ o
unfolding stored
stored-none b z at i v o h = let p : i ≡ 0 = omega arith in rw p

-- ── digits counted ──
-- n digits are counted and v is left: with the count of v's own they make the width, plus one, since both count the digit that v begins with.
pub record Counting (value v n : ℕ) : Type 0 where
  pub fuel : ℕ
  pub spent : n + fuel ≡ 20
  pub below : v < 10 ^ suc fuel
  pub rest : n + width_up_to fuel v ≡ 1 + width_of value

pub counting-start : (value : ℕ) → value < 2 ^ 64 → Counting value value 1
unfolding width_of
counting-start value h = record { fuel = 19; spent = refl; below = omega arith; rest = refl }

counting-turn : (value v n k : ℕ) → 10 ≤ v → n + k ≡ 20 → v < 10 ^ suc k → n + width_up_to k v ≡ 1 + width_of value → Counting value (v / 10) (n + 1)
unfolding width_up_to
counting-turn value v n zero h s b r = absurd (omega arith)
counting-turn value v n (suc k) h s b r =
    let w = rw (le-ltb v 10 h) at r in
    record { fuel = k; spent = omega arith; below = omega (arith, pow-suc 10 (suc k)); rest = omega (arith, w) }

pub counting_more : (value v n : ℕ) → 10 ≤ v → Counting value v n → Counting value (v / 10) (n + 1)
counting_more value v n h c = counting-turn value v n c.fuel h c.spent c.below c.rest

counting-last : (value v n k : ℕ) → v < 10 → n + width_up_to k v ≡ 1 + width_of value → n ≡ width_of value
unfolding width_up_to
counting-last value v n zero h r = omega arith
counting-last value v n (suc k) h r = let w = rw (lt-ltb v 10 h) at r in omega (arith, w)

pub counting-end : (value v n : ℕ) → v < 10 → Counting value v n → n ≡ width_of value
counting-end value v n h c = counting-last value v n c.fuel h c.rest
