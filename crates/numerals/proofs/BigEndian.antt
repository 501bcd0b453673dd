-- Big-endian numbers, at every width: what was written reads as the number, and what was read is written as the bytes.
use Prim.Native.Nat.{ℕ, zero, suc, ◌+◌, ◌*◌, ◌/◌, ◌%◌, ◌^◌, ◌≤◌, ◌<◌}
use mathlib.Core.List.{List, [], ◌∷◌, ◌++◌}
use mathlib.Core.Path.{◌≡◌, refl, sym, ap, ◌∙◌}
use native.Mathlib.Omega.{arith}
use native.Mathlib.Nat.{pow-suc, mul-le-mul_right}
use lib.Pow.{pow-add}
use lib.ListN.{length, take, drop, get_or, length-append, length-drop}
use lib.Seq.{take-suc, take-add, take_all, drop-drop, drop-cons}
use Rattle.std.specs.Int.{w64, from_be_bytes}
use Rattle.numerals.specs.Digits.{numeral, digits}

pub digits-length : (b z n v : ℕ) → length (digits b z n v) ≡ n
unfolding digits
digits-length b z zero v = refl
digits-length b z (suc n) v = let i = digits-length b z n (v / b) in omega (arith, length-append (digits b z n (v / b)) ((v % b + z) ∷ []))

numeral-snoc : (v b : ℕ) (bs : List ℕ) → numeral v (bs ++ (b ∷ [])) ≡ numeral v bs * 256 + b
unfolding numeral
numeral-snoc v b [] = refl
numeral-snoc v b (x ∷ bs) = numeral-snoc (v * 256 + x) b bs

-- A number that goes into n bytes reads as it was.
pub numeral-digits : (n v : ℕ) → v < 256 ^ n → numeral 0 (digits 256 0 n v) ≡ v
unfolding numeral digits
numeral-digits zero v h = omega arith
numeral-digits (suc n) v h =
    let p = pow-suc 256 n in
    let i = numeral-digits n (v / 256) (omega arith) in
    numeral-snoc 0 (v % 256 + 0) (digits 256 0 n (v / 256)) ∙ rw i (omega arith)

-- Bytes are the digits of the number that they say.
pub digits-numeral : (n : ℕ) (bs : List ℕ) → n ≤ length bs → ((i : ℕ) → get_or bs i 0 < 256) → digits 256 0 n (numeral 0 (take n bs)) ≡ take n bs
unfolding digits
digits-numeral zero bs h s = refl
digits-numeral (suc n) bs h s =
    let t = take-suc bs n 0 h in
    let b = get_or bs n 0 in
    let k = s n in
    let m = numeral 0 (take n bs) in
    let e : numeral 0 (take (suc n) bs) ≡ m * 256 + b = ap (numeral 0) t ∙ numeral-snoc 0 b (take n bs) in
    let q : (m * 256 + b) / 256 ≡ m = omega arith in
    let r : (m * 256 + b) % 256 + 0 ≡ b = omega arith in
    let i = digits-numeral n bs (omega arith) s in
    rw (e, q, r, i) (sym t)

-- And that number goes into as many bytes.
pub numeral-below : (n : ℕ) (bs : List ℕ) → n ≤ length bs → ((i : ℕ) → get_or bs i 0 < 256) → numeral 0 (take n bs) < 256 ^ n
unfolding numeral
numeral-below zero bs h s = omega arith
numeral-below (suc n) bs h s =
    let i = numeral-below n bs (omega arith) s in
    let k = s n in
    let e : numeral 0 (take (suc n) bs) ≡ numeral 0 (take n bs) * 256 + get_or bs n 0 = ap (numeral 0) (take-suc bs n 0 h) ∙ numeral-snoc 0 (get_or bs n 0) (take n bs) in
    omega (arith, e, pow-suc 256 n)

-- ── a number in two parts ──
numeral-from : (v n : ℕ) (bs : List ℕ) → n ≤ length bs → numeral v (take n bs) ≡ v * 256 ^ n + numeral 0 (take n bs)
unfolding numeral
numeral-from v zero bs h = omega arith
numeral-from v (suc n) bs h =
    let t = take-suc bs n 0 h in
    let b = get_or bs n 0 in
    let i = numeral-from v n bs (omega arith) in
    let e : (u : ℕ) → numeral u (take (suc n) bs) ≡ numeral u (take n bs) * 256 + b = λ u. ap (numeral u) t ∙ numeral-snoc u b (take n bs) in
    let p : v * 256 ^ suc n ≡ v * 256 ^ n * 256 = ap (λ q. v * q) (pow-suc 256 n) ∙ omega arith in
    omega (arith, e v, e 0, i, p)

numeral-parts : (v : ℕ) (xs ys : List ℕ) → numeral v (xs ++ ys) ≡ numeral (numeral v xs) ys
unfolding numeral
numeral-parts v [] ys = refl
numeral-parts v (x ∷ xs) ys = numeral-parts (v * 256 + x) xs ys

-- n bytes from a place on, and m after them.
pub numeral-joined : (s : List ℕ) (at n m : ℕ) → at + n + m ≤ length s → numeral 0 (take (n + m) (drop at s)) ≡ numeral 0 (take n (drop at s)) * 256 ^ m + numeral 0 (take m (drop (at + n) s))
numeral-joined s at n m h =
    let t = take-add n m (drop at s) in
    let d = drop-drop n at s in
    ap (numeral 0) t ∙ numeral-parts 0 (take n (drop at s)) (take m (drop n (drop at s))) ∙ rw d (numeral-from (numeral 0 (take n (drop at s))) m (drop (at + n) s) (omega (arith, length-drop (at + n) s)))

-- The same of two numbers that n bytes each say.
pub joined : (n : ℕ) (s : List ℕ) (at x y : ℕ) → at + n + n ≤ length s → (x ≡ numeral 0 (take n (drop at s))) × (x < 256 ^ n) → (y ≡ numeral 0 (take n (drop (at + n) s))) × (y < 256 ^ n)
    → (x * 256 ^ n + y ≡ numeral 0 (take (n + n) (drop at s))) × (x * 256 ^ n + y < 256 ^ (n + n))
joined n s at x y h p q =
    let m = mul-le-mul_right (256 ^ n) p.1 in
    (sym (numeral-joined s at n n h ∙ rw (← p.0, ← q.0)), rw (pow-add 256 n n) (omega (arith, m, q.1)))

-- One byte that is there.
pub numeral-byte : (s : List ℕ) (at : ℕ) → at < length s → numeral 0 (take 1 (drop at s)) ≡ get_or s at 0
unfolding numeral
numeral-byte s at h = rw (drop-cons s at 0 h) (omega arith)

-- Two, and eight that are all there are.
numeral-two : (s : List ℕ) (at : ℕ) → at + 2 ≤ length s → numeral 0 (take 2 (drop at s)) ≡ get_or s at 0 * 256 + get_or s (at + 1) 0
numeral-two s at h = omega (arith, numeral-joined s at 1 1 (omega arith), numeral-byte s at (omega arith), numeral-byte s (at + 1) (omega arith))

pub numeral-eight : (s : List ℕ) (v : ℕ) → length s ≡ 8 → ((i : ℕ) → get_or s i 0 < 256)
    → v ≡ from_be_bytes w64 (get_or s 0 0 ∷ get_or s 1 0 ∷ get_or s 2 0 ∷ get_or s 3 0 ∷ get_or s 4 0 ∷ get_or s 5 0 ∷ get_or s 6 0 ∷ get_or s 7 0 ∷ [])
    → (v ≡ numeral 0 s) × (v < 256 ^ length s)
numeral-eight s v l b e =
    let t : numeral 0 (take 8 s) ≡ numeral 0 s = ap (numeral 0) (take_all 8 s (omega arith)) in
    let j = numeral-joined s 0 4 4 (omega arith) in
    let p = numeral-joined s 0 2 2 (omega arith) in
    let q = numeral-joined s 4 2 2 (omega arith) in
    let x : v ≡ numeral 0 s = omega (arith, e, t, j, p, q, numeral-two s 0 (omega arith), numeral-two s 2 (omega arith), numeral-two s 4 (omega arith), numeral-two s 6 (omega arith)) in
    (x, rw (x, l) (omega (arith, t, numeral-below 8 s (omega arith) b)))
