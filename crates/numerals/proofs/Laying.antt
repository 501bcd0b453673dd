-- Bytes laid one after the other over a buffer that may be too short: pieces join (`put_then`), and where there is room the buffer
-- begins with them (`laid-fits`).
use Prim.Native.Nat.{ℕ, zero, suc, ◌+◌, ◌-◌, ◌/◌, ◌%◌, ◌^◌, ◌≤◌, ◌<◌, min}
use mathlib.Core.List.{List, [], ◌∷◌, ◌++◌, append_assoc}
use mathlib.Core.Path.{◌≡◌, refl, sym, ap, ◌∙◌}
use native.Mathlib.Omega.{arith}
use native.Mathlib.Nat.{add-zero, zero-add}
use native.Mathlib.Numerals.{add-one}
use lib.Dec.{ltb, leb}
use borrow.Author.Tests.{leb-true, leb-false, le-leb, lt-leb}
use mathlib.Core.Bool.{Bool, true, false, cond}
use lib.ListN.{length, take, drop, get_or, set, length-append, length-take}
use borrow.Rule.Slice.PartMut.{put_mid}
use lib.Seq.{sets, length-sets, sets-eq, set_comm, set_out, drop-length, take_at, drop-cons, drop-drop}
use Rattle.std.proofs.Common.{take-append-drop}
use Rattle.numerals.specs.Digits.{digits, decimal_of, width_of, width_up_to, column, pair}
use Rattle.numerals.specs.Laid.{behind, laid, Put, space_number, lent_out}
use Rattle.numerals.proofs.Numbers.{stored}
use Rattle.numerals.proofs.BigEndian.{digits-length}

pub laid-length : (o : List ℕ) (at : ℕ) (xs : List ℕ) → length (laid o at xs) ≡ length o
unfolding laid
laid-length o at xs = length-sets o at xs

pub laid_none : (o : List ℕ) (at : ℕ) → laid o at [] ≡ o
unfolding laid
laid_none o at = refl

pub laid_one : (o : List ℕ) (at b : ℕ) → laid o at (b ∷ []) ≡ set o at b
unfolding laid
laid_one o at b = refl

pub laid_cons : (o : List ℕ) (at b : ℕ) (xs : List ℕ) → laid o at (b ∷ xs) ≡ laid (set o at b) (suc at) xs
unfolding laid
laid_cons o at b xs = refl

sets-append : (xs ys o : List ℕ) (at : ℕ) → sets o at (xs ++ ys) ≡ sets (sets o at xs) (at + length xs) ys
sets-append [] ys o at = rw add-zero
sets-append (x ∷ xs) ys o at =
    let e : suc at + length xs ≡ at + suc (length xs) = omega arith in
    sets-append xs ys (set o at x) (suc at) ∙ ap (λ k. sets (sets (set o at x) (suc at) xs) k ys) e

pub laid-append : (o : List ℕ) (at : ℕ) (xs ys : List ℕ) → laid o at (xs ++ ys) ≡ laid (laid o at xs) (at + length xs) ys
unfolding laid
laid-append o at xs ys = sets-append xs ys o at

-- Where there is room, it is what one expects.
pub laid-at : (o : List ℕ) (at : ℕ) (xs : List ℕ) → at + length xs ≤ length o → laid o at xs ≡ take at o ++ xs ++ drop (at + length xs) o
unfolding laid
laid-at o at xs h = sets-eq xs o at h

pub laid-fits : (o xs : List ℕ) → length xs ≤ length o → laid o 0 xs ≡ xs ++ drop (length xs) o
laid-fits o xs h = laid-at o 0 xs (omega arith) ∙ rw zero-add

sets-set : (xs o : List ℕ) (at k d : ℕ) → at + length xs ≤ k → sets (set o k d) at xs ≡ set (sets o at xs) k d
sets-set [] o at k d h = refl
sets-set (x ∷ xs) o at k d h = ap (λ r. sets r (suc at) xs) (set_comm o k at d x (λ e. omega arith)) ∙ sets-set xs (set o at x) (suc at) k d (omega arith)

-- Digits stored the last first are digits laid.
stored-sets : (b z at n v : ℕ) (o : List ℕ) → stored b z at n v o ≡ sets o at (digits b z n v)
unfolding stored digits
stored-sets b z at zero v o = refl
stored-sets b z at (suc n) v o =
    let ds = digits b z n (v / b) in
    let d = v % b + z in
    let l = digits-length b z n (v / b) in
    stored-sets b z at n (v / b) (set o (at + n) d) ∙ sets-set ds o at (at + n) d (omega arith) ∙ sym (sets-append ds (d ∷ []) o at ∙ rw l)

pub stored-laid : (b z at n v : ℕ) (o : List ℕ) → stored b z at n v o ≡ laid o at (digits b z n v)
unfolding laid
stored-laid b z at n v o = stored-sets b z at n v o

-- ── places ──
pub behind-small : (at n : ℕ) → at + n < 2 ^ 64 → behind at n ≡ at + n
unfolding behind
behind-small at n h = omega arith

pub behind-stops : (at n : ℕ) → 18446744073709551615 - at < n → 18446744073709551615 ≡ behind at n
unfolding behind
behind-stops at n h = omega arith

pub behind-none : (at : ℕ) → at < 2 ^ 64 → behind at 0 ≡ at
unfolding behind
behind-none at h = omega arith

pub behind-under : (at n : ℕ) → behind at n < 2 ^ 64
unfolding behind
behind-under at n = omega arith

-- A place after a place; the same in words of lists.
behind-add : (at m n : ℕ) → behind (behind at m) n ≡ behind at (m + n)
unfolding behind
behind-add at m n = omega arith

pub behind-append : (at : ℕ) (xs ys : List ℕ) → behind (behind at (length xs)) (length ys) ≡ behind at (length (xs ++ ys))
behind-append at xs ys = behind-add at (length xs) (length ys) ∙ ap (behind at) (sym (length-append xs ys))

-- Behind a buffer's end nothing is laid.
sets-out : (xs o : List ℕ) (at : ℕ) → length o ≤ at → sets o at xs ≡ o
sets-out [] o at h = refl
sets-out (x ∷ xs) o at h = ap (λ r. sets r (suc at) xs) (set_out o at x h) ∙ sets-out xs o (suc at) (omega arith)

pub laid_out : (o : List ℕ) (at : ℕ) (xs : List ℕ) → length o ≤ at → laid o at xs ≡ o
unfolding laid
laid_out o at xs h = sets-out xs o at h

-- A place that stops is after every buffer's end: there it makes no difference.
pub laid-behind : (o : List ℕ) (at n : ℕ) (xs : List ℕ) → length o < 2 ^ 64 → laid o (behind at n) xs ≡ laid o (at + n) xs
unfolding behind
laid-behind o at n xs h = go (leb (at + n) 18446744073709551615) refl
  where
    go : (b : Bool) → leb (at + n) 18446744073709551615 ≡ b → laid o (min (at + n) 18446744073709551615) xs ≡ laid o (at + n) xs
    go true p =
        let k = leb-true (at + n) 18446744073709551615 p in
        let e : min (at + n) 18446744073709551615 ≡ at + n = omega arith in
        rw e
    go false p =
        let k = leb-false (at + n) 18446744073709551615 p in
        laid_out o (min (at + n) 18446744073709551615) xs (omega arith) ∙ sym (laid_out o (at + n) xs (omega arith))

-- ── pieces ──
pub put : {o : List ℕ} {at : ℕ} {xs : List ℕ} {r : ℕ} {p : List ℕ} → (r ≡ behind at (length xs)) × (p ≡ laid o at xs) → Put o at xs r p
put w = record { next = w.0; is = w.1 }

-- Of digits, as many as were asked for.
pub put-digits : (b z n v : ℕ) {o : List ℕ} {at r : ℕ} {p : List ℕ} → (r ≡ behind at n) × (p ≡ laid o at (digits b z n v)) → Put o at (digits b z n v) r p
put-digits b z n v {at = at} w = record { next = w.0 ∙ ap (behind at) (sym (digits-length b z n v)); is = w.1 }

-- One piece after the other is one piece.
pub put_then : (o : List ℕ) (at : ℕ) (xs ys : List ℕ) (m r : ℕ) (p q : List ℕ) → length o < 2 ^ 64 → Put o at xs m p → Put p m ys r q → Put o at (xs ++ ys) r q
put_then o at xs ys m r p q h a b =
    let l = laid-length o at xs in
    record {
      next = b.next ∙ rw a.next (behind-append at xs ys);
      is = b.is ∙ rw (a.is, a.next) (laid-behind (laid o at xs) at (length xs) ys (omega arith) ∙ sym (laid-append o at xs ys));
    }

pub put_as : {o : List ℕ} {at : ℕ} (xs ys : List ℕ) {r : ℕ} {p : List ℕ} → xs ≡ ys → Put o at xs r p → Put o at ys r p
put_as xs ys e w = rw e at w

-- A piece laid at the start that is not too long for a usize: the place after it is its length.
pub put-short : {o xs : List ℕ} {r : ℕ} {p : List ℕ} → length xs < 2 ^ 64 → Put o 0 xs r p → (r ≡ length xs) × (p ≡ laid o 0 xs)
put-short {xs = xs} h w = (w.next ∙ behind-small 0 (length xs) (omega arith) ∙ zero-add (length xs), w.is)

-- An output that goes into a lent buffer, laid at its start, and one that does not.
pub lent-all : (text out p : List ℕ) → length text ≤ length out → p ≡ laid out 0 text → (space_number text out ≡ 0) × (p ≡ lent_out text out)
unfolding space_number lent_out
lent-all text out p h e = rw (le-leb (length text) (length out) h) (refl, e ∙ laid-fits out text h)

pub lent_none : (text out : List ℕ) → length out < length text → (space_number text out ≡ 15) × (out ≡ lent_out text out)
unfolding space_number lent_out
lent_none text out h = rw (lt-leb (length text) (length out) h) (refl, refl)

-- What number 0 says: it went in, and the buffer begins with it.
pub lent-known : (text out : List ℕ) → space_number text out ≡ 0 → (length text ≤ length out) × (take (length text) (lent_out text out) ≡ text)
unfolding space_number lent_out
lent-known text out = go (leb (length text) (length out)) refl
  where
    go : (b : Bool) → leb (length text) (length out) ≡ b → cond {A = ℕ} b 0 15 ≡ 0
        → (length text ≤ length out) × (take (length text) (cond b (text ++ drop (length text) out) out) ≡ text)
    go true l e = (leb-true (length text) (length out) l, take_at text (drop (length text) out) (length text) refl)
    go false l e = absurd (omega arith)

-- Bytes laid at the start of a buffer that has room for them are its first.
pub laid-first : (o xs : List ℕ) (n : ℕ) → length xs ≡ n → length xs ≤ length o → take n (laid o 0 xs) ≡ xs
laid-first o xs n e h = ap (take n) (laid-fits o xs h) ∙ take_at xs (drop (length xs) o) n e

-- One step of a copy.
pub laid-turn : (o : List ℕ) (at i : ℕ) (s : List ℕ) → i < length s → laid (set o (at + i) (get_or s i 0)) (at + (i + 1)) (drop (i + 1) s) ≡ laid o (at + i) (drop i s)
laid-turn o at i s h =
    let e : at + (i + 1) ≡ suc (at + i) = omega arith in
    rw (e, add-one, drop-cons s i 0 h) (sym (laid_cons o (at + i) (get_or s i 0) (drop (suc i) s)))

laid_done : (o : List ℕ) (at i : ℕ) (s : List ℕ) → i ≡ length s → laid o (at + i) (drop i s) ≡ o
laid_done o at i s h = rw (h, drop-length s) (laid_none o (at + length s))

-- A copy ends where the bytes end, or the buffer.
pub laid-copied : (o : List ℕ) (at i : ℕ) (s : List ℕ) → i ≡ min (length s) (length o - at) → laid o (at + i) (drop i s) ≡ o
laid-copied o at i s h = go (leb (length s) i) refl
  where
    go : (b : Bool) → leb (length s) i ≡ b → laid o (at + i) (drop i s) ≡ o
    go true p = let k = leb-true (length s) i p in laid_done o at i s (omega arith)
    go false p = let k = leb-false (length s) i p in laid_out o (at + i) (drop i s) (omega arith)

-- What goes in of some bytes is put in the place of those that were there.
pub laid-part : (o xs ys : List ℕ) (at k : ℕ) → at < length o → k ≡ min (length xs) (length o - at) → ys ≡ take k xs → put_mid at k o ys ≡ laid o at xs
laid-part o xs ys at k h e q =
    let l : length (take k xs) ≡ k = simp length-take (omega arith) in
    let n = laid-length o at (take k xs) in
    let w = laid o at (take k xs) in
    let i : w ≡ take at o ++ (take k xs ++ drop (at + k) o) = rw l at (laid-at o at (take k xs) (omega arith)) ∙ append_assoc (take at o) (take k xs) (drop (at + k) o) in
    let j : laid o at xs ≡ laid w (at + k) (drop k xs) = ap (laid o at) (sym (take-append-drop k xs)) ∙ laid-append o at (take k xs) (drop k xs) ∙ rw l in
    rw (q, drop-drop k at o) (sym i) ∙ sym (j ∙ laid-copied w at k xs (omega arith))

-- A u64 has at most 20 decimal digits.
width-up : (k v : ℕ) → width_up_to k v ≤ suc k
unfolding width_up_to
width-up zero v = omega arith
width-up (suc k) v = go (width-up k (v / 10)) (ltb v 10)
  where
    go : width_up_to k (v / 10) ≤ suc k → (b : Bool) → cond b 1 (suc (width_up_to k (v / 10))) ≤ suc (suc k)
    go h true = omega arith
    go h false = omega arith

pub width_small : (v : ℕ) → width_of v ≤ 20
unfolding width_of
width_small v = width-up 19 v

pub decimal-length : (v : ℕ) → length (decimal_of v) ≡ width_of v
unfolding decimal_of
decimal-length v = digits-length 10 48 (width_of v) v

pub column-length : (v b : ℕ) → length (column v b) ≤ 21
unfolding column
column-length v b = omega (arith, length-append (decimal_of v) (b ∷ []), decimal-length v, width_small v)

pub pair-length : (v w b : ℕ) → length (pair v w b) ≤ 42
unfolding pair
pair-length v w b = omega (arith, length-append (column v 32) (column w b), column-length v 32, column-length w b)
