-- What stands at a place of a list is one of its elements; rows of 64 places, of whatever: what is read from them, and what writing them gives.
use mathlib.Core.Path.{◌≡◌, refl, sym, ◌∙◌, ap, subst}
use mathlib.Core.List.{List, [], ◌∷◌, ◌++◌}
use Prim.Native.Nat.{ℕ, zero, suc, ◌+◌, ◌-◌, ◌≤◌, ◌<◌}
use native.Mathlib.Omega.{arith}
use native.Mathlib.Numerals.{add-one}
use lib.ListN.{length, take, drop, get_or, set, replicate, length-append, length-replicate, length-take, drop_of_length-le}
use lib.Seq.{sets, sets-eq, set-get_or, take-append_seam, drop-append_seam, drop-cons, get_or-take, set-append_seam, append_snoc}
use Rattle.rules.specs.Lists.{◌∈◌}
use Rattle.rules.specs.Padding.{pad}
use Rattle.rules.proofs.Lists.{here, there}

pub at-place : {A : Type 0} (d : A) (l : List A) (i : ℕ) → i < length l → get_or l i d ∈ l
at-place d [] i h = absurd (omega arith)
at-place d (x ∷ l) zero h = here
at-place d (x ∷ l) (suc i) h = there (at-place d l i (omega arith))

-- ── reading front to back ──
module _ {A : Type 0} where
  -- What is left of the first n elements at place i: the element there, and what is left after it; in the end nothing.
  pub prefix-step : (d : A) (l : List A) (n i : ℕ) → i < n → n ≤ length l → drop i (take n l) ≡ get_or l i d ∷ drop (i + 1) (take n l)
  prefix-step d l n i h k =
      let q : i < length (take n l) = simp (length-take) (omega arith) in
      drop-cons (take n l) i d q ∙ rw (add-one, get_or-take)

  pub prefix-end : (l : List A) (n i : ℕ) → n ≤ i → drop i (take n l) ≡ []
  prefix-end l n i h = drop_of_length-le (take n l) {i = i} (simp (length-take) (omega arith))

  -- The element at place i is one of the first n.
  pub in-prefix : (d : A) (l : List A) (n i : ℕ) → i < n → i < length l → get_or l i d ∈ take n l
  in-prefix d [] n i h k = absurd (omega arith)
  in-prefix d (x ∷ l) zero i h k = absurd (omega arith)
  in-prefix d (x ∷ l) (suc n) zero h k = here
  in-prefix d (x ∷ l) (suc n) (suc i) h k = there (in-prefix d l n i (omega arith) (omega arith))

-- ── rows filled up with d ──
module _ {A : Type 0} (d : A) where
  pub pad-length : (l : List A) → length l ≤ 64 → length (pad d l) ≡ 64
  pad-length l h = omega (arith, length-append l (replicate (64 - length l) d), length-replicate (64 - length l) d)

  pub pad-take : (l : List A) → take (length l) (pad d l) ≡ l
  pad-take l = take-append_seam l (replicate (64 - length l) d)

  -- Other elements in the same places.
  pub pad-over : (l k : List A) → length k ≡ length l → k ++ drop (length l) (pad d l) ≡ pad d k
  pad-over l k e = ap (λ (r : List A). k ++ r) (drop-append_seam l (replicate (64 - length l) d)) ∙ ap (λ (n : ℕ). k ++ replicate (64 - n) d) (sym e)

  -- One element more.
  pub pad-more : (l : List A) (x : A) → length l < 64 → set (pad d l) (length l) x ≡ pad d (l ++ (x ∷ []))
  pad-more l x h =
      let e : length (l ++ (x ∷ [])) ≡ length l + 1 = length-append l (x ∷ []) in
      let p : 64 - length l ≡ suc (63 - length l) = omega arith in
      let q : 64 - (length l + 1) ≡ 63 - length l = omega arith in
      rw (e, p, q) (set-append_seam l d (replicate (63 - length l) d) x ∙ sym (append_snoc l x (replicate (63 - length l) d)))

  -- One element less: the place after the others becomes vacant.
  pub pad-less : (l k : List A) → suc (length k) ≡ length l → length l ≤ 64 → set (k ++ drop (length k) (pad d l)) (length k) d ≡ pad d k
  pad-less l k e h =
      let size : suc (64 - length l) ≡ 64 - length k = omega arith in
      let tail : drop (suc (length k)) (pad d l) ≡ replicate (64 - length l) d = ap (λ (j : ℕ). drop j (pad d l)) e ∙ drop-append_seam l (replicate (64 - length l) d) in
      ap (λ (r : List A). set (k ++ r) (length k) d) (drop-cons (pad d l) (length k) d (omega (arith, pad-length l h)))
      ∙ set-append_seam k (get_or (pad d l) (length k) d) (drop (suc (length k)) (pad d l)) d
      ∙ ap (λ (r : List A). k ++ (d ∷ r)) tail ∙ ap (λ (j : ℕ). k ++ replicate j d) size

-- ── storing front to back: what is left to store, from place n on, gives the whole ──
pub record Storing {A : Type 0} (old total rest : List A) (n : ℕ) (l : List A) : Type 0 where
  pub stores : sets l n rest ≡ sets old 0 total
  pub counts : n + length rest ≡ length total

module _ {A : Type 0} {old total : List A} where
  pub store-start : Storing old total total 0 old
  store-start = record { stores = refl; counts = omega arith }

  pub store-more : {x : A} {rest : List A} {n : ℕ} {l : List A} → Storing old total (x ∷ rest) n l → Storing old total rest (n + 1) (set l n x)
  store-more {n = n} s = record { stores = rw (add-one n) s.stores; counts = omega (arith, s.counts) }

  -- Where the element stands already.
  pub store_same : (d : A) {rest : List A} {n : ℕ} {l : List A} → Storing old total (get_or l n d ∷ rest) n l → Storing old total rest (n + 1) l
  store_same d {rest} {n} {l} s = subst (Storing old total rest (n + 1)) (set-get_or l n d) (store-more s)

  pub store-end : {n : ℕ} {l : List A} → Storing old total [] n l → length total ≤ length old → (n ≡ length total) × (l ≡ total ++ drop (length total) old)
  store-end s h =
      let e : 0 + length total ≡ length total = omega arith in
      (omega (arith, s.counts), s.stores ∙ sets-eq total old 0 (omega arith) ∙ ap (λ (k : ℕ). total ++ drop k old) e)

drop-replicate : {A : Type 0} (n k : ℕ) (d : A) → drop n (replicate k d) ≡ replicate (k - n) d
drop-replicate zero k d = let e : k - 0 ≡ k = omega arith in rw e
drop-replicate (suc n) zero d = let e : 0 - suc n ≡ 0 = omega arith in rw e
drop-replicate (suc n) (suc k) d = let e : suc k - suc n ≡ k - n = omega arith in rw e (drop-replicate n k d)

-- Stored in an empty row.
pub pad-stored : {A : Type 0} (d : A) (l : List A) → l ++ drop (length l) (replicate 64 d) ≡ pad d l
pad-stored d l = ap (λ (r : List _). l ++ r) (drop-replicate (length l) 64 d)
