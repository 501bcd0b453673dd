-- Laws of the parts of a text: the place of the first byte that passes p, and the parts cut there.
use Prim.Native.Nat.{ℕ, zero, suc, ◌+◌, ◌-◌, ◌≤◌, ◌<◌, max}
use mathlib.Core.Path.{◌≡◌, refl, sym, ap, ◌∙◌}
use mathlib.Core.Bool.{Bool, true, false, not, and-eq-true_iff}
use mathlib.Core.List.{List, [], ◌∷◌}
use native.Mathlib.Nat.{add-zero}
use native.Mathlib.Numerals.{add-one}
use native.Mathlib.Omega.{arith}
use borrow.Author.Tests.{not-true, lt-ltb, le-ltb}
use lib.ListN.{length, get_or, take, drop, drop_of_length-le, length-take, length-drop}
use lib.Seq.{drop-drop, take_all}
use Rattle.words.specs.Parts.{bytes_before, until, none, place_of, parts, in_front, is_feed, lines_in, FirstPart}
use Rattle.std.specs.List.{list_any, position, position_or_len}
use Rattle.std.specs.Option.{unwrap_or}
use Rattle.std.specs.Prelude.{Option, Some, None}
use Rattle.words.proofs.Cases.{either, below}

module _ (p : ℕ → Bool) where
  -- ── of a text from its start on ──
  pub before-length : (l : List ℕ) → bytes_before p l ≤ length l
  unfolding bytes_before
  before-length [] = omega arith
  before-length (b ∷ l) = either (p b) (λ e. rw e (omega arith)) (λ e. rw e (omega (arith, before-length l)))

  pub parts-of : (l : List ℕ) → 0 < length l → parts p l ≡ until p l ∷ parts p (drop (suc (bytes_before p l)) l)
  unfolding bytes_before parts
  parts-of [] h = absurd (omega arith)
  parts-of (b ∷ []) h = either (p b) (λ e. rw e) (λ e. rw e)
  parts-of (b ∷ c ∷ l) h = either (p b) (λ e. rw e) (λ e. rw e (ap (in_front b) (parts-of (c ∷ l) (omega arith))))

  pub before-passes : (l : List ℕ) → bytes_before p l < length l → p (get_or l (bytes_before p l) 0) ≡ true
  unfolding bytes_before
  before-passes [] h = absurd (omega arith)
  before-passes (b ∷ l) h = either (p b) (λ e. rw e e) (λ e. rw e (before-passes l (omega (arith, rw e at h))))

  -- ── as the library counts ──
  before_len : (l : List ℕ) → position_or_len p l ≡ bytes_before p l
  unfolding bytes_before
  before_len [] = refl
  before_len (b ∷ l) = either (p b) (λ e. rw e refl) (λ e. rw e (omega (arith, before_len l)))

  -- What it finds: how many stand before the first that passes, or none.
  module _ (l : List ℕ) (r : Option ℕ) (e : r ≡ position p l) where
    pub before-found : (unwrap_or r (length l) ≡ bytes_before p l) × (unwrap_or r (length l) ≤ length l)
    before-found =
        let n = before_len l in
        rw e (below (position_or_len p l) (length l) (λ h. rw (lt-ltb _ _ h) (n, omega arith)) (λ h. rw (le-ltb _ _ h) (omega (arith, n, before-length l), omega arith)))

    pub found_at : (i : ℕ) → r ≡ Some i → (i ≡ bytes_before p l) × (i < length l)
    found_at i s =
        let n = before_len l in
        below (position_or_len p l) (length l)
        (λ h. let q : Some i ≡ Some (position_or_len p l) = sym s ∙ rw (lt-ltb (position_or_len p l) (length l) h) at e in let z : i ≡ position_or_len p l = cc in (z ∙ n, omega arith))
        (λ h. let q : ◌≡◌ {A = Option ℕ} (Some i) None = sym s ∙ rw (le-ltb (position_or_len p l) (length l) h) at e in absurd (cc))

    pub found_none : r ≡ None → bytes_before p l ≡ length l
    found_none s =
        let n = before_len l in
        below (position_or_len p l) (length l)
        (λ h. let q : ◌≡◌ {A = Option ℕ} None (Some (position_or_len p l)) = sym s ∙ rw (lt-ltb (position_or_len p l) (length l) h) at e in absurd (cc))
        (λ h. omega (arith, n, before-length l))

  -- ── where no byte passes ──
  pub none-cons : (b : ℕ) (l : List ℕ) → none p (b ∷ l) ≡ true → (p b ≡ false) × (none p l ≡ true)
  unfolding none
  none-cons b l h = let q = (and-eq-true_iff (not (p b)) (none p l)).0 h in (not-true (p b) q.0, q.1)

  pub none-less : (q : ℕ → Bool) → ((b : ℕ) → q b ≡ false → p b ≡ false) → (l : List ℕ) → none q l ≡ true → none p l ≡ true
  unfolding none
  none-less q f [] h = refl
  none-less q f (b ∷ l) h = let k = (and-eq-true_iff (not (q b)) (none q l)).0 h in rw (f b (not-true (q b) k.0)) (none-less q f l k.1)

  pub none-at : (l : List ℕ) (i : ℕ) → p 0 ≡ false → none p l ≡ true → p (get_or l i 0) ≡ false
  none-at [] i z h = z
  none-at (b ∷ l) zero z h = (none-cons b l h).0
  none-at (b ∷ l) (suc i) z h = none-at l i z (none-cons b l h).1

  pub until_none : (l : List ℕ) → none p l ≡ true → until p l ≡ l
  unfolding bytes_before
  until_none [] h = refl
  until_none (b ∷ l) h = let q = none-cons b l h in rw q.0 (ap (λ m. b ∷ m) (until_none l q.1))

  -- Whether any passes, as the library says it.
  pub none_any : (l : List ℕ) → none p l ≡ not (list_any p l)
  unfolding none
  none_any [] = refl
  none_any (b ∷ l) = either (p b) (λ e. rw e refl) (λ e. rw e (none_any l))

  module _ (s : List ℕ) where
    -- ── the place from `at` on: after the end, and before it ──
    pub place_end : (at : ℕ) → length s ≤ at → place_of p s at ≡ at
    unfolding place_of bytes_before
    place_end at h = rw (drop_of_length-le s h) (add-zero at)

    pub place-low : (at : ℕ) → at ≤ place_of p s at
    unfolding place_of
    place-low at = omega arith

    pub place-high : (at : ℕ) → place_of p s at ≤ max at (length s)
    unfolding place_of
    place-high at = omega (arith, before-length (drop at s), length-drop at s)

    -- Found from there on.
    pub place_found : (at n : ℕ) → at < length s → n ≡ bytes_before p (take (length s - at) (drop at s))
        → (at + n ≡ place_of p s at) × (at ≤ at + n) × (at + n ≤ max at (length s))
    unfolding place_of
    place_found at n h e =
        let d = length-drop at s in
        let t : take (length s - at) (drop at s) ≡ drop at s = take_all (length s - at) (drop at s) (omega arith) in
        let q : n ≡ bytes_before p (drop at s) = rw t at e in
        (rw q, omega arith, omega (arith, q, d, before-length (drop at s)))

    -- ── what lies before it, and from it on ──
    past : (at : ℕ) → place_of p s at - at ≡ bytes_before p (drop at s)
    unfolding place_of
    past at = omega arith

    pub parts_cut : (at : ℕ) → at < length s → parts p (drop at s) ≡ take (place_of p s at - at) (drop at s) ∷ parts p (drop (place_of p s at + 1) s)
    parts_cut at h =
        let far : at + suc (bytes_before p (drop at s)) ≡ place_of p s at + 1 = omega (arith, past at, place-low at) in
        parts-of (drop at s) (omega (arith, length-drop at s))
        ∙ ap (λ k. until p (drop at s) ∷ parts p k) (drop-drop (suc (bytes_before p (drop at s))) at s ∙ ap (λ n. drop n s) far)
        ∙ rw (past at)

-- ── lines from a place on ──
-- The first part, as it is cut off.
module _ (p : ℕ → Bool) (l : List ℕ) (h : 0 < length l) where
  pub first_part : (w rest : List ℕ) → w ≡ take (bytes_before p l) l → rest ≡ drop (bytes_before p l + 1) l → FirstPart p l w rest
  first_part w rest e f =
      let n : length w ≡ bytes_before p l = omega (arith, ap length e, length-take (bytes_before p l) l, before-length p l) in
      record {
        first = e;
        behind = f ∙ ap (λ (k : ℕ). drop (k + 1) l) (sym n);
        shorter = omega (arith, ap length f, length-drop (bytes_before p l + 1) l);
        parts = parts-of p l h ∙ rw (e, f, add-one);
      }

-- The first part is empty where the byte that ends it comes first.
pub none_before : (p : ℕ → Bool) (l : List ℕ) → 1 ≤ length l → p (get_or l 0 0) ≡ true → bytes_before p l ≡ 0
unfolding bytes_before
none_before p [] h e = elim h [ ]
none_before p (b ∷ l) h e = rw e refl

pub empty_part : (p : ℕ → Bool) (l : List ℕ) → 1 ≤ length l → p (get_or l 0 0) ≡ true → FirstPart p l [] (take (length l - 1) (drop 1 l))
empty_part p l h e =
    let z = none_before p l h e in
    first_part p l h [] (take (length l - 1) (drop 1 l)) (rw z) (rw z (take_all (length l - 1) (drop 1 l) (omega (arith, length-drop 1 l))))

-- What stands behind the byte that ends it, where there is none, and where there is one.
module _ (n : ℕ) (l e : List ℕ) (q : e ≡ drop n l) where
  pub behind_end : length e < 1 → e ≡ drop (n + 1) l
  behind_end h =
      let k : length l ≤ n = omega (arith, ap length q, length-drop n l) in
      let d : drop (n + 1) l ≡ [] = drop_of_length-le l (omega arith) in
      q ∙ drop_of_length-le l k ∙ sym d

  pub behind-more : take (length e - 1) (drop 1 e) ≡ drop (n + 1) l
  behind-more =
      take_all (length e - 1) (drop 1 e) (omega (arith, length-drop 1 e)) ∙ ap (drop 1) q ∙ drop-drop 1 n l

pub lines_cut : (text : List ℕ) (at e : ℕ) → at < length text → e ≡ place_of is_feed text at
    → lines_in (drop at text) ≡ take (e - at) (drop at text) ∷ lines_in (drop (e + 1) text)
unfolding lines_in
lines_cut text at e h i = rw i (parts_cut is_feed text at h)

pub lines_end : (text : List ℕ) (at : ℕ) → length text ≤ at → lines_in (drop at text) ≡ []
unfolding lines_in parts
lines_end text at h = rw (drop_of_length-le text h)
