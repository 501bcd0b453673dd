-- Laws of the words of a line, as the code finds them.
use Prim.Native.Nat.{ℕ, suc, ◌+◌, ◌-◌, ◌≤◌, ◌<◌}
use mathlib.Core.Path.{◌≡◌, refl, sym, ap, ◌∙◌}
use mathlib.Core.Bool.{true, false, false≢true}
use mathlib.Core.List.{List, [], ◌∷◌}
use native.Mathlib.Nat.{add-zero}
use native.Mathlib.Numerals.{add-one}
use native.Mathlib.Omega.{arith}
use lib.ListN.{length, get_or, take, drop, drop_of_length-le, length-take, length-drop}
use lib.Seq.{drop-cons, get_or-drop, take_all}
use borrow.Author.Tests.{not-true}
use Rattle.std.proofs.Common.{Bor}
use Rattle.std.specs.Option.{MatchOption, is_some}
use Rattle.std.specs.Prelude.{Option, Some, None}
use Rattle.words.specs.Parts.{bytes_before, until, since, parts, not_empty, is, is_blank, is_full, words_in, FirstWord, carriage_return, chomped}
use Rattle.words.proofs.Cases.{either, below}
use Rattle.words.proofs.Parts.{before-length, before-passes, parts-of}

-- Blanks in front of a word say nothing.
words-since : (l : List ℕ) → words_in l ≡ words_in (since is_full l)
unfolding words_in bytes_before parts
words-since [] = refl
words-since (b ∷ l) = either (is_blank b) (λ e. rw e (words-since l)) (λ e. rw (e, e))

pub not-empty-cons : (w : List ℕ) (ws : List (List ℕ)) → 0 < length w → not_empty (w ∷ ws) ≡ w ∷ not_empty ws
not-empty-cons [] ws h = absurd (omega arith)
not-empty-cons (b ∷ w) ws h = refl

words-none : (l : List ℕ) (at : ℕ) → length l ≤ at → words_in (drop at l) ≡ []
unfolding words_in parts
words-none l at h = rw (drop_of_length-le l h)

-- The byte that ends a word is no part of the next.
words-past : (l : List ℕ) (at : ℕ) → (at < length l → is_blank (get_or l at 0) ≡ true) → words_in (drop at l) ≡ words_in (drop (at + 1) l)
unfolding words_in parts
words-past l at f =
    below at (length l) (λ h. rw (drop-cons l at 0 h, add-one, f h)) (λ h. words-none l at h ∙ sym (words-none l (at + 1) (omega arith)))

some-before : (l : List ℕ) → 0 < length l → is_blank (get_or l 0 0) ≡ false → 0 < bytes_before is_blank l
unfolding bytes_before
some-before [] h f = absurd (omega arith)
some-before (b ∷ l) h f = rw f (omega arith)

-- A line that begins with no blank: its first word, of m bytes.
module _ (l : List ℕ) (h : 0 < length l) (f : is_blank (get_or l 0 0) ≡ false) where
  full-first : words_in l ≡ until is_blank l ∷ words_in (since is_blank l)
  unfolding words_in
  full-first =
      let n : 0 < length (until is_blank l) = omega (arith, some-before l h f, length-take (bytes_before is_blank l) l, before-length is_blank l) in
      let k : words_in (drop (suc (bytes_before is_blank l)) l) ≡ words_in (since is_blank l) = rw add-one at (sym (words-past l (bytes_before is_blank l) (before-passes is_blank l))) in
      ap not_empty (parts-of is_blank l h)
      ∙ not-empty-cons (until is_blank l) (parts is_blank (drop (suc (bytes_before is_blank l)) l)) n
      ∙ ap (λ ws. until is_blank l ∷ ws) k

-- What the code finds: blanks in front, then a word.
module _ (l : List ℕ) (i m : ℕ) (e : i ≡ bytes_before is_full l) (h : i < length l) (q : m ≡ bytes_before is_blank (drop i l)) where
  pub first_word : FirstWord l (take m (drop i l)) (drop m (drop i l))
  first_word =
      let s : since is_full l ≡ drop i l = ap (λ (k : ℕ). drop k l) (sym e) in
      let b : is_full (get_or l i 0) ≡ true = rw e (before-passes is_full l (omega arith)) in
      let z : get_or (drop i l) 0 0 ≡ get_or l i 0 = get_or-drop i l 0 0 ∙ ap (λ (k : ℕ). get_or l k 0) (add-zero i) in
      let n : 0 < length (drop i l) = omega (arith, length-drop i l) in
      let f : is_blank (get_or (drop i l) 0 0) ≡ false = rw z (not-true _ b) in
      let u = some-before (drop i l) n f in
      let k = before-length is_blank (drop i l) in
      record {
        first = rw (s, ← q);
        behind = rw (s, ← q);
        some = omega (arith, u, q, k, length-take m (drop i l));
        shorter = omega (arith, u, q, length-drop i l, length-drop m (drop i l));
        words = words-since l ∙ rw (s, q) (full-first (drop i l) n f);
      }

pub no_word : (l : List ℕ) → bytes_before is_full l ≡ length l → words_in l ≡ []
no_word l e = words-since l ∙ ap (λ (k : ℕ). words_in (drop k l)) e ∙ words-none l (length l) (omega arith)

-- Whether the code finds one, by `is_some`.
module _ (l : List ℕ) (r : Option (Bor (List ℕ) × Bor (List ℕ))) (m : MatchOption r (words_in l ≡ []) (λ p. FirstWord l p.0.now p.1.now)) where
  pub some-more : is_some r ≡ true → (w : List ℕ) × (ws : List (List ℕ)) × (words_in l ≡ w ∷ ws)
  some-more = go r m
    where
      go : (r : Option (Bor (List ℕ) × Bor (List ℕ))) → MatchOption r (words_in l ≡ []) (λ p. FirstWord l p.0.now p.1.now) → is_some r ≡ true
          → (w : List ℕ) × (ws : List (List ℕ)) × (words_in l ≡ w ∷ ws)
      go None m e = absurd (false≢true e)
      go (Some p) m e = (p.0.now, words_in p.1.now, m.words)

  pub no_more : is_some r ≡ false → words_in l ≡ []
  no_more = go r m
    where
      go : (r : Option (Bor (List ℕ) × Bor (List ℕ))) → MatchOption r (words_in l ≡ []) (λ p. FirstWord l p.0.now p.1.now) → is_some r ≡ false → words_in l ≡ []
      go None m e = m
      go (Some p) m e = absurd (false≢true (sym e))

-- A line before the carriage return that ends it.
chomped-is : (l : List ℕ) → take (length (chomped l)) l ≡ chomped l
unfolding chomped
chomped-is l =
    let n : length (take (length l - 1) l) ≡ length l - 1 = omega (arith, length-take (length l - 1) l) in
    either (is carriage_return (get_or l (length l - 1) 0)) (λ e. rw (e, n)) (λ e. rw e (take_all (length l) l (omega arith)))

pub chomped-within : (l : List ℕ) → length (chomped l) ≤ length l
chomped-within l = omega (arith, ap length (chomped-is l), length-take (length (chomped l)) l)
