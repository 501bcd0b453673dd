-- Laws of words that are compared with names.
use Prim.Native.Nat.{ℕ, suc, ◌+◌, ◌≤◌, ◌<◌}
use mathlib.Core.Bool.{Bool, true, false, false≢true, and-eq-true_iff}
use mathlib.Core.List.{List, [], ◌∷◌}
use mathlib.Core.Path.{◌≡◌, refl, sym, ap, ◌∙◌}
use native.Mathlib.Omega.{arith}
use lib.Dec.{eqb}
use lib.ListN.{length, get_or}
use borrow.Author.Tests.{eqb-true, eq-eqb}
use Rattle.words.specs.Words.{is_word, place_in}
use Rattle.words.proofs.Cases.{either}

word-refl : (k : List ℕ) → is_word k k ≡ true
unfolding is_word
word-refl [] = refl
word-refl (a ∷ k) = rw (eq-eqb a a refl) (word-refl k)

pub word_same : (k n : List ℕ) → is_word k n ≡ true → k ≡ n
unfolding is_word
word_same [] [] e = refl
word_same [] (b ∷ n) e = absurd (false≢true e)
word_same (a ∷ k) [] e = absurd (false≢true e)
word_same (a ∷ k) (b ∷ n) e = let q = (and-eq-true_iff (eqb a b) (is_word k n)).0 e in let x = eqb-true a b q.0 in let y = word_same k n q.1 in cc

pub word_test : (r : Bool) (k n : List ℕ) → (r ≡ true → k ≡ n) × (k ≡ n → r ≡ true) → is_word k n ≡ r
word_test true k n h = ap (λ w. is_word w n) (h.0 refl) ∙ word-refl n
word_test false k n h = either (is_word k n) (λ q. q ∙ sym (h.1 (word_same k n q))) (λ q. q)

-- A word that has a place among names is the name there.
pub place-said : (w : List ℕ) (k : ℕ) (ns : List (List ℕ)) → 0 < place_in w k ns → (i : ℕ) × (place_in w k ns ≡ k + i) × (is_word w (get_or ns i []) ≡ true)
unfolding place_in
place-said w k [] h = absurd (omega arith)
place-said w k (n ∷ ns) h =
    either (is_word w n) (λ q. rw q (0, omega arith, q))
    (λ q. let r = place-said w (k + 1) ns (rw q at h) in rw q (suc r.0, omega (arith, r.1), r.2))

-- Its place is behind no more than all of them.
pub place-below : (w : List ℕ) (k : ℕ) (ns : List (List ℕ)) → place_in w k ns ≤ k + length ns
unfolding place_in
place-below w k [] = omega arith
place-below w k (n ∷ ns) = either (is_word w n) (λ q. rw q (omega arith)) (λ q. rw q (omega (arith, place-below w (k + 1) ns)))
