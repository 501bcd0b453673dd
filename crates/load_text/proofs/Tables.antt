-- The names of the kinds, and the search for the one that a word names.
use Prim.Native.Nat.{ℕ, ◌+◌, ◌≤◌, ◌<◌}
use mathlib.Core.Bool.{Bool, true, false, ◌&&◌}
use mathlib.Core.List.{List, [], ◌∷◌}
use mathlib.Core.Path.{◌≡◌, refl, sym, ap, ◌∙◌}
use native.Mathlib.Numerals.{add-one}
use native.Mathlib.Omega.{arith}
use lib.Dec.{ltb, eqb}
use lib.Pointwise.{pointwise}
use lib.ListN.{length, drop, get_or, drop_of_length-le}
use lib.Seq.{drop-cons}
use borrow.Author.Tests.{ltb-true}
use Rattle.std.specs.Prelude.{Option, Some, None}
use Rattle.words.specs.Words.{is_word, place_in}
use Rattle.words.proofs.Names.{word_same, place-said, place-below}
use Rattle.words.proofs.Cases.{either}
use Rattle.format.specs.Format.{format, has_kind, names, name_of}
use Rattle.format.proofs.Format.{all_rows, kind-tested}
use Rattle.load_text.specs.Parsing.{kind_of, kind_named, NamedByName}

-- No edition has kind 0.
pub has-some : (e k : ℕ) → has_kind e k ≡ true → 0 < k
unfolding all_rows format
has-some e k h = ltb-true 0 k (kind-tested (λ e k fs. ltb 0 k) e k refl h)

-- ── the kind that a word names ──
-- Words as the code compares them.
pointwise-word : (k n : List ℕ) → is_word k n ≡ pointwise eqb k n
unfolding is_word
pointwise-word [] [] = refl
pointwise-word [] (b ∷ n) = refl
pointwise-word (a ∷ k) [] = refl
pointwise-word (a ∷ k) (b ∷ n) = ap (λ r. eqb a b && r) (pointwise-word k n)

pub same-word : (r : Bool) (k n : List ℕ) → r ≡ pointwise eqb k n → is_word k n ≡ r
same-word r k n e = pointwise-word k n ∙ sym e

module _ (w : List ℕ) (k : ℕ) (h : k < length names) where
  kind-here : is_word w (get_or names k []) ≡ true → place_in w k (drop k names) ≡ k
  unfolding place_in
  kind-here q = rw (drop-cons names k [] h, q)

  kind-on : is_word w (get_or names k []) ≡ false → place_in w k (drop k names) ≡ place_in w (k + 1) (drop (k + 1) names)
  unfolding place_in
  kind-on q = rw (drop-cons names k [] h, q, add-one)

kind-none : (w : List ℕ) (k : ℕ) → length names ≤ k → place_in w k (drop k names) ≡ 0
unfolding place_in
kind-none w k h = rw (drop_of_length-le names h)

-- A search behind the first k kinds: the names left have the one that is looked for.
pub record Looks (w : List ℕ) (k : ℕ) : Type 0 where
  pub is : place_in w k (drop k names) ≡ kind_of w

pub looks-start : (w : List ℕ) → Looks w 0
unfolding kind_of names
looks-start w = record { is = refl }

module _ (w : List ℕ) (k : ℕ) (h : k < length names) (t : Looks w k) where
  pub looks-on : is_word w (get_or names k []) ≡ false → Looks w (k + 1)
  looks-on q = record { is = sym (kind-on w k h q) ∙ t.is }

  looks-here : is_word w (get_or names k []) ≡ true → k ≡ kind_of w
  looks-here q = sym (kind-here w k h q) ∙ t.is

  -- It is found, and the edition has it or not;
  pub looks-has : is_word w (get_or names k []) ≡ true → (e : ℕ) → has_kind e k ≡ true → Some k ≡ kind_named e w
  unfolding kind_named
  looks-has q e x = rw (← (looks-here q), x)

  pub looks-lacks : is_word w (get_or names k []) ≡ true → (e : ℕ) → has_kind e k ≡ false → None ≡ kind_named e w
  unfolding kind_named
  looks-lacks q e x = rw (← (looks-here q), x)

-- or there is none.
pub looks-none : (w : List ℕ) (k e : ℕ) → length names ≤ k → Looks w k → None ≡ kind_named e w
unfolding kind_named
looks-none w k e h t =
    let z : kind_of w ≡ 0 = sym t.is ∙ kind-none w k h in
    either (has_kind e (kind_of w)) (λ q. absurd (omega (arith, has-some e (kind_of w) q))) (λ q. rw q)

pub has-name : (e k : ℕ) → has_kind e k ≡ true → get_or names k [] ≡ name_of e k
unfolding name_of
has-name e k h = rw h

pub lacks-name : (e k : ℕ) → has_kind e k ≡ false → [] ≡ name_of e k
unfolding name_of
lacks-name e k h = rw h

-- What a word that names a kind tells.
pub named-kind : (e : ℕ) (w : List ℕ) (k : ℕ) → kind_named e w ≡ Some k → (has_kind e k ≡ true) × (kind_of w ≡ k)
unfolding kind_named
named-kind e w k h =
    either (has_kind e (kind_of w)) (λ q. let i : ◌≡◌ {A = Option ℕ} (Some (kind_of w)) (Some k) = rw q at h in let j : kind_of w ≡ k = cc in (rw j at q, j))
    (λ q. let i : ◌≡◌ {A = Option ℕ} None (Some k) = rw q at h in absurd (cc))

pub named-by-name : NamedByName
unfolding kind_of names is_word place_in
named-by-name e w k h = let n = named-kind e w k h in go w n.1 (has-some e k n.0)
  where
    go : (w : List ℕ) → kind_of w ≡ k → 0 < k → (w ≡ get_or names k []) × (0 < length w)
    go [] q s = absurd (omega (arith, q))
    go (b ∷ w) q s =
        let r = place-said (b ∷ w) 0 names (omega (arith, q)) in
        let i : r.0 ≡ k = omega (arith, r.1, q) in
        (word_same (b ∷ w) (get_or names r.0 []) r.2 ∙ ap (λ (j : ℕ). get_or names j []) i, omega arith)

-- The kind that a word names is a byte.
pub kind-below : (e : ℕ) (w : List ℕ) (k : ℕ) → kind_named e w ≡ Some k → k < 256
unfolding kind_of names
kind-below e w k h = omega (arith, (named-kind e w k h).1, place-below w 0 names)
