-- Pending claims and ledger entries, side by side: pairwise relation, and what packing, granting and removing do to it.
use mathlib.Core.Path.{◌≡◌, refl, sym, subst}
use mathlib.Core.Logic.{◌⊎◌, inl, inr}
use mathlib.Core.Bool.{Bool, true, false, cond}
use mathlib.Core.List.Memᴰ
use mathlib.Core.List.{List, [], ◌∷◌, ◌++◌, map}
use Prim.Native.Nat.{ℕ}
use native.Mathlib.Omega.{arith}
use lib.ListN.{length}
use Rattle.rules.specs.Lists.{◌∈◌, sum, keep}
use Rattle.rules.proofs.Bools.{clash}
use Rattle.rules.proofs.Lists.{here, there, none}

module _ {A B : Type 0} where
  -- Two lists of one length, with R between the elements at each place.
  pub data Match (R : A → B → Type 0) : List A → List B → Type 0 where
    m_nil : Match R [] []
    m-cons : {x : A} {y : B} {k : List A} {l : List B} → R x y → Match R k l → Match R (x ∷ k) (y ∷ l)

module _ {A A' B B' : Type 0} {R : A → B → Type 0} {S : A' → B' → Type 0} where
  pub match-map : (f : A → A') (g : B → B') {k : List A} {l : List B} → ((x : A) (y : B) → x ∈ k → R x y → S (f x) (g y)) → Match R k l → Match S (map f k) (map g l)
  match-map f g h m_nil = m_nil
  match-map f g h (m-cons {x} {y} r m) = m-cons (h x y here r) (match-map f g (λ z w i. h z w (there i)) m)

module _ {A A' B : Type 0} {R : A → B → Type 0} {S : A' → B → Type 0} where
  pub match-left : (f : A → A') {k : List A} {l : List B} → ((x : A) (y : B) → x ∈ k → R x y → S (f x) y) → Match R k l → Match S (map f k) l
  match-left f h m_nil = m_nil
  match-left f h (m-cons {x} {y} r m) = m-cons (h x y here r) (match-left f (λ z w i. h z w (there i)) m)

module _ {A B : Type 0} {R S : A → B → Type 0} where
  pub match-weaken : {k : List A} {l : List B} → ((x : A) (y : B) → R x y → S x y) → Match R k l → Match S k l
  match-weaken h m_nil = m_nil
  match-weaken h (m-cons {x} {y} r m) = m-cons (h x y r) (match-weaken h m)

module _ {A B : Type 0} {R : A → B → Type 0} where
  pub match-snoc : {k : List A} {l : List B} (x : A) (y : B) → Match R k l → R x y → Match R (k ++ (x ∷ [])) (l ++ (y ∷ []))
  match-snoc x y m_nil r = m-cons r m_nil
  match-snoc x y (m-cons q m) r = m-cons q (match-snoc x y m r)

  pub match_none : {k : List A} {l : List B} → Match R k l → Match R k (l ++ [])
  match_none m_nil = m_nil
  match_none (m-cons r m) = m-cons r (match_none m)

  -- Tests that agree on partners keep partners.
  pub match-keep : (p : A → Bool) (q : B → Bool) {k : List A} {l : List B} → ((x : A) (y : B) → x ∈ k → R x y → p x ≡ q y) → Match R k l → Match R (keep p k) (keep q l)
  unfolding keep
  match-keep p q h m_nil = m_nil
  match-keep p q h (m-cons {x} {y} {k} {l} r m) = go (p x) (q y) (h x y here r) (match-keep p q (λ z w i. h z w (there i)) m)
    where
      go : (a b : Bool) → a ≡ b → Match R (keep p k) (keep q l) → Match R (cond a (x ∷ keep p k) (keep p k)) (cond b (y ∷ keep q l) (keep q l))
      go true true e n = m-cons r n
      go false false e n = n
      go true false e n = clash refl e
      go false true e n = clash e refl

  pub match-length : {k : List A} {l : List B} → Match R k l → length k ≡ length l
  match-length m_nil = refl
  match-length (m-cons r m) = omega (arith, match-length m)

  pub match-sum : (f : A → ℕ) (g : B → ℕ) {k : List A} {l : List B} → ((x : A) (y : B) → x ∈ k → R x y → f x ≡ g y) → Match R k l → sum f k ≡ sum g l
  unfolding sum
  match-sum f g h m_nil = refl
  match-sum f g h (m-cons {x} {y} r m) = omega (arith, h x y here r, match-sum f g (λ z w i. h z w (there i)) m)

  -- The partner of an element.
  pub partner : {k : List A} {l : List B} {y : B} → Match R k l → y ∈ l → (x : A) × x ∈ k × R x y
  partner m_nil i = none i
  partner {y = z} (m-cons {x} {y} {k} {l} r m) i = go (Memᴰ.cases_cons i) (partner m)
    where
      go : (z ≡ y) ⊎ (z ∈ l) → (z ∈ l → (w : A) × w ∈ k × R w z) → (w : A) × w ∈ (x ∷ k) × R w z
      go (inl q) ih = (x, here, subst (R x) (sym q) r)
      go (inr j) ih = let p = ih j in (p.0, there p.1, p.2)

  pub partner-of : {k : List A} {l : List B} {x : A} → Match R k l → x ∈ k → (y : B) × y ∈ l × R x y
  partner-of m_nil i = none i
  partner-of {x = z} (m-cons {x} {y} {k} {l} r m) i = go (Memᴰ.cases_cons i) (partner-of m)
    where
      go : (z ≡ x) ⊎ (z ∈ k) → (z ∈ k → (w : B) × w ∈ l × R z w) → (w : B) × w ∈ (y ∷ l) × R z w
      go (inl q) ih = (y, here, subst (λ (u : A). R u y) (sym q) r)
      go (inr j) ih = let p = ih j in (p.0, there p.1, p.2)
