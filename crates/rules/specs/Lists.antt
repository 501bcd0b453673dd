-- The few functions on lists that the rules are written with.
use Rattle.std.specs.Prelude.{◌≢◌, Bool, true, false, ◌&&◌, ◌||◌, cond, ℕ, ◌+◌, ◌<◌, min, max}
use mathlib.Core.List.{List, [], ◌∷◌, Memᴰ}

infix 40 ◌∈◌
-- x is one of the list's elements.
abbrev pub ◌∈◌ : {A : Type 0} → A → List A → Type 0
x ∈ l = Memᴰ x l

-- The greatest of b and the numbers f x.
unfoldable pub greatest : {A : Type 0} → (A → ℕ) → ℕ → List A → ℕ
greatest f b [] = b
greatest f b (x ∷ l) = max (f x) (greatest f b l)

-- The least of d and those numbers of the list that pass p.
unfoldable pub least : (ℕ → Bool) → ℕ → List ℕ → ℕ
least p d [] = d
least p d (n ∷ l) = cond (p n) (min n (least p d l)) (least p d l)

-- The sum of the numbers f x.
unfoldable pub sum : {A : Type 0} → (A → ℕ) → List A → ℕ
sum f [] = 0
sum f (x ∷ l) = f x + sum f l

-- Every element passes p.
unfoldable pub all : {A : Type 0} → (A → Bool) → List A → Bool
all p [] = true
all p (x ∷ l) = p x && all p l

-- Some element passes p.
unfoldable pub any : {A : Type 0} → (A → Bool) → List A → Bool
any p [] = false
any p (x ∷ l) = p x || any p l

-- The elements that pass p, in their order.
unfoldable pub keep : {A : Type 0} → (A → Bool) → List A → List A
keep p [] = []
keep p (x ∷ l) = cond (p x) (x ∷ keep p l) (keep p l)

-- The first element that passes p; d where none does.
unfoldable pub first_with : {A : Type 0} → (A → Bool) → A → List A → A
first_with p d [] = d
first_with p d (x ∷ l) = cond (p x) x (first_with p d l)

-- No two elements have the same number f x.
abbrev pub Distinct : {A : Type 0} → (A → ℕ) → List A → Type 0
Distinct f [] = Unit {0}
Distinct {A} f (x ∷ l) = ((y : A) → y ∈ l → f x ≢ f y) × Distinct f l

-- The numbers f x ascend, so none of them stands twice.
abbrev pub Ascends : {A : Type 0} → (A → ℕ) → List A → Type 0
Ascends f [] = Unit {0}
Ascends {A} f (x ∷ l) = ((y : A) → y ∈ l → f x < f y) × Ascends f l
