-- The row that a new claim joins, the contention that bounds it, and the head change.
-- A row that is passed over has a claim that shares a group, so fewer such claims stand behind it: this bounds the search.
use mathlib.Core.Path.{◌≡◌, refl, sym, ◌∙◌, ap}
use mathlib.Core.Bool.{Bool, true, false, ◌&&◌, and-false}
use mathlib.Core.List.{List, [], ◌∷◌, map}
use Prim.Native.Nat.{ℕ, zero, suc, ◌+◌, ◌≤◌, ◌<◌}
use native.Mathlib.Omega.{arith}
use lib.Dec.{leb, eqb}
use lib.ListN.{length}
use borrow.Author.Tests.{leb-true, le-leb, lt-leb, eqb-true, eq-eqb}
use Rattle.rules.specs.Lists.{◌∈◌, any, keep, Ascends}
use Rattle.rules.proofs.Bools.{by-test, by_order, clash, and_l, and_r, and_i}
use Rattle.rules.proofs.Lists.{any_some, any_none, keep-e, keep-i, keep-length, map-e, map-i, ascends_same, ascends-keep, ascends-map, named_keep, keep-le, keep-lt}
use Rattle.frames.specs.declared.Claim.{Claim}
use Rattle.frames.specs.Rows.{on, rival, contention, taken, row_from, row_for, Joins, nearer, turned, head_tickets, turned_on}
use Rattle.frames.specs.Invariants.{ticket_of}

-- ── rows that are taken ──
-- In a row that is not taken no claim shares a group.
pub taken_none : (g : ℕ) (ps : List Claim) (r : ℕ) → taken g ps r ≡ false → (c : Claim) → c ∈ ps → c.row ≡ r → rival g c ≡ false
unfolding taken
taken_none g ps r h c i e =
    by-test (rival g c)
    (λ t. clash (and_i (rival g c) _ t (eq-eqb c.row r e)) (any_none (λ c. rival g c && eqb c.row r) h i))
    (λ f. f)

-- In one that is taken a claim does.
pub taken-some : (g : ℕ) (ps : List Claim) (r : ℕ) → taken g ps r ≡ true → (c : Claim) × c ∈ ps × (rival g c ≡ true) × (c.row ≡ r)
unfolding taken
taken-some g ps r h =
    let x = any_some (λ c. rival g c && eqb c.row r) ps h in
    (x.0, x.1, and_l (rival g x.0) _ x.2, eqb-true x.0.row r (and_r (rival g x.0) _ x.2))

-- Without claims no row is taken.
taken-nil : (g r : ℕ) → taken g [] r ≡ false
unfolding taken any
taken-nil g r = refl

-- ── the search ──
-- A claim that shares a group, in row r or behind it.
abbrev late : ℕ → ℕ → Claim → Bool
late g r c = rival g c && leb r c.row

-- How many are.
unfoldable late_count : ℕ → List Claim → ℕ → ℕ
late_count g ps r = length (keep (late g r) ps)

-- Behind a row that is taken they are fewer.
late-fewer : (g : ℕ) (ps : List Claim) (r : ℕ) → taken g ps r ≡ true → late_count g ps (suc r) < late_count g ps r
unfolding late_count
late-fewer g ps r h =
    let x = taken-some g ps r h in
    let c : Claim = x.0 in
    keep-lt (late g (suc r)) (late g r) x.1
    (rw (lt-leb (suc r) c.row (omega (arith, x.3))) (and-false (rival g c)))
    (and_i (rival g c) _ x.2 (le-leb r c.row (omega (arith, x.3))))
    (λ d i e. and_i (rival g d) _ (and_l (rival g d) _ e) (le-leb r d.row (omega (arith, leb-true (suc r) d.row (and_r (rival g d) _ e)))))

-- What the search from row r on finds, where at most k claims of row r or behind share a group.
record Found (g : ℕ) (ps : List Claim) (r k x : ℕ) : Type 0 where
  low : r ≤ x
  high : x ≤ r + k
  free : taken g ps x ≡ false
  first : (j : ℕ) → r ≤ j → j < x → taken g ps j ≡ true

-- Row r is free: it is the one.
found_here : (g : ℕ) (ps : List Claim) (r k : ℕ) → taken g ps r ≡ false → Found g ps r k r
found_here g ps r k h = record { low = omega arith; high = omega arith; free = h; first = λ j a b. absurd (omega arith) }

-- Row r is taken: what the search from the next row on finds.
found-later : (g : ℕ) (ps : List Claim) (r k x : ℕ) → taken g ps r ≡ true → Found g ps (suc r) k x → Found g ps r (suc k) x
found-later g ps r k x h f = record {
  low = omega (arith, f.low);
  high = omega (arith, f.high);
  free = f.free;
  first = λ j a b. by_order j r (λ l. ap (λ (i : ℕ). taken g ps i) (omega arith) ∙ h) (λ l. f.first j l b);
}

-- By the bound: where it runs out, no claim that shares a group is left.
search-finds : (k g : ℕ) (ps : List Claim) (r : ℕ) → late_count g ps r ≤ k → Found g ps r k (row_from k g ps r)
unfolding row_from
search-finds zero g ps r h = found_here g ps r 0 (by-test (taken g ps r) (λ t. absurd (omega (arith, late-fewer g ps r t))) (λ f. f))
search-finds (suc k) g ps r h =
    let ih = search-finds k g ps (suc r) in
    by-test (taken g ps r)
    (λ t. rw (t, row_from) (found-later g ps r k _ t (ih (omega (arith, late-fewer g ps r t)))))
    (λ f. rw (f, row_from) (found_here g ps r (suc k) f))

-- ── the row of a new claim ──
-- The contention is bound enough.
found : (g : ℕ) (c : Claim) (ps : List Claim) → Found g (c ∷ ps) 1 (contention g (c ∷ ps)) (row_for g (c ∷ ps))
unfolding row_for contention late_count
found g c ps = search-finds (contention g (c ∷ ps)) g (c ∷ ps) 1 (keep-le (late g 1) (rival g) (c ∷ ps) (λ d i e. and_l (rival g d) _ e))

-- A new claim joins the row that the request says.
pub row-joins : (g : ℕ) (ps : List Claim) → Joins g ps (row_for g ps)
unfolding row_for
row-joins g [] = record { when_empty = λ e. refl; behind = λ h. absurd (h refl); free = taken-nil g 0; first = λ j a b. absurd (omega arith) }
row-joins g (c ∷ ps) =
    let f = found g c ps in
    record { when_empty = λ e. let z : ◌≡◌ {A = ℕ} 0 1 = cc in absurd (omega arith); behind = λ h. f.low; free = f.free; first = f.first }

-- It is at most 1 + the contention.
pub row-bound : (g : ℕ) (ps : List Claim) → row_for g ps ≤ 1 + contention g ps
unfolding row_for
row-bound g [] = omega arith
row-bound g (c ∷ ps) = (found g c ps).high

-- Of two rows that are as the request says, none is before the other,
no-earlier : (g : ℕ) (ps : List Claim) (r s : ℕ) → Joins g ps r → Joins g ps s → r < s → ⊥
no-earlier g ps r s j k l = clash (k.first r (j.behind (λ e. omega (arith, k.when_empty e))) l) j.free

-- so no other row is.
pub row-unique : (g : ℕ) (ps : List Claim) (r : ℕ) → Joins g ps r → r ≡ row_for g ps
row-unique g ps r j =
    let k = row-joins g ps in
    by_order r (row_for g ps)
    (λ l. by_order (row_for g ps) r (λ q. omega arith) (λ q. absurd (no-earlier g ps r _ j k q)))
    (λ l. absurd (no-earlier g ps _ r k j l))

-- No more claims share a group than are pending.
pub contention-few : (g : ℕ) (ps : List Claim) → contention g ps ≤ length ps
unfolding contention
contention-few g ps = keep-length (rival g) ps

-- ── the head row ──
-- Its tickets ascend as those of the claims do.
pub head-ascends : (ps : List Claim) → Ascends ticket_of ps → Ascends (λ (k : ℕ). k) (head_tickets ps)
unfolding head_tickets
head-ascends ps u = ascends-map ticket_of (λ (k : ℕ). k) ticket_of (keep on ps) (λ c. refl) (ascends-keep ticket_of on ps u)

-- They are the tickets of the claims in it,
pub head-i : {ps : List Claim} {c : Claim} → c.row ≡ 0 → c ∈ ps → c.ticket ∈ head_tickets ps
unfolding head_tickets
head-i {ps} {c} e i = map-i ticket_of (keep-i on (eq-eqb c.row 0 e) i)

-- and only those;
pub head-e : (ps : List Claim) {k : ℕ} → k ∈ head_tickets ps → (c : Claim) × c ∈ ps × (c.row ≡ 0) × (c.ticket ≡ k)
unfolding head_tickets
head-e ps i =
    let x = map-e ticket_of (keep on ps) i in
    let y = keep-e on ps x.1 in
    (x.0, y.0, eqb-true x.0.row 0 y.1, sym x.2)

-- a claim's ticket is named among them exactly if it is on.
pub head-named : (ps : List Claim) → Ascends ticket_of ps → (c : Claim) → c ∈ ps → any (λ k. eqb k c.ticket) (head_tickets ps) ≡ on c
unfolding head_tickets
head-named ps u = named_keep ticket_of on ps (ascends_same ticket_of ps u)

-- ── head changes ──
-- With no claim in the head row, each is in a row behind it.
pub behind-head : {ps : List Claim} {c : Claim} → any on ps ≡ false → c ∈ ps → 1 ≤ c.row
behind-head {ps} {c} h i = by_order 1 c.row (λ l. l) (λ l. clash (eq-eqb c.row 0 (omega arith)) (any_none on h i))

-- To show something of what a release leaves and whom it grants, show it where the head row still has a claim, and where it has emptied.
pub turned-cases : (P : List Claim → List ℕ → Type 0) (ps : List Claim)
    → (any on ps ≡ true → P ps [])
    → (any on ps ≡ false → P (map nearer ps) (head_tickets (map nearer ps)))
    → P (turned ps) (turned_on ps)
unfolding turned turned_on
turned-cases P ps h k = by-test (any on ps) (λ e. rw e (h e)) (λ e. rw e (k e))
