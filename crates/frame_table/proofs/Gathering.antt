-- The row of a new claim: the rows in which a claim shares a group, gathered claim by claim as a set, and the first that is not in it.
-- Rests on the laws of groups/proofs/Groups about the union, the set of one group and the lowest missing group.
use mathlib.Core.Path.{◌≡◌, refl, sym, ◌∙◌, ap}
use mathlib.Core.Bool.{Bool, true, false, ◌||◌, or_assoc, or-false}
use mathlib.Core.List.{List, [], ◌∷◌}
use Prim.Native.Nat.{ℕ, suc, ◌+◌, ◌-◌, ◌≤◌, ◌<◌}
use native.Mathlib.Omega.{arith}
use lib.Dec.{eqb}
use lib.ListN.{length, get_or, drop, drop_of_length-le}
use lib.Seq.{drop-cons}
use native.Mathlib.Numerals.{add-one}
use Rattle.frames.specs.Vacant.{vacant}
use borrow.Author.Tests.{eqb-true, eq-eqb, ne_eqb}
use Rattle.groups.specs.Groups.{has, union, only, lowest_missing}
use Rattle.std.proofs.Common.{Some, None}
use Rattle.groups.proofs.Groups.{union-has, only-has, missing-lowest, missing-none}
use Rattle.groups.proofs.Words.{zero_has}
use Rattle.rules.specs.Lists.{any, keep}
use Rattle.rules.proofs.Bools.{both_ways, by_order, clash}
use Rattle.frames.specs.declared.Claim.{Claim}
use Rattle.frames.specs.Rows.{rival, contention, taken, row_for}
use Rattle.frames.proofs.Rows.{row-joins, row-bound, row-unique, contention-few}
use Rattle.frame_table.specs.declared.Rivals.{Rivals}
use Rattle.frame_table.specs.Parts.{WithRow, FreeRow, RivalsOf}

-- ── a set of rows with one more ──
-- The head row adds nothing.
pub with-head : (rows row : ℕ) → row ≡ 0 → WithRow rows row rows
with-head rows row e j h = sym (ap (λ (b : Bool). has rows j || b) (ne_eqb row (suc j) (λ q. omega arith)) ∙ or-false (has rows j))

-- A row behind it is one group more.
pub with-behind : (rows row : ℕ) → 1 ≤ row → WithRow rows row (union rows (only (row - 1)))
with-behind rows row l j h =
    union-has rows (only (row - 1)) j h
    ∙ ap (λ (b : Bool). has rows j || b)
    (only-has (row - 1) j h ∙ both_ways (eqb j (row - 1)) (eqb row (suc j))
    (λ e. eq-eqb row (suc j) (omega (arith, eqb-true j (row - 1) e)))
    (λ e. eq-eqb j (row - 1) (omega (arith, eqb-true row (suc j) e))))

-- ── all claims: the rows and the count of the claims ps but for those in rest ──
pub record Gathering (g : ℕ) (ps rest : List Claim) (rows n : ℕ) : Type 0 where
  pub all : (j : ℕ) → j < 64 → (has rows j || taken g rest (suc j)) ≡ taken g ps (suc j)
  pub counts : n + contention g rest ≡ contention g ps

module _ {g : ℕ} {ps : List Claim} where
  -- Before the first claim.
  pub gather-start : Gathering g ps ps 0 0
  gather-start = record { all = λ j h. rw (zero_has j); counts = omega arith }

  -- A claim that shares a group,
  pub gather-rival : {c : Claim} {rest : List Claim} {rows n : ℕ} → Gathering g ps (c ∷ rest) rows n → rival g c ≡ true
      → (r : ℕ) → WithRow rows c.row r → Gathering g ps rest r (n + 1)
  unfolding taken any contention keep
  gather-rival {c} {rest} {rows} {n} s q r w = record {
    all = λ j h. rw (w j h) (or_assoc (has rows j) (eqb c.row (suc j)) (taken g rest (suc j)) ∙ (rw q at (s.all j h)));
    counts = let e = rw q at s.counts in omega (arith, e);
  }

  -- and one that does not.
  pub gather-other : {c : Claim} {rest : List Claim} {rows n : ℕ} → Gathering g ps (c ∷ rest) rows n → rival g c ≡ false → Gathering g ps rest rows n
  unfolding taken any contention keep
  gather-other s q = record { all = λ j h. rw q at (s.all j h); counts = rw q at s.counts }

  -- What is left at place i: the claim there, and what is left after it.
  pub next-left : {i rows n : ℕ} → Gathering g ps (drop i ps) rows n → i < length ps → Gathering g ps (get_or ps i vacant ∷ drop (i + 1) ps) rows n
  next-left {i} w h = rw add-one (rw (drop-cons ps i vacant h) at w)

  -- A claim that is counted is one more of those that there are.
  pub gather-few : {c : Claim} {rest : List Claim} {rows n : ℕ} → Gathering g ps (c ∷ rest) rows n → rival g c ≡ true → n < length ps
  unfolding contention keep
  gather-few s q = let e = rw q at s.counts in omega (arith, e, contention-few g ps)

  -- Behind the last claim.
  pub gather-end : {i rows n : ℕ} → Gathering g ps (drop i ps) rows n → length ps ≤ i → RivalsOf ps g (record { rows = rows; count = n })
  unfolding taken any contention keep
  gather-end {i} {rows} w h =
      let z : drop i ps ≡ [] = drop_of_length-le ps h in
      let s = rw z at w in
      record { rows = λ j h. sym (or-false (has rows j)) ∙ s.all j h; count = omega (arith, s.counts) }

-- ── the first free row ──
-- A row is free,
pub free-some : (rows g : ℕ) → lowest_missing rows ≡ Some g → FreeRow rows (g + 1)
free-some rows g e =
    let r = missing-lowest rows g e in
    let q : g + 1 - 1 ≡ g = omega arith in
    record {
      low = omega arith;
      high = omega (arith, r.0);
      below = λ j h. r.2 j (omega arith);
      free = λ h. rw q r.1;
    }

-- or none of 64.
pub free-none : (rows : ℕ) → lowest_missing rows ≡ None → FreeRow rows 65
free-none rows e = record { low = omega arith; high = omega arith; below = λ j h. missing-none rows e j (omega arith); free = λ h. absurd (omega arith) }

-- Of the rows that are taken it is the row that a new claim joins.
module _ (g : ℕ) (ps : List Claim) (some : 1 ≤ length ps) (few : length ps < 64) (v : Rivals) (s : RivalsOf ps g v) (r : ℕ) (f : FreeRow v.rows r) where
  -- There is a claim.
  there-is : ps ≡ [] → ⊥
  there-is e = let z : length ps ≡ 0 = ap length e in omega arith

  -- Row suc j before r is taken.
  passed : (j : ℕ) → suc j < r → taken g ps (suc j) ≡ true
  passed j h = sym (s.rows j (omega (arith, f.high))) ∙ f.below j h

  -- The same of row j.
  first : (j : ℕ) → 1 ≤ j → j < r → taken g ps j ≡ true
  first j a b =
      let q : suc (j - 1) ≡ j = omega arith in
      rw q at (passed (j - 1) (omega arith))

  -- No more rows are taken than there are claims, so one of 64 is free.
  free-small : r ≤ 64
  free-small =
      by_order r 64 (λ l. l)
      (λ l.
      let k = row-joins g ps in
      clash (first (row_for g ps) (k.behind there-is) (omega (arith, row-bound g ps, contention-few g ps))) k.free)

  -- The row that is free with all before it taken is that of the rules.
  free-is : r ≡ row_for g ps
  free-is =
      let q : suc (r - 1) ≡ r = omega (arith, f.low) in
      row-unique g ps r
      (record {
        when_empty = λ e. absurd (there-is e);
        behind = λ h. f.low;
        free = rw q at (sym (s.rows (r - 1) (omega (arith, free-small, f.low))) ∙ f.free free-small);
        first = first;
      })

-- ── the row of a new claim ──
-- With nothing pending it is the head row;
pub row-none : (g : ℕ) (ps : List Claim) → ps ≡ [] → 0 ≡ row_for g ps
unfolding row_for
row-none g ps e = rw e

-- and else the first that is free.
pub row-some : (g : ℕ) (ps : List Claim) → (ps ≡ [] → ⊥) → length ps < 64 → (v : Rivals) → RivalsOf ps g v → (r : ℕ) → FreeRow v.rows r → r ≡ row_for g ps
row-some g [] n h v s r f = absurd (n refl)
row-some g (c ∷ ps) n h v s r f = free-is g (c ∷ ps) (omega arith) h v s r f
