-- Claims in rows, and the row that a new claim joins. Quotations are from request P2. "The head is 0, each row behind it one more."
use Rattle.std.specs.Prelude.{◌≡◌, Bool, true, false, not, ◌&&◌, cond, List, [], ◌∷◌, map, ℕ, zero, suc, ◌-◌, ◌≤◌, ◌<◌, eqb, length}
use Rattle.groups.specs.Groups.{shares}
use Rattle.rules.specs.Lists.{any, keep}
use Rattle.frames.specs.declared.Claim.{Claim}

-- "the head row is on"
abbrev pub on : Claim → Bool
on c = eqb c.row 0

abbrev pub named : ℕ → Claim → Bool
named k c = eqb c.ticket k

-- A claim shares a group with the set g.
abbrev pub rival : ℕ → Claim → Bool
rival g c = shares c.groups g

-- Contention of a claim of the groups g (the request's crowd): how many pending claims share a group with it.
unfoldable pub contention : ℕ → List Claim → ℕ
contention g ps = length (keep (rival g) ps)

-- In row r a claim shares a group with g.
unfoldable pub taken : ℕ → List Claim → ℕ → Bool
taken g ps r = any (λ c. rival g c && eqb c.row r) ps

-- The first row from r on that is not taken. The first number bounds how many rows are passed over.
unfoldable pub row_from : ℕ → ℕ → List Claim → ℕ → ℕ
row_from zero g ps r = r
row_from (suc k) g ps r = elim (taken g ps r) [ true ↦ row_from k g ps (suc r) | false ↦ r ]

-- "With nothing pending a claim joins the head row .. Otherwise it joins the first row after the head in which no claim shares a group
-- with it." Each row that is passed over has a claim that shares a group, so that no more rows are passed over than such claims.
unfoldable pub row_for : ℕ → List Claim → ℕ
row_for g [] = 0
row_for g (c ∷ ps) = row_from (contention g (c ∷ ps)) g (c ∷ ps) 1

-- The sentence above, of row r. proofs/Rows: `row-joins`, it holds of `row_for`; `row-unique`, of no other row; `row-bound`, that row is at
-- most 1 + the contention.
pub record Joins (g : ℕ) (ps : List Claim) (r : ℕ) : Type 0 where
  pub when_empty : ps ≡ [] → r ≡ 0
  pub behind : (ps ≡ [] → ⊥) → 1 ≤ r
  pub free : taken g ps r ≡ false
  pub first : (j : ℕ) → 1 ≤ j → j < r → taken g ps j ≡ true

-- ── head changes ──
-- "When the head row has emptied"
abbrev pub emptied : List Claim → Bool
emptied ps = not (any on ps)

-- "the next row becomes the head": every row is one nearer to it
abbrev pub nearer : Claim → Claim
nearer c = record { groups = c.groups; ticket = c.ticket; row = c.row - 1 }

unfoldable pub turned : List Claim → List Claim
turned ps = cond (emptied ps) (map nearer ps) ps

-- "and all of it goes on": the tickets of the new head row, in ascending order as the claims are.
unfoldable pub head_tickets : List Claim → List ℕ
head_tickets ps = map (λ c. c.ticket) (keep on ps)

unfoldable pub turned_on : List Claim → List ℕ
turned_on ps = cond (emptied ps) (head_tickets (map nearer ps)) []
