-- The pool of followspots: how many units are planned in use at a time, whether a hold leaves units enough, and how many are held.
-- Quotations are from document 02, P3.
use Rattle.std.specs.Prelude.{Bool, not, ◌&&◌, ◌||◌, cond, List, ℕ, ◌+◌, ◌-◌, ltb, leb, eqb}
use Rattle.rules.specs.declared.Claim.{Claim}
use Rattle.rules.specs.Lists.{sum, all}
use Rattle.rules.specs.declared.Setting.{Setting}
use Rattle.rules.specs.Claims.{on, at, end_of}

-- ── planned use ──
-- The planned hold of c covers the time x, which is not below the clock: from its grant or planned start up to its end. (So an overrun
-- holder is planned in use for the grace, and where that is 0, and its end the clock, not at all.)
unfoldable pub covers : Setting → ℕ → Claim → Bool
covers v x c = (on c || leb (at c) x) && ltb x (end_of v c)

-- The units that c is planned to use at x, and that all of the claims are.
unfoldable pub units_at : Setting → ℕ → Claim → ℕ
units_at v x c = cond (covers v x c) c.units 0

unfoldable pub used : Setting → ℕ → List Claim → ℕ
used v x qs = sum (units_at v x) qs

-- At x the pool has the units of w beside the claims qs.
unfoldable pub enough : Setting → List Claim → Claim → ℕ → Bool
enough v qs w x = leb (used v x qs + w.units) v.pool

-- The planned start of c is within the hold of w from s.
abbrev pub starts_within : Claim → ℕ → Claim → Bool
starts_within w s c = not (on c) && (leb s (at c) && ltb (at c) (s + w.length))

-- The hold of w from s leaves, "over the whole hold, units enough beside all planned holds" of qs. Use rises only at planned starts, so
-- it is tested at s and at those; that it then holds at every time of the hold is proved (proofs/Pool: `spare-e`, `spare-i`).
-- A claim that draws no units skips the test.
unfoldable pub spare : Setting → List Claim → Claim → ℕ → Bool
spare v qs w s = eqb w.units 0 || (enough v qs w s && all (λ c. not (starts_within w s c) || enough v qs w (at c)) qs)

-- ── units held ──
-- The units that c holds: an on claim has its own until it is released, overrun or not.
abbrev pub held_by : Claim → ℕ
held_by c = cond (on c) c.units 0

unfoldable pub held_units : List Claim → ℕ
held_units ps = sum held_by ps

-- "A look gives the units free"
unfoldable pub free_units : ℕ → List Claim → ℕ
free_units pool ps = pool - held_units ps
