-- A claim, its phase and its end. Quotations are from document 01.
use Rattle.std.specs.Prelude.{Bool, true, false, cond, ℕ, ◌+◌, ◌-◌, leb, Option}
use Rattle.groups.specs.Groups.{common, shares}
use Rattle.rules.specs.declared.Claim.{Claim}
use Rattle.rules.specs.declared.Phase.{Phase}
use Rattle.rules.specs.declared.Setting.{Setting}
use Rattle.rules.specs.declared.Phase.TheVariants.{Waiting, On}

abbrev pub is_on : Phase → Bool
is_on (Waiting s) = false
is_on (On g) = true

abbrev pub mark : Phase → ℕ
mark (Waiting s) = s
mark (On g) = g

-- "either waiting .. or on"
abbrev pub on : Claim → Bool
on c = is_on c.phase

-- The planned start of a waiting claim; the grant of an on claim.
abbrev pub at : Claim → ℕ
at c = mark c.phase

abbrev pub with_phase : Claim → Phase → Claim
with_phase c p = record { groups = c.groups; phase = p; length = c.length; ticket = c.ticket; units = c.units; client = c.client }

-- "The test of two claims for a common group .. answers the lowest common group number, or none" (document 02, P1).
abbrev pub conflicts : Claim → Claim → Option ℕ
conflicts c d = common c.groups d.groups

-- "Two claims conflict if they share a group": yes or no of that.
abbrev pub rival : Claim → Claim → Bool
rival c d = shares c.groups d.groups

-- The end of an on claim with promised end p: "The end of an on claim is its promised end while the clock isn't past it, and after that
-- clock + grace" (document 02, P6). With a grace of 0 it is document 01's, the greater of promised end and clock (`held-documented`).
unfoldable pub held_until : Setting → ℕ → ℕ
held_until v p = cond (leb v.clock p) p (v.clock + v.grace)

-- "The end of a waiting claim is planned start + length. The promised end of an on claim is grant + length".
unfoldable pub end_of : Setting → Claim → ℕ
end_of v c = cond (on c) (held_until v (at c + c.length)) (at c + c.length)

-- Remaining time: "end − clock if on, length if waiting".
unfoldable pub remaining : Setting → Claim → ℕ
remaining v c = cond (on c) (end_of v c - v.clock) c.length
