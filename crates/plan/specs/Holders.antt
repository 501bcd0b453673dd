-- Who goes on, by the groups that are held, as one set, and the units that are free: what the code's passes tell each other. A set counts by
-- what it shares a group with, so that nothing is said of bits. Rests on `shares` of groups and on the phases of rules.
use Rattle.std.specs.Prelude.{Bool, not, ◌&&◌, ℕ, leb, eqb}
use Rattle.groups.specs.Groups.{shares}
use Rattle.rules.specs.declared.Claim.{Claim}
use Rattle.rules.specs.Claims.{on, at}

-- c waits, its start is the clock t, none of its groups is in h, and it draws no more than the units f.
abbrev pub goes_at : ℕ → ℕ → ℕ → Claim → Bool
goes_at t h f c = not (on c) && (eqb (at c) t && (not (shares h c.groups) && leb c.units f))
