-- Order: which claims come before a waiting claim.
use Rattle.std.specs.Prelude.{Bool, ◌&&◌, ◌||◌, List, ℕ, ◌+◌, ◌*◌, ltb}
use Rattle.rules.specs.declared.Claim.{Claim}
use Rattle.rules.specs.Lists.{keep}
use Rattle.rules.specs.Claims.{on, at, rival}

-- Of a waiting claim w: "An on claim precedes every waiting claim it conflicts with. Of two conflicting waiting claims the one with the
-- smaller planned start precedes."
unfoldable pub precedes : Claim → Claim → Bool
precedes c w = rival c w && (on c || ltb (at c) (at w))

-- Start, then ticket, as one number: tickets are below 65,536.
abbrev pub key : Claim → ℕ
key c = at c * 65536 + c.ticket

-- The order in which claims are packed: those on, then those waiting by start, then ticket.
unfoldable pub before : Claim → Claim → Bool
before c w = on c || ltb (key c) (key w)

-- c and w have something in common: a group, or the pool from which both draw.
abbrev pub meets : Claim → Claim → Bool
meets c w = rival c w || (ltb 0 c.units && ltb 0 w.units)

-- Those of the claims that conflict with w.
abbrev pub rivals : List Claim → Claim → List Claim
rivals ps w = keep (λ c. rival c w) ps
