-- Placing a claim: "the least s, not below the clock, such that for each conflicting on claim s ≥ its end, and for each conflicting
-- waiting claim either s ≥ its end or s + length ≤ its planned start" (document 01), and "a start must leave, over the whole hold, units
-- enough beside all planned holds" (document 02, P3). With what the answer counts: contention and start bound, by groups alone.
use Rattle.std.specs.Prelude.{Bool, not, ◌&&◌, ◌||◌, List, ℕ, ◌+◌, ◌-◌, ◌*◌, leb, length}
use Rattle.rules.specs.declared.Claim.{Claim}
use Rattle.rules.specs.Lists.{sum, all}
use Rattle.rules.specs.declared.Setting.{Setting}
use Rattle.rules.specs.Claims.{on, at, rival, end_of, remaining}
use Rattle.rules.specs.Order.{rivals}
use Rattle.rules.specs.Pool.{spare}
use Rattle.rules.specs.Seeking.{seek}

-- The claim c leaves room for w at s.
unfoldable pub clear : Setting → Claim → ℕ → Claim → Bool
clear v w s c = not (rival c w) || (leb (end_of v c) s || (not (on c) && leb (s + w.length) (at c)))

unfoldable pub fits : Setting → List Claim → Claim → ℕ → Bool
fits v ps w s = all (clear v w s) ps && spare v ps w s

-- The planned start. (It is the least of all numbers that fit, not only of the candidates: proofs/Placing, `place-least`.)
unfoldable pub place : Setting → List Claim → Claim → ℕ
place v ps w = seek v (fits v ps w) ps

-- Contention of a claim (document 01: crowd): "the number of pending claims that conflict with it".
unfoldable pub contention : List Claim → Claim → ℕ
contention ps w = length (rivals ps w)

-- Start bound of a claim (document 01: ceiling): "clock + the sum, over those, of remaining time .. + crowd × (length − 1)".
unfoldable pub start_bound : Setting → List Claim → Claim → ℕ
start_bound v ps w = v.clock + sum (remaining v) (rivals ps w) + contention ps w * (w.length - 1)
