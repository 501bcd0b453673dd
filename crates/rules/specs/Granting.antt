-- Granting: "Grants are made by start, then ticket: a claim goes on when its start is the clock, no claim precedes it and its units are
-- truly free after the grants before it" (document 02, P3). In a packed table a claim that draws no units goes on just where document 01
-- says: "Every waiting claim that no pending claim precedes goes on at the call's clock" (proofs/Granting: `goes-documented`). "The answer
-- names those tickets in ascending order." The pending claims stand in ascending order of ticket.
use Rattle.std.specs.Prelude.{Bool, true, false, not, ◌&&◌, ◌||◌, cond, List, map, ℕ, zero, suc, ◌+◌, leb, eqb}
use Rattle.rules.specs.declared.Claim.{Claim}
use Rattle.rules.specs.declared.Phase.TheVariants.{On}
use Rattle.rules.specs.Lists.{any, keep, sum}
use Rattle.rules.specs.declared.Setting.{Setting}
use Rattle.rules.specs.Claims.{on, at, with_phase}
use Rattle.rules.specs.Order.{key, before, precedes}
use Rattle.rules.specs.Pool.{held_units}

-- The units of c, where c is before w and goes on. p tells who goes on.
unfoldable pub taken_before : (Claim → Bool) → Claim → Claim → ℕ
taken_before p w c = elim (before c w) [ true ↦ cond (p c) c.units 0 | false ↦ 0 ]

-- The units of w are truly free: beside those of the holders and those of the grants before it.
unfoldable pub truly_free : Setting → List Claim → (Claim → Bool) → Claim → Bool
truly_free v ps p w = eqb w.units 0 || leb (held_units ps + sum (taken_before p w) ps + w.units) v.pool

-- w goes on. The first number bounds how many claims can stand before one another; one more than w's key is enough.
unfoldable pub goes_within : ℕ → Setting → List Claim → Claim → Bool
goes_within zero v ps w = false
goes_within (suc k) v ps w =
    (not (on w) && eqb (at w) v.clock) && (not (any (λ d. precedes d w) ps) && truly_free v ps (λ c. goes_within k v ps c) w)

unfoldable pub goes : Setting → List Claim → Claim → Bool
goes v ps w = goes_within (suc (key w)) v ps w

unfoldable pub granted : Setting → List Claim → Claim → Claim
granted v ps c = elim (goes v ps c) [ true ↦ with_phase c (On v.clock) | false ↦ c ]

unfoldable pub grant : Setting → List Claim → List Claim
grant v ps = map (granted v ps) ps

-- The tickets of those that go on.
unfoldable pub grants : Setting → List Claim → List ℕ
grants v ps = map (λ c. c.ticket) (keep (goes v ps) ps)
