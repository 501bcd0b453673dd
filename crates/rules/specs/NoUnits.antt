-- Claims that draw no units: what document 01 says of them, and what a run is in which nobody draws any. That they fare as in document
-- 01 whatever the pool is proved in proofs/NoUnits. Quotations are from document 01.
use Rattle.std.specs.Prelude.{◌≡◌, Bool, List, [], ◌∷◌, ℕ}
use Rattle.rules.specs.declared.Claim.{Claim}
use Rattle.rules.specs.declared.Request.{Request}
use Rattle.rules.specs.declared.Setting.{Setting}
use Rattle.rules.specs.Lists.{greatest, all, keep}
use Rattle.rules.specs.Claims.{end_of}
use Rattle.rules.specs.Order.{precedes}
use Rattle.rules.specs.Packing.{moved}
use Rattle.rules.specs.Placing.{clear}
use Rattle.rules.specs.Shares.{share_of}
use Rattle.rules.specs.Tests.{Test, late, backward, stranger, dark, off_rig, bad_length, ticketless}
use Rattle.rules.specs.Calls.{Model, claims, releases, withdraws, moves_clock, Call, timed, looks, sets_up, full_to, over_of}

-- ── a claim ──
-- "Each waiting claim's planned start becomes the greatest of the clock and the ends of the claims that precede it": of the starts f.
abbrev pub documented_start : Setting → List Claim → (Claim → ℕ) → Claim → ℕ
documented_start v ps f w = greatest (λ c. end_of v (moved f c)) v.clock (keep (λ c. precedes c w) ps)

-- "for each conflicting on claim s ≥ its end, and for each conflicting waiting claim either s ≥ its end or s + length ≤ its planned start"
abbrev pub documented_fits : Setting → List Claim → Claim → ℕ → Bool
documented_fits v ps w s = all (clear v w s) ps

-- Its tests without "1 is now for a claim with neither group nor unit" (document 02, P3) and without 16.
abbrev pub undrawn_tests : Model → ℕ → Request → List Test
undrawn_tests m t ask =
    late t ∷ backward m.clock t ∷ stranger (share_of m.shares ask.client) ∷ dark ask.groups ∷ off_rig m.rig ask.groups
    ∷ bad_length ask.length ∷ full_to m ask.client ∷ over_of m ask.client ∷ ticketless m.issued ∷ []

-- ── a run ──
-- The call draws no units.
abbrev pub CallDrawsNone : Call → Type 0
CallDrawsNone (timed t (claims ask)) = ask.units ≡ 0
CallDrawsNone (timed t (releases k)) = Unit {0}
CallDrawsNone (timed t (withdraws k)) = Unit {0}
CallDrawsNone (timed t moves_clock) = Unit {0}
CallDrawsNone (looks q) = Unit {0}
CallDrawsNone (sets_up p) = Unit {0}

-- No call of the list does.
abbrev pub DrawsNone : List Call → Type 0
DrawsNone [] = Unit {0}
DrawsNone (c ∷ cs) = CallDrawsNone c × DrawsNone cs

-- The same table with a pool of k.
abbrev pub with_pool : ℕ → Model → Model
with_pool k m = record { rig = m.rig; clock = m.clock; pool = k; issued = m.issued; grace = m.grace; shares = m.shares; pending = m.pending }
