-- The plan as ledger and lookups tell it: when a pending claim ends, which precedes which, and the units that are planned in use. Nothing here
-- looks into a table.
use Rattle.std.specs.Prelude.{◌≡◌, ◌⊎◌, Bool, true, false, ◌&&◌, ◌||◌, cond, List, ℕ, ◌+◌, ◌≤◌, ◌<◌, leb, ltb, eqb}
use Rattle.rules.specs.declared.Request.{Request}
use Rattle.rules.specs.declared.Common.TheVariants.{Shared}
use Rattle.rules.specs.declared.Standing.{Standing}
use Rattle.rules.specs.declared.Standing.TheVariants.{NotPending, Waits, Holds}
use Rattle.rules.specs.Lists.{sum, keep}
use Rattle.rules.specs.Claims.{held_until}
use Rattle.rules.specs.Calls.{at_ticket, at_two}
use Rattle.promises.specs.Ledger.{Entry, Ledger, ruled_by}
use Rattle.promises.specs.Runs.{Told}

-- "The end of a waiting claim is planned start + length." "The end of an on claim is its promised end while the clock isn't past it, and after
-- that clock + grace" (document 02, P6): the clock is the table's, the grace that of the last accepted call that set one.
abbrev pub end_as : Ledger → Entry → Standing → ℕ
end_as l e NotPending = 0
end_as l e (Waits s) = s + e.asked.length
end_as l e (Holds p) = held_until (ruled_by l l.clock) p

abbrev pub end_told : Ledger → Told → Entry → ℕ
end_told l told e = end_as l e (told (at_ticket e.ticket))

-- "An on claim precedes every waiting claim it conflicts with. Of two conflicting waiting claims the one with the smaller planned start
-- precedes." Of the claims of two tickets, by lookups alone: the second waits with this start.
pub record Precedes (told : Told) (j k : ℕ) : Type 0 where
  pub group : ℕ
  pub start : ℕ
  pub conflict : told (at_two j k) ≡ Shared group
  pub waits : told (at_ticket k) ≡ Waits start
  pub sooner : ((p : ℕ) × (told (at_ticket j) ≡ Holds p)) ⊎ ((r : ℕ) × (told (at_ticket j) ≡ Waits r) × (r < start))

-- ── the pool ──
-- A holder is planned in use up to its end, a waiting claim from its planned start on; x is not below the clock.
abbrev pub begins_as : Standing → ℕ
begins_as NotPending = 0
begins_as (Waits s) = s
begins_as (Holds p) = 0

abbrev pub covers_told : Ledger → Told → ℕ → Entry → Bool
covers_told l told x e = leb (begins_as (told (at_ticket e.ticket))) x && ltb x (end_told l told e)

-- The units that these claims are planned to use at x.
abbrev pub planned_use : Ledger → Told → ℕ → List Entry → ℕ
planned_use l told x es = sum (λ e. cond (covers_told l told x e) e.asked.units 0) es

-- "A start must leave, over the whole hold, units enough beside" the holds of these claims (document 02, P3): a hold of what is asked for, from x
-- on. Nothing is asked where no units are drawn.
abbrev pub SpareTold : Ledger → Told → List Entry → Request → ℕ → Type 0
SpareTold l told es ask x = 0 < ask.units → (y : ℕ) → x ≤ y → y < x + ask.length → planned_use l told y es + ask.units ≤ l.pool

-- ── the order of packing ──
-- "Packing takes waiting claims by start, then ticket", behind those that are on: a claim of ticket j that stands so comes before one of ticket k
-- that waits with the start s.
abbrev pub ahead_as : Standing → ℕ → ℕ → ℕ → Bool
ahead_as NotPending j s k = false
ahead_as (Waits r) j s k = ltb r s || (eqb r s && ltb j k)
ahead_as (Holds p) j s k = true

abbrev pub ahead_told : Told → ℕ → ℕ → List Entry → List Entry
ahead_told told s k es = keep (λ e. ahead_as (told (at_ticket e.ticket)) e.ticket s k) es
