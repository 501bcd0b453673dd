-- No start is before the end of a claim that precedes, held or waiting, and at no time is more of the pool planned in use than there is, whoever
-- overruns. So a cue that stays dark behind one that runs over on a group of its own is planned at least a grace later than the clock, and not
-- for "now" (document 02, P6). With `WaitsExplained` (each start is such an end, or one in the pool) that is document 01's "Each waiting
-- claim's planned start becomes the greatest of the clock and the ends of the claims that precede it", for claims that draw no units. Beside
-- demand 3, by the same ledger and lookup. proofs/PlansApart has the theorem.
use Rattle.std.specs.Prelude.{List, ℕ, ◌≤◌}
use Rattle.rules.specs.Lists.{◌∈◌}
use Rattle.rules.specs.Calls.{Call, step}
use Rattle.promises.specs.Ledger.{Steps, Entry, Ledger}
use Rattle.promises.specs.Runs.{Told, Start, AtAnyTime}
use Rattle.promises.specs.Plan.{end_told, Precedes, planned_use}

pub record Apart (l : Ledger) (told : Told) : Type 0 where
  pub ends_awaited : (e : Entry) → e ∈ l.claims → (k : ℕ) → (p : Precedes told e.ticket k) → end_told l told e ≤ p.start
  -- "A start must leave, over the whole hold, units enough beside all planned holds" (document 02, P3).
  pub units_enough : (x : ℕ) → l.clock ≤ x → planned_use l told x l.claims ≤ l.pool

abbrev pub PlansApartOf : Steps → Start → List Call → Type 0
PlansApartOf step s calls = AtAnyTime step s calls Apart

abbrev pub PlansApart : Start → List Call → Type 0
PlansApart s calls = PlansApartOf step s calls
