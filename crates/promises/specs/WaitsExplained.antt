-- Whoever waits does so for a pending claim that has a group or the pool in common with it and ends just as it starts, overrun or not. Of a claim
-- that draws no units that one precedes it: "Every waiting claim that no pending claim precedes goes on at the call's clock." Of one that draws
-- units and waits at the clock `GrantsDue` says more. Beside demand 3, by the same ledger and lookup. proofs/WaitsExplained has the theorem.
use Rattle.std.specs.Prelude.{◌≡◌, Bool, true, ◌&&◌, ◌||◌, List, ℕ, ltb}
use Rattle.groups.specs.Groups.{shares}
use Rattle.rules.specs.declared.Standing.TheVariants.{Waits}
use Rattle.rules.specs.Lists.{◌∈◌}
use Rattle.rules.specs.Calls.{at_ticket, Call, step}
use Rattle.promises.specs.Ledger.{Steps, Entry, Ledger}
use Rattle.promises.specs.Runs.{Told, Start, AtAnyTime}
use Rattle.promises.specs.Plan.{end_told}

-- A group in common, or the pool from which both draw.
abbrev pub in_common : Entry → Entry → Bool
in_common e f = shares e.asked.groups f.asked.groups || (ltb 0 e.asked.units && ltb 0 f.asked.units)

-- Where f waits with the start s, a claim e ends then.
abbrev pub Explained : Ledger → Told → Type 0
Explained l told =
    (f : Entry) → f ∈ l.claims → (s : ℕ) → told (at_ticket f.ticket) ≡ Waits s → (e : Entry) × e ∈ l.claims × (in_common e f ≡ true) × (end_told l told e ≡ s)

abbrev pub WaitsExplainedOf : Steps → Start → List Call → Type 0
WaitsExplainedOf step s calls = AtAnyTime step s calls Explained

abbrev pub WaitsExplained : Start → List Call → Type 0
WaitsExplained s calls = WaitsExplainedOf step s calls
