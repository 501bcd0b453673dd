-- Of two cues that are pending and share a group the one that precedes goes on before the other, or leaves, whoever overruns: what precedes a
-- waiting claim goes on preceding it, and that claim waits on, for as long as both are pending. (A new claim may come before one that waits only
-- where it fits and pushes nobody back: `LeastStart`. Claims that have only the pool in common may overtake each other.) Beside demand 3, of the
-- same lists of calls, by lookups alone. proofs/NeverOvertaken has the theorem.
use Rattle.std.specs.Prelude.{◌≢◌, List, ℕ}
use Rattle.rules.specs.declared.Standing.TheVariants.{NotPending}
use Rattle.rules.specs.Calls.{at_ticket, Call, step}
use Rattle.promises.specs.Ledger.{Steps}
use Rattle.promises.specs.Runs.{Told, Start, AtAnyLater}
use Rattle.promises.specs.Plan.{Precedes}

-- Of the claims of two tickets, by what lookups tell at a time and later.
abbrev pub NotOvertaken : Told → Told → Type 0
NotOvertaken told later = (j k : ℕ) → Precedes told j k → later (at_ticket j) ≢ NotPending → later (at_ticket k) ≢ NotPending → Precedes later j k

abbrev pub NeverOvertakenOf : Steps → Start → List Call → Type 0
NeverOvertakenOf step s calls = AtAnyLater step s calls NotOvertaken

abbrev pub NeverOvertaken : Start → List Call → Type 0
NeverOvertaken s calls = NeverOvertakenOf step s calls
