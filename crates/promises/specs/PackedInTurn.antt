-- "Packing takes waiting claims by start, then ticket" (document 02, P3): by the starts that lookups told before the call. After an accepted timed
-- call each claim that waited has the least start, not below the clock, behind those that stood before it then; who went on has the clock for it.
-- (Of a release or a withdrawal while somebody overruns it is not said: there the turn is that of the first packing, of which nobody is told;
-- `WholeCalls` has it.) Beside demand 3, by the same ledger and lookup. proofs/PackedInTurn has the theorem.
use Rattle.std.specs.Prelude.{◌≡◌, ◌⊎◌, Bool, true, false, List, ℕ}
use Rattle.rules.specs.declared.Standing.{Standing}
use Rattle.rules.specs.declared.Standing.TheVariants.{NotPending, Waits, Holds}
use Rattle.rules.specs.Lists.{◌∈◌}
use Rattle.rules.specs.Calls.{claims, releases, withdraws, moves_clock, at_ticket, Call, timed, looks, sets_up, clock_of, step}
use Rattle.promises.specs.Ledger.{Turn, Steps, accepted, Entry, stay, Ledger, noted, NoOverrun}
use Rattle.promises.specs.Runs.{Told, Start, AtAnyCall}
use Rattle.promises.specs.Plan.{ahead_told}
use Rattle.promises.specs.StartsPacked.{PackedBehind}

-- A claim leaves by the call.
abbrev pub is_leave : Call → Bool
is_leave (timed t (claims ask)) = false
is_leave (timed t (releases k)) = true
is_leave (timed t (withdraws k)) = true
is_leave (timed t moves_clock) = false
is_leave (looks q) = false
is_leave (sets_up p) = false

-- The start that a claim has after a call at clock t: the planned one, or the clock where it went on.
abbrev pub start_after : ℕ → Standing → ℕ
start_after t NotPending = 0
start_after t (Waits s) = s
start_after t (Holds p) = t

abbrev pub InTurn : Ledger → Turn → Told → Told → Type 0
InTurn l t before after =
    (let es = stay t.call l.claims in
    accepted t ≡ true → (is_leave t.call ≡ false) ⊎ NoOverrun l t → (f : Entry) → f ∈ es → (s : ℕ) → before (at_ticket f.ticket) ≡ Waits s
    → PackedBehind (noted l t) after (ahead_told before s f.ticket es) f (start_after (clock_of t.call) (after (at_ticket f.ticket))))

abbrev pub PackedInTurnOf : Steps → Start → List Call → Type 0
PackedInTurnOf step s calls = AtAnyCall step s calls InTurn

abbrev pub PackedInTurn : Start → List Call → Type 0
PackedInTurn s calls = PackedInTurnOf step s calls
