-- "Each number only on its condition": in every list of calls the number of every answer is that of the first of the call's tests that fails,
-- each asked of what the calls so far and their answers tell; 0 where none does. Beside demand 3, by the same ledger. proofs/NumbersTested
-- has the theorem.
use Rattle.std.specs.Prelude.{◌≡◌, Bool, ◌&&◌, List, [], ◌∷◌, ℕ, length}
use Rattle.rules.specs.Lists.{any}
use Rattle.rules.specs.Shares.{share_of, pending_of, unfilled_by_others}
use Rattle.rules.specs.Tests.{Test, first_number, late, backward, dark, stranger, nothing_asked, off_rig, spots, bad_length, full_for, over, ticketless, unknown, not_yet_on, already_on}
use Rattle.rules.specs.Calls.{Action, claims, releases, withdraws, moves_clock, Call, timed, looks, sets_up, Step, look_tests, setup_tests, step, new}
use Rattle.promises.specs.Ledger.{Turn, Steps, has_ticket, Ledger}
use Rattle.promises.specs.Runs.{Told, Start, AtAnyCall}
use Rattle.promises.specs.SharesKept.{askers}

-- The tests of the rules (`action_tests`), of the ledger in place of a table.
abbrev pub action_tests_by : Ledger → Action → List Test
action_tests_by l (claims ask) =
    let ks = askers l.claims in
    let s = share_of l.shares ask.client in
    stranger s ∷ nothing_asked ask.groups ask.units ∷ off_rig l.rig ask.groups ∷ spots l.pool ask.units ∷ bad_length ask.length
    ∷ full_for s (pending_of ks ask.client) (length l.claims) (unfilled_by_others l.shares ks ask.client)
    ∷ over s (pending_of ks ask.client) ∷ ticketless l.issued ∷ []
action_tests_by l (releases k) = unknown (has_ticket k) l.claims ∷ not_yet_on (has_ticket k) (λ e. e.held) l.claims ∷ []
action_tests_by l (withdraws k) = unknown (has_ticket k) l.claims ∷ already_on (has_ticket k) (λ e. e.held) l.claims ∷ []
action_tests_by l moves_clock = []

unfoldable pub tests_by : Ledger → Call → List Test
tests_by l (timed t x) = late t ∷ backward l.clock t ∷ action_tests_by l x
tests_by l (looks q) = look_tests (λ k. any (has_ticket k) l.claims) (λ k. any (λ e. has_ticket k e && e.held) l.claims) q
tests_by l (sets_up p) = setup_tests l.issued l.shares p

abbrev pub NumberTested : Ledger → Turn → Told → Told → Type 0
NumberTested l t before after = t.answer.number ≡ first_number (tests_by l t.call)

abbrev pub NumbersTestedOf : Steps → Start → List Call → Type 0
NumbersTestedOf step s calls = AtAnyCall step s calls NumberTested

abbrev pub NumbersTested : Start → List Call → Type 0
NumbersTested s calls = NumbersTestedOf step s calls

-- "dark: no group .. in a new rig": a call for a new table is refused on this condition alone.
abbrev pub NewTestedOf : (ℕ → ℕ → Bool → Step) → Type 0
NewTestedOf new = (rig pool : ℕ) (alone : Bool) → (new rig pool alone).answer.number ≡ first_number (dark rig ∷ [])

abbrev pub NewTested : Type 0
NewTested = NewTestedOf new
