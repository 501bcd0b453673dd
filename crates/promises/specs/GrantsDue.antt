-- Nobody is granted late, or after one of a higher ticket: "Grants are made by start, then ticket: a claim goes on when its start is the clock, no
-- claim precedes it and its units are truly free after the grants before it" (document 02, P3). So who still waits with the clock for its start
-- after an accepted timed call, and whom no claim precedes, wanted units. All that go on start at the clock, and the grants before it are those of
-- lower tickets. Of a claim that draws none it is document 01's "Every waiting claim that no pending claim precedes goes on at the call's clock",
-- for its start is then the clock. Beside demand 3, by the same ledger and lookup. proofs/GrantsDue has the theorem.
use Rattle.std.specs.Prelude.{◌≡◌, true, ◌&&◌, cond, List, ℕ, ◌+◌, ◌<◌, eqb, ltb}
use Rattle.rules.specs.declared.Standing.TheVariants.{Waits}
use Rattle.rules.specs.Lists.{◌∈◌, sum, any}
use Rattle.rules.specs.Calls.{at_ticket, Call, clock_of, step}
use Rattle.promises.specs.Ledger.{Turn, Steps, accepted, Entry, Ledger, noted}
use Rattle.promises.specs.Runs.{Told, Start, AtAnyCall}
use Rattle.promises.specs.Plan.{Precedes}

-- The units of e that f cannot have: those that e holds, but where this call granted them to e after the turn of f.
abbrev pub kept_from : List ℕ → Entry → Entry → ℕ
kept_from grants f e = cond (ltb f.ticket e.ticket && any (λ k. eqb k e.ticket) grants) 0 (cond e.held e.asked.units 0)

abbrev pub Due : Ledger → Turn → Told → Told → Type 0
Due l t before after =
    (let now = noted l t in
    accepted t ≡ true → (f : Entry) → f ∈ now.claims → after (at_ticket f.ticket) ≡ Waits (clock_of t.call) → ((j : ℕ) → Precedes after j f.ticket → ⊥)
    → now.pool < sum (kept_from t.answer.grants f) now.claims + f.asked.units)

abbrev pub GrantsDueOf : Steps → Start → List Call → Type 0
GrantsDueOf step s calls = AtAnyCall step s calls Due

abbrev pub GrantsDue : Start → List Call → Type 0
GrantsDue s calls = GrantsDueOf step s calls
