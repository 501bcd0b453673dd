-- Worked scenarios of request P2 as one table: tables, calls and their answers. proofs/AllScenarios has the theorem that covers it.
use Rattle.std.specs.Prelude.{List, [], ◌∷◌, ℕ, replicate}
use Rattle.frames.specs.Calls.{Call, claim, release, Answer, Model, new, after, answers}

-- A table, calls on it, and their answers.
pub record Scenario : Type 0 where
  pub table : Model
  pub calls : List Call
  pub answers : List Answer

abbrev pub scenario : Model → List Call → List Answer → Scenario
scenario m c a = record { table = m; calls = c; answers = a }

-- An accepted call: ticket, row, contention, grants.
abbrev pub ok : ℕ → ℕ → ℕ → List ℕ → Answer
ok k r n gs = record { number = 0; ticket = k; row = r; contention = n; grants = gs }

abbrev pub refused : ℕ → Answer
refused n = record { number = n; ticket = 0; row = 0; contention = 0; grants = [] }

-- A table of rig F hex, and one after calls on it.
abbrev pub rig_f : Model
rig_f = (new 0xF).model

abbrev pub behind : List Call → Model
behind cs = after rig_f cs

-- Three rows: ticket 1 in the head row, tickets 2, 3 and 5 in row 1, ticket 4 in row 2.
abbrev pub three : List Call
three = claim 0x1 ∷ claim 0x1 ∷ claim 0x2 ∷ claim 0x3 ∷ claim 0x4 ∷ []

-- All 64 places taken, and all tickets issued: either, and both.
abbrev pub full_table : ℕ → Model
full_table n = record { rig = 0xF; issued = n; pending = replicate 64 (record { groups = 0x1; ticket = 1; row = 0 }) }

abbrev pub spent : Model
spent = record { rig = 0xF; issued = 65535; pending = [] }

unfoldable pub scenarios : List Scenario
scenarios =
    -- the first claim alone is on, in row 0
    scenario rig_f (claim 0x1 ∷ []) (ok 1 0 0 (1 ∷ []) ∷ [])
    -- a second with other groups goes to row 1, not to the head row, where it would fit
    ∷ scenario (behind (claim 0x1 ∷ [])) (claim 0x2 ∷ []) (ok 2 1 0 [] ∷ [])
    -- three rows; ticket 4 shares groups with tickets 1, 2 and 3
    ∷ scenario rig_f three (ok 1 0 0 (1 ∷ []) ∷ ok 2 1 1 [] ∷ ok 3 1 0 [] ∷ ok 4 2 3 [] ∷ ok 5 1 0 [] ∷ [])
    -- a release that empties the head row: all of the next row goes on, in ascending order of ticket
    ∷ scenario (behind three) (release 1 ∷ []) (ok 1 0 0 (2 ∷ 3 ∷ 5 ∷ []) ∷ [])
    -- releases that do not, and then one that does
    ∷ scenario (behind three) (release 1 ∷ release 3 ∷ release 2 ∷ release 5 ∷ []) (ok 1 0 0 (2 ∷ 3 ∷ 5 ∷ []) ∷ ok 3 0 0 [] ∷ ok 2 0 0 [] ∷ ok 5 0 0 (4 ∷ []) ∷ [])
    -- contention 2 with row 1: both claims that share a group are in the head row
    ∷ scenario (behind (claim 0x8 ∷ claim 0x1 ∷ claim 0x2 ∷ release 1 ∷ [])) (claim 0x3 ∷ []) (ok 4 1 2 [] ∷ [])
    -- one in the head row, two behind it
    ∷ scenario (behind (claim 0x1 ∷ claim 0x2 ∷ claim 0x2 ∷ [])) (claim 0x3 ∷ []) (ok 4 3 3 [] ∷ [])
    -- a claim that shares nothing with the head row stays behind it; a new one joins its row
    ∷ scenario (behind (claim 0x1 ∷ claim 0x2 ∷ [])) (claim 0x4 ∷ release 1 ∷ claim 0x8 ∷ []) (ok 3 1 0 [] ∷ ok 1 0 0 (2 ∷ 3 ∷ []) ∷ ok 4 1 0 [] ∷ [])
    -- the first row that is free, not the last: there is a row 2, and row 1 has room
    ∷ scenario (behind (claim 0x1 ∷ claim 0x1 ∷ claim 0x1 ∷ [])) (claim 0x2 ∷ []) (ok 4 1 0 [] ∷ [])
    -- the last claim leaves: nothing is pending, and the next goes on at once
    ∷ scenario (behind (claim 0x1 ∷ [])) (release 1 ∷ claim 0x1 ∷ []) (ok 1 0 0 [] ∷ ok 2 0 0 (2 ∷ []) ∷ [])
    -- a claim is tested 1, 2, 6, 7: each before the next, and each alone
    ∷ scenario (full_table 65535) (claim 0x0 ∷ claim 0x10 ∷ claim 0x1 ∷ []) (refused 1 ∷ refused 2 ∷ refused 6 ∷ [])
    ∷ scenario (full_table 64) (claim 0x1F ∷ claim 0x1 ∷ []) (refused 2 ∷ refused 6 ∷ [])
    ∷ scenario spent (claim 0x0 ∷ claim 0x10 ∷ claim 0x1 ∷ []) (refused 1 ∷ refused 2 ∷ refused 7 ∷ [])
    ∷ scenario rig_f (claim 0x0 ∷ claim 0x10 ∷ claim 0x1 ∷ []) (refused 1 ∷ refused 2 ∷ ok 1 0 0 (1 ∷ []) ∷ [])
    -- a release 8, 9: never issued, 0, waiting, gone
    ∷ scenario (behind three) (release 6 ∷ release 0 ∷ release 4 ∷ release 1 ∷ release 1 ∷ release 4 ∷ []) (refused 8 ∷ refused 8 ∷ refused 9 ∷ ok 1 0 0 (2 ∷ 3 ∷ 5 ∷ []) ∷ refused 8 ∷ refused 9 ∷ [])
    -- the table that a dark rig gives
    ∷ scenario (new 0x0).model (claim 0x0 ∷ claim 0x1 ∷ release 1 ∷ []) (refused 1 ∷ refused 2 ∷ refused 8 ∷ [])
    ∷ []

-- What the rules give.
unfoldable pub outcome : Scenario → List Answer
outcome x = answers x.table x.calls
