-- The starred plots of document 01 ("Plots to try") as one table, and two cases more: what the first packing of a call is for, and the
-- order of grants; then plots of claims that draw on a pool, with the units free, and of holders that overrun under a grace; what lookup tells
-- of two tickets; blocking chains; and clients with shares.
-- proofs/AllScenarios has the theorem that covers the table.
use Rattle.std.specs.Prelude.{Bool, true, false, cond, List, [], ◌∷◌, ◌++◌, map, reverse, ℕ, zero, suc, ◌+◌, ◌-◌, ◌*◌, eqb, replicate}
use Rattle.rules.specs.declared.Claim.{Claim}
use Rattle.rules.specs.declared.Common.{Common}
use Rattle.rules.specs.declared.Common.TheVariants.{Unknown, Shared, Apart}
use Rattle.rules.specs.declared.Phase.TheVariants.{Waiting, On}
use Rattle.rules.specs.declared.Standing.{Standing}
use Rattle.rules.specs.declared.Standing.TheVariants.{NotPending, Waits, Holds}
use Rattle.rules.specs.Tests.{first_number}
use Rattle.rules.specs.Calls.{Model, setting_of, with_issued, with_pending, asking, claims, Call, timed, release, withdraw, clock, declare, set_grace, Answer, tests, new, standing_of, common_of, free_of, after, answers}
use Rattle.rules.specs.Chains.{chain, ChainValues, chain_refused, chain_of}

-- Calls made before, calls made now, their answers, and what lookup then tells of tickets 1 to 4.
pub record Scenario : Type 0 where
  pub before : List Call
  pub calls : List Call
  pub answers : List Answer
  pub standings : List Standing

abbrev pub scenario : List Call → List Call → List Answer → List Standing → Scenario
scenario b c a s = record { before = b; calls = c; answers = a; standings = s }

-- An accepted call: ticket, start, contention, start bound, grants.
abbrev pub ok : ℕ → ℕ → ℕ → ℕ → List ℕ → Answer
ok k s n b g = record { number = 0; ticket = k; start = s; contention = n; bound = b; grants = g }

abbrev pub refused : ℕ → Answer
refused n = record { number = n; ticket = 0; start = 0; contention = 0; bound = 0; grants = [] }

-- A claim at a clock, of groups (hex) and a length.
abbrev pub claim : ℕ → ℕ → ℕ → Call
claim t g n = timed t (claims (asking g n))

-- "S is three claims at clock 0"
abbrev pub S : List Call
S = claim 0 0x8 10 ∷ claim 0 0xC 10 ∷ claim 0 0x6 11 ∷ []

-- "Rig F hex, clock 0."
abbrev pub rig_f : Model
rig_f = (new 0xF 0 true).model

unfoldable pub scenarios : List Scenario
scenarios =
    -- 1, 2, 3: S
    scenario [] S
    (ok 1 0 0 0 (1 ∷ []) ∷ ok 2 10 1 19 [] ∷ ok 3 20 1 20 [] ∷ [])
    (Holds 10 ∷ Waits 10 ∷ Waits 20 ∷ NotPending ∷ [])
    -- 4: in place of 3, a claim that fits the gap
    ∷ scenario [] (claim 0 0x8 10 ∷ claim 0 0xC 10 ∷ claim 0 0x6 10 ∷ [])
    (ok 1 0 0 0 (1 ∷ []) ∷ ok 2 10 1 19 [] ∷ ok 3 0 1 19 (3 ∷ []) ∷ [])
    (Holds 10 ∷ Waits 10 ∷ Holds 10 ∷ NotPending ∷ [])
    -- 5 and 7
    ∷ scenario S (claim 0 0x3 20 ∷ release 4 1 ∷ [])
    (ok 4 0 1 30 (4 ∷ []) ∷ ok 1 4 0 0 (2 ∷ []) ∷ [])
    (NotPending ∷ Holds 14 ∷ Waits 20 ∷ Holds 20 ∷ [])
    -- 6
    ∷ scenario S (claim 0 0x3 21 ∷ [])
    (ok 4 31 1 31 [] ∷ [])
    (Holds 10 ∷ Waits 10 ∷ Waits 20 ∷ Waits 31 ∷ [])
    -- 8
    ∷ scenario S (release 4 1 ∷ [])
    (ok 1 4 0 0 (2 ∷ []) ∷ [])
    (NotPending ∷ Holds 14 ∷ Waits 14 ∷ NotPending ∷ [])
    -- 9
    ∷ scenario S (withdraw 0 2 ∷ [])
    (ok 2 0 0 0 (3 ∷ []) ∷ [])
    (Holds 10 ∷ NotPending ∷ Holds 11 ∷ NotPending ∷ [])
    -- 10
    ∷ scenario S (clock 12 ∷ clock 11 ∷ clock 12 ∷ [])
    (ok 0 12 0 0 [] ∷ refused 4 ∷ ok 0 12 0 0 [] ∷ [])
    (Holds 10 ∷ Waits 12 ∷ Waits 22 ∷ NotPending ∷ [])
    -- 12
    ∷ scenario S (release 0 2 ∷ withdraw 0 1 ∷ release 0 0 ∷ withdraw 0 0 ∷ [])
    (refused 9 ∷ refused 10 ∷ refused 8 ∷ refused 8 ∷ [])
    (Holds 10 ∷ Waits 10 ∷ Waits 20 ∷ NotPending ∷ [])
    -- the first packing: ticket 1 has overrun by 5, so ticket 2 is expected at 15 and to end at 25
    ∷ scenario (claim 0 0x1 10 ∷ claim 0 0x3 10 ∷ []) (claim 15 0x2 3 ∷ [])
    (ok 3 25 1 27 [] ∷ [])
    (Holds 10 ∷ Waits 15 ∷ Waits 25 ∷ NotPending ∷ [])
    -- two grants at once, in ascending order of ticket
    ∷ scenario (claim 0 0x7 10 ∷ claim 0 0x1 5 ∷ claim 0 0x2 5 ∷ []) (release 4 1 ∷ [])
    (ok 1 4 0 0 (2 ∷ 3 ∷ []) ∷ [])
    (NotPending ∷ Holds 9 ∷ Holds 9 ∷ NotPending ∷ [])
    ∷ []

-- What the rules give.
pub record Outcome : Type 0 where
  pub answers : List Answer
  pub standings : List Standing

unfoldable pub outcome : Scenario → Outcome
outcome x =
    let m : Model = after rig_f x.before in
    record {
      answers = answers m x.calls;
      standings = map (λ k. standing_of k (after m x.calls).pending) (1 ∷ 2 ∷ 3 ∷ 4 ∷ []);
    }

-- What is expected: of the plots what the paper gives, and by its rules what it leaves out; the last two rows are not the paper's but ours.
abbrev pub expected : Scenario → Outcome
expected x = record { answers = x.answers; standings = x.standings }

-- Calls on a table of groups F hex and a pool, their answers, and then what lookup tells of tickets 1 to 4 and of the units free.
pub record PoolScenario : Type 0 where
  pub pool : ℕ
  pub calls : List Call
  pub answers : List Answer
  pub standings : List Standing
  pub free : ℕ

abbrev pub on_pool : ℕ → List Call → List Answer → List Standing → ℕ → PoolScenario
on_pool k c a s f = record { pool = k; calls = c; answers = a; standings = s; free = f }

-- A claim at a clock, of groups (hex), a length and units.
abbrev pub drawing : ℕ → ℕ → ℕ → ℕ → Call
drawing t g n u = timed t (claims (record { groups = g; length = n; units = u; client = 1 }))

unfoldable pub pool_scenarios : List PoolScenario
pool_scenarios =
    -- a pool of 2, three claims of one unit and no common group: two on, the third at the first end
    on_pool 2 (drawing 0 0x1 10 1 ∷ drawing 0 0x2 7 1 ∷ drawing 0 0x4 5 1 ∷ [])
    (ok 1 0 0 0 (1 ∷ []) ∷ ok 2 0 0 0 (2 ∷ []) ∷ ok 3 7 0 0 [] ∷ [])
    (Holds 10 ∷ Holds 7 ∷ Waits 7 ∷ NotPending ∷ []) 0
    -- a pool of 3: 2 units are planned from 10 on, 1 is held until 10. A claim of 2 for 10 ticks fits the gap before the plan,
    ∷ on_pool 3 (drawing 0 0x1 10 1 ∷ drawing 0 0x1 10 2 ∷ drawing 0 0x2 10 2 ∷ [])
    (ok 1 0 0 0 (1 ∷ []) ∷ ok 2 10 1 19 [] ∷ ok 3 0 0 0 (3 ∷ []) ∷ [])
    (Holds 10 ∷ Waits 10 ∷ Holds 10 ∷ NotPending ∷ []) 0
    -- and one for 11 ticks does not
    ∷ on_pool 3 (drawing 0 0x1 10 1 ∷ drawing 0 0x1 10 2 ∷ drawing 0 0x2 11 2 ∷ [])
    (ok 1 0 0 0 (1 ∷ []) ∷ ok 2 10 1 19 [] ∷ ok 3 20 0 0 [] ∷ [])
    (Holds 10 ∷ Waits 10 ∷ Waits 20 ∷ NotPending ∷ []) 2
    -- an overrun holder keeps its units: ticket 2 waits though its start is the clock, until the release
    ∷ on_pool 2 (drawing 0 0x0 10 2 ∷ drawing 0 0x0 10 1 ∷ clock 12 ∷ drawing 12 0x1 5 0 ∷ release 13 1 ∷ [])
    (ok 1 0 0 0 (1 ∷ []) ∷ ok 2 10 0 0 [] ∷ ok 0 12 0 0 [] ∷ ok 3 12 0 12 (3 ∷ []) ∷ ok 1 13 0 0 (2 ∷ []) ∷ [])
    (NotPending ∷ Holds 23 ∷ Holds 17 ∷ NotPending ∷ []) 1
    -- two claims at one start, granted by ticket while the units last: ticket 2 has overrun and keeps 2 of 4
    ∷ on_pool 4 (drawing 0 0x0 10 2 ∷ drawing 0 0x0 10 2 ∷ drawing 0 0x0 10 2 ∷ drawing 0 0x0 10 2 ∷ release 12 1 ∷ [])
    (ok 1 0 0 0 (1 ∷ []) ∷ ok 2 0 0 0 (2 ∷ []) ∷ ok 3 10 0 0 [] ∷ ok 4 10 0 0 [] ∷ ok 1 12 0 0 (3 ∷ []) ∷ [])
    (NotPending ∷ Holds 10 ∷ Holds 22 ∷ Waits 12 ∷ []) 0
    -- while an overrun holder has 2 of 3, ticket 3 asks for 2 and waits, and ticket 4 behind it asks for 1 and goes on
    ∷ on_pool 3 (drawing 0 0x0 10 2 ∷ drawing 0 0x1 10 1 ∷ drawing 0 0x0 10 2 ∷ drawing 0 0x1 10 1 ∷ release 12 2 ∷ [])
    (ok 1 0 0 0 (1 ∷ []) ∷ ok 2 0 0 0 (2 ∷ []) ∷ ok 3 10 0 0 [] ∷ ok 4 10 1 19 [] ∷ ok 2 12 0 0 (4 ∷ []) ∷ [])
    (Holds 10 ∷ NotPending ∷ Waits 12 ∷ Holds 22 ∷ []) 0
    -- 16 after 2 and before 3; neither group nor unit is 1; a claim of units alone has contention 0 and the clock for its bound
    ∷ on_pool 2 (drawing 5 0x10 10 3 ∷ drawing 5 0x1 0 3 ∷ drawing 5 0x1 0 2 ∷ drawing 5 0x0 10 0 ∷ drawing 5 0x0 10 2 ∷ [])
    (refused 2 ∷ refused 16 ∷ refused 3 ∷ refused 1 ∷ ok 1 5 0 5 (1 ∷ []) ∷ [])
    (Holds 15 ∷ NotPending ∷ NotPending ∷ NotPending ∷ []) 0
    -- "Packing takes waiting claims by start, then ticket": tickets 3 and 4 at one start, and one unit for both
    ∷ on_pool 3 (drawing 0 0x4 10 2 ∷ drawing 5 0x0 10 3 ∷ drawing 6 0x2 5 1 ∷ drawing 8 0x0 10 1 ∷ withdraw 8 2 ∷ [])
    (ok 1 0 0 0 (1 ∷ []) ∷ ok 2 10 0 5 [] ∷ ok 3 20 0 6 [] ∷ ok 4 20 0 8 [] ∷ ok 2 8 0 0 (3 ∷ []) ∷ [])
    (Holds 10 ∷ NotPending ∷ Holds 13 ∷ Waits 10 ∷ []) 0
    ∷ []

-- The same with a grace.
unfoldable pub grace_scenarios : List PoolScenario
grace_scenarios =
    -- S with a grace of 5: at clock 10, the promised end of ticket 1, there is no grace yet
    on_pool 0 (set_grace 5 ∷ S ++ (clock 10 ∷ []))
    (ok 0 0 0 0 [] ∷ ok 1 0 0 0 (1 ∷ []) ∷ ok 2 10 1 19 [] ∷ ok 3 20 1 20 [] ∷ ok 0 10 0 0 [] ∷ [])
    (Holds 10 ∷ Waits 10 ∷ Waits 20 ∷ NotPending ∷ []) 0
    -- at clock 12 its end is 17; lookup still tells the promised end
    ∷ on_pool 0 (set_grace 5 ∷ S ++ (clock 12 ∷ []))
    (ok 0 0 0 0 [] ∷ ok 1 0 0 0 (1 ∷ []) ∷ ok 2 10 1 19 [] ∷ ok 3 20 1 20 [] ∷ ok 0 12 0 0 [] ∷ [])
    (Holds 10 ∷ Waits 17 ∷ Waits 27 ∷ NotPending ∷ []) 0
    -- while it overruns its end moves on with the clock,
    ∷ on_pool 0 (set_grace 5 ∷ S ++ (clock 12 ∷ clock 14 ∷ []))
    (ok 0 0 0 0 [] ∷ ok 1 0 0 0 (1 ∷ []) ∷ ok 2 10 1 19 [] ∷ ok 3 20 1 20 [] ∷ ok 0 12 0 0 [] ∷ ok 0 14 0 0 [] ∷ [])
    (Holds 10 ∷ Waits 19 ∷ Waits 29 ∷ NotPending ∷ []) 0
    -- and its release lets ticket 2 on at once
    ∷ on_pool 0 (set_grace 5 ∷ S ++ (clock 12 ∷ release 13 1 ∷ []))
    (ok 0 0 0 0 [] ∷ ok 1 0 0 0 (1 ∷ []) ∷ ok 2 10 1 19 [] ∷ ok 3 20 1 20 [] ∷ ok 0 12 0 0 [] ∷ ok 1 13 0 0 (2 ∷ []) ∷ [])
    (NotPending ∷ Holds 23 ∷ Waits 23 ∷ NotPending ∷ []) 0
    -- a claim is placed behind that end, which counts in its bound
    ∷ on_pool 0 (set_grace 5 ∷ S ++ (claim 12 0x8 3 ∷ claim 12 0x1 5 ∷ []))
    (ok 0 0 0 0 [] ∷ ok 1 0 0 0 (1 ∷ []) ∷ ok 2 10 1 19 [] ∷ ok 3 20 1 20 [] ∷ ok 4 27 2 31 [] ∷ ok 5 12 0 12 (5 ∷ []) ∷ [])
    (Holds 10 ∷ Waits 17 ∷ Waits 27 ∷ Waits 27 ∷ []) 0
    -- units are planned to be held until then, and are free with the release
    ∷ on_pool 2 (set_grace 5 ∷ drawing 0 0x0 10 2 ∷ drawing 0 0x0 10 1 ∷ clock 12 ∷ drawing 12 0x1 5 1 ∷ release 13 1 ∷ [])
    (ok 0 0 0 0 [] ∷ ok 1 0 0 0 (1 ∷ []) ∷ ok 2 10 0 0 [] ∷ ok 0 12 0 0 [] ∷ ok 3 17 0 12 [] ∷ ok 1 13 0 0 (2 ∷ 3 ∷ []) ∷ [])
    (NotPending ∷ Holds 23 ∷ Holds 18 ∷ NotPending ∷ []) 0
    -- a release packs before it takes away: ticket 3 goes before ticket 2, which the overrun put off
    ∷ on_pool 2 (set_grace 5 ∷ drawing 5 0x0 5 1 ∷ drawing 6 0x3 2 2 ∷ drawing 6 0x0 5 1 ∷ release 11 1 ∷ [])
    (ok 0 0 0 0 [] ∷ ok 1 5 0 5 (1 ∷ []) ∷ ok 2 10 0 6 [] ∷ ok 3 12 0 6 [] ∷ ok 1 11 0 0 (3 ∷ []) ∷ [])
    (NotPending ∷ Waits 16 ∷ Holds 16 ∷ NotPending ∷ []) 1
    -- 21: over 60,000, and after an accepted claim, also where nothing is pending any more; a refused claim is none. The last grace counts
    ∷ on_pool 0 (set_grace 60001 ∷ set_grace 60000 ∷ claim 0 0x0 10 ∷ set_grace 5 ∷ claim 0 0x1 10 ∷ set_grace 7 ∷ claim 12 0x1 10 ∷ withdraw 12 2 ∷ release 12 1 ∷ set_grace 0 ∷ [])
    (refused 21 ∷ ok 0 0 0 0 [] ∷ refused 1 ∷ ok 0 0 0 0 [] ∷ ok 1 0 0 0 (1 ∷ []) ∷ refused 21 ∷ ok 2 17 1 26 [] ∷ ok 2 12 0 0 [] ∷ ok 1 12 0 0 [] ∷ refused 21 ∷ [])
    (NotPending ∷ NotPending ∷ NotPending ∷ NotPending ∷ []) 0
    ∷ []

-- What the rules give, and what is expected.
pub record PoolOutcome : Type 0 where
  pub answers : List Answer
  pub standings : List Standing
  pub free : ℕ

unfoldable pub outcome_on_pool : PoolScenario → PoolOutcome
outcome_on_pool x =
    let m : Model = (new 0xF x.pool true).model in
    let n : Model = after m x.calls in
    record {
      answers = answers m x.calls;
      standings = map (λ k. standing_of k n.pending) (1 ∷ 2 ∷ 3 ∷ 4 ∷ []);
      free = free_of n;
    }

abbrev pub expected_on_pool : PoolScenario → PoolOutcome
expected_on_pool x = record { answers = x.answers; standings = x.standings; free = x.free }

-- Two tickets of the plots, and what lookup tells of the two.
pub record Pair : Type 0 where
  pub calls : List Call
  pub first : ℕ
  pub second : ℕ
  pub told : Common

abbrev pub pair : List Call → ℕ → ℕ → Common → Pair
pair calls first second told = record { calls = calls; first = first; second = second; told = told }

unfoldable pub pairs : List Pair
pairs =
    -- claims of 8, C and 6 hex: tickets 1 and 2 share group 3, in either order, 2 and 3 group 2, 1 and 3 none
    pair S 1 2 (Shared 3)
    ∷ pair S 2 1 (Shared 3)
    ∷ pair S 2 3 (Shared 2)
    ∷ pair S 1 3 Apart
    -- a ticket with itself: its own lowest group
    ∷ pair S 2 2 (Shared 2)
    ∷ pair S 3 3 (Shared 1)
    -- either not pending: never issued, or taken away
    ∷ pair S 1 4 Unknown
    ∷ pair S 4 1 Unknown
    ∷ pair S 4 4 Unknown
    ∷ pair (claim 0 0x8 10 ∷ claim 0 0xC 10 ∷ release 4 1 ∷ []) 1 2 Unknown
    -- group 0 is a group
    ∷ pair (claim 0 0x1 10 ∷ claim 0 0x3 10 ∷ []) 1 2 (Shared 0)
    ∷ []

unfoldable pub told_of_pair : Pair → Common
told_of_pair p = common_of p.first p.second (after rig_f p.calls).pending

-- Calls on a table of groups F hex and a pool, a ticket, and what lookup then tells of its blocking chain: its tickets, or 8 or 10.
pub record ChainScenario : Type 0 where
  pub pool : ℕ
  pub calls : List Call
  pub ticket : ℕ
  pub told : ChainValues

abbrev pub explained : ℕ → List Call → ℕ → List ℕ → ChainScenario
explained k c n l = record { pool = k; calls = c; ticket = n; told = record { number = 0; tickets = l } }

abbrev pub unexplained : ℕ → List Call → ℕ → ℕ → ChainScenario
unexplained k c n r = record { pool = k; calls = c; ticket = n; told = chain_refused r }

unfoldable pub chain_scenarios : List ChainScenario
chain_scenarios =
    -- S: ticket 3 starts as 2 ends, 2 as 1 ends; the same at clock 12, where ticket 1 has overrun, without a grace and with one
    explained 0 S 3 (3 ∷ 2 ∷ 1 ∷ [])
    ∷ explained 0 S 2 (2 ∷ 1 ∷ [])
    ∷ explained 0 (S ++ (clock 12 ∷ [])) 3 (3 ∷ 2 ∷ 1 ∷ [])
    ∷ explained 0 (set_grace 5 ∷ S ++ (clock 12 ∷ [])) 3 (3 ∷ 2 ∷ 1 ∷ [])
    ∷ explained 0 (set_grace 5 ∷ S ++ (claim 12 0x8 3 ∷ [])) 4 (4 ∷ 2 ∷ 1 ∷ [])
    -- a claim waits for one of a higher ticket that came into the gap before it
    ∷ explained 0 (claim 0 0x8 10 ∷ claim 0 0xC 10 ∷ claim 0 0x6 10 ∷ release 4 1 ∷ []) 2 (2 ∷ 3 ∷ [])
    -- through the pool; through the pool and then a group; to an overrun holder of units, without a grace and with one
    ∷ explained 2 (drawing 0 0x1 10 1 ∷ drawing 0 0x2 7 1 ∷ drawing 0 0x4 5 1 ∷ []) 3 (3 ∷ 2 ∷ [])
    ∷ explained 3 (drawing 0 0x1 10 1 ∷ drawing 0 0x1 10 2 ∷ drawing 0 0x2 11 2 ∷ []) 3 (3 ∷ 2 ∷ 1 ∷ [])
    ∷ explained 2 (drawing 0 0x0 10 2 ∷ drawing 0 0x0 10 1 ∷ clock 12 ∷ []) 2 (2 ∷ 1 ∷ [])
    ∷ explained 2 (set_grace 5 ∷ drawing 0 0x0 10 2 ∷ drawing 0 0x0 10 1 ∷ clock 12 ∷ []) 2 (2 ∷ 1 ∷ [])
    -- two with the same end: the lower ticket; also where it waits and the other is on, and where only the other is why the claim waits
    ∷ explained 0 (claim 0 0x1 10 ∷ claim 0 0x2 10 ∷ claim 0 0x3 5 ∷ []) 3 (3 ∷ 1 ∷ [])
    ∷ explained 0 (claim 0 0x1 5 ∷ claim 0 0x1 5 ∷ claim 0 0x2 10 ∷ claim 0 0x3 5 ∷ []) 4 (4 ∷ 2 ∷ 1 ∷ [])
    ∷ explained 2 (drawing 0 0x0 10 1 ∷ drawing 0 0x1 10 0 ∷ drawing 0 0x1 5 1 ∷ []) 3 (3 ∷ 1 ∷ [])
    ∷ explained 3 (drawing 0 0x0 10 1 ∷ drawing 0 0x0 10 2 ∷ drawing 0 0x0 5 2 ∷ []) 3 (3 ∷ 1 ∷ [])
    -- but not where the lower shares nothing with it: no group, and of two that share the pool both draw
    ∷ explained 0 (claim 0 0x1 10 ∷ claim 0 0x2 10 ∷ claim 0 0x2 5 ∷ []) 3 (3 ∷ 2 ∷ [])
    ∷ explained 2 (drawing 0 0x1 10 1 ∷ drawing 0 0x2 10 0 ∷ drawing 0 0x2 5 0 ∷ []) 3 (3 ∷ 2 ∷ [])
    -- 8: never issued, or taken away; 10: on, from the first or since a release
    ∷ unexplained 0 S 4 8
    ∷ unexplained 0 S 0 8
    ∷ unexplained 0 (S ++ (release 4 1 ∷ [])) 1 8
    ∷ unexplained 0 S 1 10
    ∷ unexplained 0 (S ++ (release 4 1 ∷ [])) 2 10
    ∷ []

unfoldable pub chain_told : ChainScenario → ChainValues
chain_told x =
    let m : Model = after (new 0xF x.pool true).model x.calls in
    chain_of (setting_of m) x.ticket m.pending

-- Claims of one group and length, as calls at clock 0 leave them: ticket 1 is on, and each other starts as the one before it ends. The last of 64
-- has a chain of them all.
abbrev pub queued : ℕ → Claim
queued n = record { groups = 0x1; phase = cond (eqb n 1) (On 0) (Waiting (n * 10 - 10)); length = 10; ticket = n; units = 0; client = 1 }

unfoldable pub down_from : ℕ → List ℕ
down_from zero = []
down_from (suc n) = suc n ∷ down_from n

unfoldable pub longest_chain : List Claim
longest_chain = chain (setting_of rig_f) (map queued (reverse (down_from 64))) (queued 64)

-- Declarations on a new table of groups F hex, then so many claims of clients 1 and 2 pending, a call, and its number: 0 where it is accepted.
pub record Sharing : Type 0 where
  pub alone : Bool
  pub declarations : List Call
  pub of_one : ℕ
  pub of_two : ℕ
  pub call : Call
  pub number : ℕ

-- Nobody is declared at first, or client 1 alone.
abbrev pub sharing : List Call → ℕ → ℕ → Call → ℕ → Sharing
sharing d i j c n = record { alone = false; declarations = d; of_one = i; of_two = j; call = c; number = n }

abbrev pub unshared : List Call → ℕ → ℕ → Call → ℕ → Sharing
unshared d i j c n = record { alone = true; declarations = d; of_one = i; of_two = j; call = c; number = n }

-- A claim of a client, good in all else; and one for nothing.
abbrev pub claim_by : ℕ → Call
claim_by c = timed 0 (claims (record { groups = 0x1; length = 10; units = 0; client = c }))

abbrev pub dark_by : ℕ → Call
dark_by c = timed 0 (claims (record { groups = 0x0; length = 10; units = 0; client = c }))

unfoldable pub sharings : List Sharing
sharings =
    -- two clients with 32 reserved each: one asks for 33
    sharing (declare 1 32 64 ∷ declare 2 32 64 ∷ []) 31 0 (claim_by 1) 0
    ∷ sharing (declare 1 32 64 ∷ declare 2 32 64 ∷ []) 32 0 (claim_by 1) 6
    ∷ sharing (declare 1 32 64 ∷ declare 2 32 64 ∷ []) 32 31 (claim_by 2) 0
    -- the places that nobody reserves are anybody's; those reserved for the client that asks are not held against it
    ∷ sharing (declare 1 8 64 ∷ declare 2 32 64 ∷ []) 31 0 (claim_by 1) 0
    ∷ sharing (declare 1 8 64 ∷ declare 2 32 64 ∷ []) 32 0 (claim_by 1) 6
    -- below its guarantee a client is accepted at 63 pending, where another is not
    ∷ sharing (declare 1 0 64 ∷ declare 2 1 64 ∷ []) 63 0 (claim_by 2) 0
    ∷ sharing (declare 1 0 64 ∷ declare 2 1 64 ∷ []) 63 0 (claim_by 1) 6
    ∷ sharing (declare 1 0 64 ∷ declare 2 1 64 ∷ []) 63 1 (claim_by 2) 6
    -- a limit that is reached gives 18, a limit of 0 at once; 6 comes before it
    ∷ sharing (declare 1 2 3 ∷ []) 2 0 (claim_by 1) 0
    ∷ sharing (declare 1 2 3 ∷ []) 3 0 (claim_by 1) 18
    ∷ sharing (declare 1 0 0 ∷ []) 0 0 (claim_by 1) 18
    ∷ sharing (declare 1 3 3 ∷ declare 2 61 61 ∷ []) 3 0 (claim_by 1) 6
    -- 17 before 1, and after 5
    ∷ sharing [] 0 0 (claim_by 1) 17
    ∷ sharing (declare 1 0 64 ∷ []) 0 0 (dark_by 2) 17
    ∷ sharing (declare 1 0 64 ∷ []) 0 0 (dark_by 1) 1
    ∷ sharing (declare 1 0 64 ∷ []) 0 0 (claim_by 0) 17
    ∷ sharing (declare 1 0 64 ∷ []) 0 0 (claim_by 9) 17
    ∷ sharing [] 0 0 (claim 1000000000001 0x1 10) 5
    -- 19: guarantees of 65 in all, though not of 64; above the limit; a limit over 64; declared twice
    ∷ sharing (declare 1 32 64 ∷ []) 0 0 (declare 2 33 64) 19
    ∷ sharing (declare 1 32 64 ∷ []) 0 0 (declare 2 32 64) 0
    ∷ sharing [] 0 0 (declare 1 3 2) 19
    ∷ sharing [] 0 0 (declare 1 0 65) 19
    ∷ sharing (declare 1 0 0 ∷ []) 0 0 (declare 1 0 0) 19
    -- a guarantee and a limit of 0 are good; 17 before 19
    ∷ sharing [] 0 0 (declare 8 0 0) 0
    ∷ sharing [] 0 0 (declare 0 0 0) 17
    ∷ sharing [] 0 0 (declare 9 65 64) 17
    -- after a claim 13, with a bad client too
    ∷ sharing (declare 1 0 64 ∷ []) 1 0 (declare 2 0 0) 13
    ∷ sharing (declare 1 0 64 ∷ []) 1 0 (declare 9 0 0) 13
    -- clocks and lengths at their limits; 4 before 17, before 1 and before 8, 5 before 8, 3 before 6
    ∷ unshared [] 0 0 (claim 1000000000000 0x1 3600000) 0
    ∷ unshared [] 0 0 (claim 0 0x1 3600001) 3
    ∷ unshared (clock 5 ∷ []) 0 0 (claim_by 2) 4
    ∷ unshared (clock 5 ∷ []) 0 0 (dark_by 1) 4
    ∷ unshared (clock 5 ∷ []) 0 0 (release 4 9) 4
    ∷ unshared (clock 5 ∷ []) 0 0 (withdraw 1000000000001 9) 5
    ∷ unshared [] 64 0 (claim 0 0x1 0) 3
    -- client 1 alone: 6 as ever, nobody else is known; another may be declared, but no place is left to reserve
    ∷ unshared [] 63 0 (claim_by 1) 0
    ∷ unshared [] 64 0 (claim_by 1) 6
    ∷ unshared [] 0 0 (claim_by 2) 17
    ∷ unshared [] 0 0 (declare 2 0 5) 0
    ∷ unshared [] 0 0 (declare 2 1 5) 19
    ∷ unshared [] 0 0 (declare 1 64 64) 19
    ∷ []

-- A pending claim of a client.
abbrev pub held_by : ℕ → Claim
held_by c = record { groups = 0x1; phase = On 0; length = 10; ticket = 1; units = 0; client = c }

unfoldable pub number_of : Sharing → ℕ
number_of x =
    let m : Model = after (new 0xF 0 x.alone).model x.declarations in
    first_number (tests (with_pending (with_issued m (x.of_one + x.of_two)) (replicate x.of_one (held_by 1) ++ replicate x.of_two (held_by 2))) x.call)
