-- A run of calls: what it begins with, what lookups tell after any of its calls, and what it means that something holds of a run.
use Rattle.std.specs.Prelude.{◌≡◌, Bool, List, ◌∷◌, ◌++◌, ℕ}
use Rattle.rules.specs.declared.Claim.{Claim}
use Rattle.rules.specs.declared.Common.{Common}
use Rattle.rules.specs.declared.Setting.{Setting}
use Rattle.rules.specs.declared.Standing.{Standing}
use Rattle.rules.specs.Pool.{free_units}
use Rattle.rules.specs.Calls.{Model, setting_of, Look, at_ticket, at_two, at_pool, at_chain, Call, Step, new, standing_of, common_of}
use Rattle.rules.specs.Chains.{ChainValues, chain_of}
use Rattle.promises.specs.Ledger.{Turn, Steps, turns, table_after, Ledger, opening, noted_all, NoOverruns}

-- What a lookup tells, and what all of them tell.
abbrev pub Telling : Look → Type 0
Telling (at_ticket k) = Standing
Telling (at_two j k) = Common
Telling at_pool = ℕ
Telling (at_chain k) = ChainValues

abbrev pub Told : Type 0
Told = (q : Look) → Telling q

-- What they tell of a table: of its clock, its pool and its grace, and of its pending claims.
abbrev pub tells_of : Setting → List Claim → (q : Look) → Telling q
tells_of v ps (at_ticket k) = standing_of k ps
tells_of v ps (at_two j k) = common_of j k ps
tells_of v ps at_pool = free_units v.pool ps
tells_of v ps (at_chain k) = chain_of v k ps

abbrev pub tells : Model → (q : Look) → Telling q
tells m q = tells_of (setting_of m) m.pending q

-- What a run begins with: a table, and what the call that gave it tells.
pub record Start : Type 0 where
  pub table : Model
  pub ledger : Ledger

-- "The list begins with the table that the call for a new one gave, whatever the rig", and whatever the pool; client 1 alone is declared at
-- first, or nobody.
abbrev pub newly : ℕ → ℕ → Bool → Start
newly rig pool alone =
    let s : Step = new rig pool alone in
    record { table = s.model; ledger = opening rig pool alone s.answer }

pub data Begins : Start → Type 0 where
  by-new : (rig pool : ℕ) (alone : Bool) → Begins (newly rig pool alone)

-- ── what holds of a run ──
-- The ledger after the calls, and what lookups then tell.
abbrev pub ledger_after : Steps → Start → List Call → Ledger
ledger_after step s calls = noted_all s.ledger (turns step s.table calls)

abbrev pub told_after : Steps → Start → List Call → Told
told_after step s calls = tells (table_after step s.table calls)

-- After any number of the calls: Q of the ledger and of what lookups tell.
abbrev pub AtAnyTime : Steps → Start → List Call → (Ledger → Told → Type 0) → Type 0
AtAnyTime step s calls Q = (before rest : List Call) → before ++ rest ≡ calls → Q (ledger_after step s before) (told_after step s before)

-- The same for as long as nobody overruns: no accepted call so far bore a clock past the promised end of a claim held when it came.
abbrev pub WhileNobodyOverruns : Steps → Start → List Call → (Ledger → Told → Type 0) → Type 0
WhileNobodyOverruns step s calls Q =
    (before rest : List Call) → before ++ rest ≡ calls → NoOverruns s.ledger (turns step s.table before)
    → Q (ledger_after step s before) (told_after step s before)

-- At any time and any later one: Q of what lookups tell, then and later.
abbrev pub AtAnyLater : Steps → Start → List Call → (Told → Told → Type 0) → Type 0
AtAnyLater step s calls Q =
    (before between rest : List Call) → before ++ (between ++ rest) ≡ calls
    → (let m = table_after step s.table before in Q (tells m) (tells (table_after step m between)))

-- Of each call: Q of the ledger before it, of the call with its answer, and of what lookups tell before and after it.
abbrev pub AtAnyCall : Steps → Start → List Call → (Ledger → Turn → Told → Told → Type 0) → Type 0
AtAnyCall step s calls Q =
    (before : List Call) (c : Call) (rest : List Call) → before ++ (c ∷ rest) ≡ calls
    → (let m = table_after step s.table before in
    Q (ledger_after step s before) (record { call = c; answer = (step m c).answer }) (tells m) (tells (step m c).model))
