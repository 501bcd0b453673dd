-- Runs of the code of dance shows' table: calls made one after the other, each known only by its contract, which is taken from the function
-- itself as in `table_runs` (`Asked`, what its caller must show, and `Learnt`, what it then knows). The theorem of `frame_promises` is said
-- here of the answers that were given.
use Rattle.std.specs.Prelude.{◌≡◌, List, [], ◌∷◌, ◌++◌, ℕ}
use Rattle.std.specs.Borrow.{MutBor}
use Rattle.frames.specs.Calls.{Model, Call, claim, release, step}
use Rattle.frame_promises.specs.Ledger.{Turn, ledger_of}
use Rattle.frame_promises.specs.BoundedWait.{Now, Next, NewNumber}
use Rattle.frame_table.specs.Valid.{Valid}
use Rattle.frame_table.specs.Answers.{Answered, answer_of}
use Rattle.frame_table.proofs.Table.new.Reads as new-contract
use Rattle.frame_table.proofs.Table.claim.Reads as claim-contract
use Rattle.frame_table.proofs.Table.release.Reads as release-contract

-- ── by its contract ──
-- A reference to a table, lent to a call: the table was t then, and u at exit.
pub record Lent (t u : Model) : Type 0 where
  pub lifetime : List ℕ
  pub given : MutBor Model
  pub left : MutBor Model
  pub before : given.now ≡ t
  pub after : left.now ≡ u

-- What a call of the code answered, made of table t, and the table u that it left. (The arguments stand as the contract takes them: at entry,
-- and at exit.)
abbrev pub Promised : Model → Call → Answered → Model → Type 0
Promised t (claim g) r u = (b : Lent t u)
    × (claim-contract.Asked (b.lifetime, tt) (b.given, (g, tt)) → claim-contract.Learnt (b.lifetime, tt) (b.given, (g, tt)) r (b.left, (g, tt)))
Promised t (release k) r u = (b : Lent t u)
    × (release-contract.Asked (b.lifetime, tt) (b.given, (k, tt)) → release-contract.Learnt (b.lifetime, tt) (b.given, (k, tt)) r (b.left, (k, tt)))

-- What the call for a new table handed back: the table and an answer.
abbrev pub PromisedNew : ℕ → Model × Answered → Type 0
PromisedNew rig r = new-contract.Asked tt (rig, tt) → new-contract.Learnt tt (rig, tt) r (rig, tt)

-- ── a run ──
-- Calls made one after the other from table t, with their answers, and the table they left.
pub data Run : Model → List Call → List Turn → Model → Type 0 where
  done : {t : Model} → Run t [] [] t
  then : {t u v : Model} {c : Call} {cs : List Call} {ts : List Turn} → (r : Answered) → Promised t c r u → Run u cs ts v
      → Run t (c ∷ cs) (record { call = c; answer = answer_of r } ∷ ts) v

-- After these calls, run by the code from a new table: Q of the turns and of the table that they left.
abbrev pub CodeAfter : ℕ → List Call → (List Turn → Model → Type 0) → Type 0
CodeAfter rig calls Q = (first : Model × Answered) → PromisedNew rig first → (ts : List Turn) (t : Model) → Run first.0 calls ts t → Q ts t

-- ── the theorem ──
-- Of every list of calls that begins with a table from `new`: what `frame_promises` says of the rules, of the answers given.
pub record CodeBoundedWait (rig : ℕ) (calls : List Call) : Type 0 where
  pub at_any_time : (before rest : List Call) → before ++ rest ≡ calls → CodeAfter rig before (λ ts t. Now (ledger_of ts))
  pub at_any_call : (before : List Call) (c : Call) (rest : List Call) → before ++ (c ∷ rest) ≡ calls
      → CodeAfter rig before (λ ts t. (r : Answered) (u : Model) → Promised t c r u
      → Next rig (ledger_of ts) (record { call = c; answer = answer_of r }))

-- The number of the call for a new table.
abbrev pub CodeNewTested : Type 0
CodeNewTested = (rig : ℕ) (r : Model × Answered) → new-contract.Learnt tt (rig, tt) r (rig, tt) → NewNumber rig (answer_of r.1).number

-- Every table of a run is valid. And the code's next call is the rules' step.
pub record CodeTables (rig : ℕ) (calls : List Call) : Type 0 where
  pub valid : CodeAfter rig calls (λ ts t. Valid t)
  pub steps : CodeAfter rig calls (λ ts t. (c : Call) (r : Answered) (u : Model) → Promised t c r u
      → (answer_of r ≡ (step t c).answer) × (u ≡ (step t c).model))
