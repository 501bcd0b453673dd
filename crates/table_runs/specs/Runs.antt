-- Runs of the code: calls made one after the other, each known only by its contract. What a contract says is taken from the function itself
-- (`Asked`, what its caller must show, and `Learnt`, what it then knows), so that a weaker contract is a weaker run. Every theorem of
-- `promises` is said here of the answers that were given and of what lookups show.
use contract.Lifetimes.{Lfts}
use denote.Bor.{Bor}
use denote.MutBor.{MutBor}
use Rattle.std.specs.Prelude.{◌≡◌, Bool, List, [], ◌∷◌, ◌++◌, ℕ, Result}
use Rattle.numbers.specs.declared.Refusal.{Refusal}
use Rattle.rules.specs.Calls.{Model, Look, at_ticket, at_two, at_pool, at_chain, claims, releases, withdraws, moves_clock, declares, sets_grace, Call, timed, looks, sets_up, Answer, step, new, standing_values, common_values}
use Rattle.rules.specs.Tests.{first_number, dark}
use Rattle.promises.specs.Ledger.{Turn, Ledger, opening, noted_all, NoOverruns}
use Rattle.promises.specs.Runs.{Telling, Told, Start}
use Rattle.promises.specs.Demand3.{Now, NoWaitPast, Next}
use Rattle.promises.specs.NumbersTested.{NumberTested}
use Rattle.promises.specs.Replies.{Replied}
use Rattle.promises.specs.LeastStart.{Least}
use Rattle.promises.specs.StartsPacked.{AllPacked}
use Rattle.promises.specs.PackedInTurn.{InTurn}
use Rattle.promises.specs.PlansApart.{Apart}
use Rattle.promises.specs.WaitsExplained.{Explained}
use Rattle.promises.specs.ChainsTold.{Chains, OnlyChains}
use Rattle.promises.specs.NeverOvertaken.{NotOvertaken}
use Rattle.promises.specs.StartsHold.{Holds}
use Rattle.promises.specs.GrantsDue.{Due}
use Rattle.promises.specs.PoolKept.{Kept}
use Rattle.promises.specs.SharesKept.{SharesNow, SharesNext}
use Rattle.promises.specs.TableKept.{Keeps}
use Rattle.promises.specs.WholeCalls.{WholeCalls}
use Rattle.table.specs.declared.Accepted.{Accepted}
use Rattle.table.specs.Outcomes.{answer_of, chain_told}
use Rattle.table.specs.Valid.{Valid}
use Rattle.table.proofs.table.Table.new.Reads as new-contract
use Rattle.table.proofs.table.Table.claim.Reads as claim-contract
use Rattle.table.proofs.table.Table.release.Reads as release-contract
use Rattle.table.proofs.table.Table.withdraw.Reads as withdraw-contract
use Rattle.table.proofs.table.Table.clock.Reads as clock-contract
use Rattle.table.proofs.table.Table.lookup.Reads as lookup-contract
use Rattle.table.proofs.table.Table.common.Reads as common-contract
use Rattle.table.proofs.table.Table.free.Reads as free-contract
use Rattle.table.proofs.table.Table.why.Reads as why-contract
use Rattle.table.proofs.table.Table.declare.Reads as declare-contract
use Rattle.table.proofs.table.Table.set_grace.Reads as grace-contract

-- ── what the code answered ──
abbrev pub looked : ℕ → Answer
looked n = record { number = n; ticket = 0; start = 0; contention = 0; bound = 0; grants = [] }

-- The number of what a lookup tells.
abbrev pub look_number : (q : Look) → Telling q → ℕ
look_number (at_ticket k) s = (standing_values s).number
look_number (at_two j k) s = (common_values s).number
look_number at_pool n = 0
look_number (at_chain k) r = r.number

-- ── by its contract ──
-- Where the code has a table, and for how long it lends it to a call: no contract says anything of these.
pub record Place : Type 0 where
  pub lifetimes : Lfts 1
  pub pointer : ℕ × ℕ
  pub name : ℕ

-- The table t, lent to a call that may change it, and to a lookup.
abbrev pub lent : Place → Model → MutBor Model
lent p t = record { ref_ptr = p.pointer; ghost_name = p.name; now = t }

abbrev pub shown : Place → Model → Bor Model
shown p t = record { ref_ptr = p.pointer; now = t }

-- What a call of the code answered, made of table t, and the table w that it left. (The arguments stand as the contract takes them, and but
-- for the table are at exit as they were.)
abbrev pub Promised : Place → Model → Call → Result Accepted Refusal → Model → Type 0
Promised p t (timed u (claims ask)) r w = claim-contract.Asked p.lifetimes (lent p t, (u, (ask, tt))) → claim-contract.Learnt p.lifetimes (lent p t, (u, (ask, tt))) r (lent p w, (u, (ask, tt)))
Promised p t (timed u (releases k)) r w = release-contract.Asked p.lifetimes (lent p t, (u, (k, tt))) → release-contract.Learnt p.lifetimes (lent p t, (u, (k, tt))) r (lent p w, (u, (k, tt)))
Promised p t (timed u (withdraws k)) r w = withdraw-contract.Asked p.lifetimes (lent p t, (u, (k, tt))) → withdraw-contract.Learnt p.lifetimes (lent p t, (u, (k, tt))) r (lent p w, (u, (k, tt)))
Promised p t (timed u moves_clock) r w = clock-contract.Asked p.lifetimes (lent p t, (u, tt)) → clock-contract.Learnt p.lifetimes (lent p t, (u, tt)) r (lent p w, (u, tt))
Promised p t (looks q) r w = ⊥
Promised p t (sets_up (declares c g n)) r w = declare-contract.Asked p.lifetimes (lent p t, (c, (g, (n, tt)))) → declare-contract.Learnt p.lifetimes (lent p t, (c, (g, (n, tt)))) r (lent p w, (c, (g, (n, tt))))
Promised p t (sets_up (sets_grace n)) r w = grace-contract.Asked p.lifetimes (lent p t, (n, tt)) → grace-contract.Learnt p.lifetimes (lent p t, (n, tt)) r (lent p w, (n, tt))

-- What a lookup told of it.
abbrev pub Shown : Place → Model → (q : Look) → Telling q → Type 0
Shown p t (at_ticket k) r = lookup-contract.Asked p.lifetimes (shown p t, (k, tt)) → lookup-contract.Learnt p.lifetimes (shown p t, (k, tt)) r (shown p t, (k, tt))
Shown p t (at_two j k) r = common-contract.Asked p.lifetimes (shown p t, (j, (k, tt))) → common-contract.Learnt p.lifetimes (shown p t, (j, (k, tt))) r (shown p t, (j, (k, tt)))
Shown p t at_pool r = free-contract.Asked p.lifetimes (shown p t, tt) → free-contract.Learnt p.lifetimes (shown p t, tt) r (shown p t, tt)
Shown p t (at_chain k) r = (b : Result (List ℕ) Refusal) × (r ≡ chain_told b) × (why-contract.Asked p.lifetimes (shown p t, (k, tt)) → why-contract.Learnt p.lifetimes (shown p t, (k, tt)) b (shown p t, (k, tt)))

abbrev pub Shows : Model → (q : Look) → Telling q → Type 0
Shows t q r = (p : Place) × Shown p t q r

-- ── a run ──
-- A call made of table t, its answer, and the table it leaves.
pub data Made (t : Model) : Call → Answer → Model → Type 0 where
  by_call : (p : Place) (c : Call) (r : Result Accepted Refusal) (w : Model) → Promised p t c r w → Made t c (answer_of r) w
  by-look : (q : Look) (r : Telling q) → Shows t q r → Made t (looks q) (looked (look_number q r)) t

-- Calls made one after the other from table t, with their answers, and the table they left.
pub data Run : Model → List Call → List Turn → Model → Type 0 where
  done : {t : Model} → Run t [] [] t
  then : {t u w : Model} {c : Call} {a : Answer} {cs : List Call} {ts : List Turn} → Made t c a u → Run u cs ts w
      → Run t (c ∷ cs) (record { call = c; answer = a } ∷ ts) w

-- What lookups show, asked of table t.
abbrev pub Looks : Model → Told → Type 0
Looks t shows = (q : Look) → Shows t q (shows q)

-- A table that a run may begin with, as the code handed it back: what `promises` calls its start.
pub data BeganAs : Model → Start → Type 0 where
  by-new : (rig pool : ℕ) (alone : Bool) (first : Model × Result Accepted Refusal)
      → (new-contract.Asked tt (rig, (pool, (alone, tt))) → new-contract.Learnt tt (rig, (pool, (alone, tt))) first (rig, (pool, (alone, tt))))
      → BeganAs first.0 (record { table = (new rig pool alone).model; ledger = opening rig pool alone (answer_of first.1) })

-- ── what holds of a run ──
-- After any number of the calls, run by the code: Q as in `promises`, of the answers given and of what lookups show.
abbrev pub CodeAtAnyTime : List Call → (Ledger → Told → Type 0) → Type 0
CodeAtAnyTime calls Q =
    (before rest : List Call) → before ++ rest ≡ calls
    → (t : Model) (s : Start) → BeganAs t s → (ts : List Turn) (u : Model) → Run t before ts u → (shows : Told) → Looks u shows
    → Q (noted_all s.ledger ts) shows

abbrev pub CodeWhileNobodyOverruns : List Call → (Ledger → Told → Type 0) → Type 0
CodeWhileNobodyOverruns calls Q =
    (before rest : List Call) → before ++ rest ≡ calls
    → (t : Model) (s : Start) → BeganAs t s → (ts : List Turn) (u : Model) → Run t before ts u → (shows : Told) → Looks u shows
    → NoOverruns s.ledger ts → Q (noted_all s.ledger ts) shows

-- At any time and any later one.
abbrev pub CodeAtAnyLater : List Call → (Told → Told → Type 0) → Type 0
CodeAtAnyLater calls Q =
    (before between rest : List Call) → before ++ (between ++ rest) ≡ calls
    → (t : Model) (s : Start) → BeganAs t s → (ts : List Turn) (u : Model) → Run t before ts u → (old : Told) → Looks u old
    → (us : List Turn) (w : Model) → Run u between us w → (new : Told) → Looks w new
    → Q old new

-- Of each call.
abbrev pub CodeAtAnyCall : List Call → (Ledger → Turn → Told → Told → Type 0) → Type 0
CodeAtAnyCall calls Q =
    (before : List Call) (c : Call) (rest : List Call) → before ++ (c ∷ rest) ≡ calls
    → (t : Model) (s : Start) → BeganAs t s → (ts : List Turn) (u : Model) → Run t before ts u
    → (a : Answer) (w : Model) → Made u c a w → (old new : Told) → Looks u old → Looks w new
    → Q (noted_all s.ledger ts) (record { call = c; answer = a }) old new

-- Of the table that the calls left.
abbrev pub CodeTable : List Call → (Ledger → Model → Type 0) → Type 0
CodeTable calls Q = (t : Model) (s : Start) → BeganAs t s → (ts : List Turn) (u : Model) → Run t calls ts u → Q (noted_all s.ledger ts) u

-- ── the theorems ──
pub record CodeDemand3 (calls : List Call) : Type 0 where
  pub at_any_time : CodeAtAnyTime calls Now
  pub no_wait_past : CodeWhileNobodyOverruns calls NoWaitPast
  pub at_any_call : CodeAtAnyCall calls Next

abbrev pub CodeNumbersTested : List Call → Type 0
CodeNumbersTested calls = CodeAtAnyCall calls NumberTested

abbrev pub CodeNewTested : Type 0
CodeNewTested =
    (rig pool : ℕ) (alone : Bool) (r : Model × Result Accepted Refusal) → new-contract.Learnt tt (rig, (pool, (alone, tt))) r (rig, (pool, (alone, tt))) → (answer_of r.1).number ≡ first_number (dark rig ∷ [])

abbrev pub CodeReplies : List Call → Type 0
CodeReplies calls = CodeAtAnyCall calls Replied

abbrev pub CodeLeastStart : List Call → Type 0
CodeLeastStart calls = CodeAtAnyCall calls Least

abbrev pub CodeStartsPacked : List Call → Type 0
CodeStartsPacked calls = CodeAtAnyTime calls AllPacked

abbrev pub CodePackedInTurn : List Call → Type 0
CodePackedInTurn calls = CodeAtAnyCall calls InTurn

abbrev pub CodePlansApart : List Call → Type 0
CodePlansApart calls = CodeAtAnyTime calls Apart

abbrev pub CodeWaitsExplained : List Call → Type 0
CodeWaitsExplained calls = CodeAtAnyTime calls Explained

pub record CodeChainsTold (calls : List Call) : Type 0 where
  pub at_any_time : CodeAtAnyTime calls Chains
  pub no_other : CodeAtAnyTime calls OnlyChains

abbrev pub CodeNeverOvertaken : List Call → Type 0
CodeNeverOvertaken calls = CodeAtAnyLater calls NotOvertaken

-- From any time on for as long as nobody overruns, whoever did before.
abbrev pub CodeStartsHold : List Call → Type 0
CodeStartsHold calls =
    (before between rest : List Call) → before ++ (between ++ rest) ≡ calls
    → (t : Model) (s : Start) → BeganAs t s → (ts : List Turn) (u : Model) → Run t before ts u → (old : Told) → Looks u old
    → (us : List Turn) (w : Model) → Run u between us w → (new : Told) → Looks w new
    → (let l = noted_all s.ledger ts in NoOverruns l us → Holds old (noted_all l us) new)

abbrev pub CodeGrantsDue : List Call → Type 0
CodeGrantsDue calls = CodeAtAnyCall calls Due

abbrev pub CodePoolKept : List Call → Type 0
CodePoolKept calls = CodeAtAnyTime calls Kept

pub record CodeSharesKept (calls : List Call) : Type 0 where
  pub at_any_time : CodeAtAnyTime calls SharesNow
  pub at_any_call : CodeAtAnyCall calls SharesNext

-- Every table of a run is valid: what the calls ask of it always holds. It has what the calls told it, and what `promises` says of whole calls
-- is said of it,
pub record CodeTables (calls : List Call) : Type 0 where
  pub valid : CodeTable calls (λ l u. Valid u)
  pub kept : CodeTable calls (λ l u. Keeps l u)
  pub whole : CodeTable calls (λ l u. WholeCalls u)
  -- and of the code's next call: that is the rules' step.
  pub steps : CodeTable calls (λ l u. (c : Call) (a : Answer) (w : Model) → Made u c a w → (a ≡ (step u c).answer) × (w ≡ (step u c).model))
