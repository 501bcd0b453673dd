-- Request P2 of every list of calls: "holders share nothing here either, and a claim waits for at most 1 + crowd head changes .. such claims
-- .. are about lists of calls from a new table, run as in demand 3". Its words go by the calls, that for the table included, and their answers
-- alone.
-- proofs/BoundedWait has the theorem: it holds for every rig and every list.
use Rattle.std.specs.Prelude.{◌≡◌, ◌≢◌, true, false, List, [], ◌∷◌, ◌++◌, ℕ, ◌+◌, ◌≤◌, ◌<◌, length}
use Rattle.groups.specs.Groups.{shares}
use Rattle.rules.specs.Lists.{◌∈◌, keep, Ascends}
use Rattle.rules.specs.Tests.{first_number, dark}
use Rattle.frames.specs.Calls.{Call, claim, release, Answer, Step, step, new}
use Rattle.frame_promises.specs.Ledger.{Turn, Steps, turns, table_after, Entry, Ledger, stay, pending_at, head_change, row_now, tests_of, ledger_of}

-- After any number of the calls.
pub record Now (l : Ledger) : Type 0 where
  -- A ticket stands once.
  pub tickets_ascend : Ascends (λ (e : Entry). e.ticket) l.claims
  -- Holders, granted and not yet released, share no group.
  pub holders_apart : (e f : Entry) → e ∈ l.claims → f ∈ l.claims → e.ticket ≢ f.ticket → e.held ≡ true → f.held ≡ true → shares e.groups f.groups ≡ false
  -- An accepted claim that has not been granted has seen at most as many head changes as its contention,
  pub wait_bounded : (e : Entry) → e ∈ l.claims → e.held ≡ false → e.seen ≤ e.contention
  -- so that it goes on with the (1 + contention)-th at the latest:
  pub grant_bounded : (e : Entry) → e ∈ l.claims → e.held ≡ true → e.seen ≤ 1 + e.contention
  -- with that head change exactly whose count is its row.
  pub row_ahead : (e : Entry) → e ∈ l.claims → e.held ≡ false → e.seen < e.row
  pub row_reached : (e : Entry) → e ∈ l.claims → e.held ≡ true → e.seen ≡ e.row
  -- Nobody is forgotten: where anything is pending something is held, so a head change comes as soon as every holder has been released.
  pub somebody_holds : (e : Entry) → e ∈ l.claims → (f : Entry) × f ∈ l.claims × (f.held ≡ true)

-- An accepted claim of the groups g.
pub record OfClaim (l : Ledger) (g : ℕ) (a : Answer) : Type 0 where
  -- "Tickets are issued 1, 2, 3 .. and never again": one more than the count of claims accepted before it.
  pub ticket_next : a.ticket ≡ l.issued + 1
  -- Contention (the request's crowd) is counted: "the number of pending claims that conflict with it".
  pub contention_counted : a.contention ≡ length (keep (λ e. shares e.groups g) l.claims)
  pub row_bounded : a.row ≤ 1 + a.contention
  -- "With nothing pending a claim joins the head row",
  pub row_when_empty : l.claims ≡ [] → a.row ≡ 0
  -- "otherwise .. the first row after the head in which no claim shares a group with it".
  pub row_behind : (e : Entry) → e ∈ l.claims → 1 ≤ a.row
  pub row_free : (e : Entry) → e ∈ l.claims → row_now e ≡ a.row → shares e.groups g ≡ false
  pub row_first : (j : ℕ) → 1 ≤ j → j < a.row → (e : Entry) × e ∈ l.claims × (row_now e ≡ j) × (shares e.groups g ≡ true)

-- What a call grants.
pub record OfGrants (l : Ledger) (t : Turn) : Type 0 where
  -- Each grant names a claim that is pending and waits, once, in ascending order of ticket.
  pub grants_ascend : Ascends (λ (k : ℕ). k) t.answer.grants
  pub grants_pending : (k : ℕ) → k ∈ t.answer.grants → (e : Entry) × e ∈ pending_at l t × (e.ticket ≡ k) × (e.held ≡ false)
  -- A refused call names none.
  pub refused_none : t.answer.number ≢ 0 → t.answer.grants ≡ []
  -- "When the head row has emptied": a head change leaves nobody held that was.
  pub change_last : head_change t ≡ true → (e : Entry) → e ∈ stay t.call l.claims → e.held ≡ false

-- Ticket, and neither row nor contention.
pub record Plainly (a : Answer) (ticket : ℕ) : Type 0 where
  pub ticket_is : a.ticket ≡ ticket
  pub row_none : a.row ≡ 0
  pub contention_none : a.contention ≡ 0

-- What a call answers that is no accepted claim, beside number and grants.
pub record OfReply (t : Turn) : Type 0 where
  -- "A claim answers ticket, row .. and crowd, a release its ticket, 0 and 0".
  pub release_plain : (k : ℕ) → t.call ≡ release k → t.answer.number ≡ 0 → Plainly t.answer k
  -- "A call turned down answers its number, with ticket, start, crowd and ceiling 0 and no grants" (document 01); here a row is in place of a
  -- start. For the grants see `refused_none`.
  pub refused_plain : t.answer.number ≢ 0 → Plainly t.answer 0

-- Of one call on a table that was called for with this rig.
pub record Next (rig : ℕ) (l : Ledger) (t : Turn) : Type 0 where
  -- Each number only on its condition, and in its order.
  pub number_tested : t.answer.number ≡ first_number (tests_of rig l t.call)
  pub claim_answered : (g : ℕ) → t.call ≡ claim g → t.answer.number ≡ 0 → OfClaim l g t.answer
  pub granted : OfGrants l t
  pub replied : OfReply t

-- "The list begins with the table that the call for a new one gave, whatever the rig." The calls are run by `step`.
pub record BoundedWaitOf (step : Steps) (rig : ℕ) (calls : List Call) : Type 0 where
  pub at_any_time : (before rest : List Call) → before ++ rest ≡ calls → Now (ledger_of (turns step (new rig).model before))
  pub at_any_call : (before : List Call) (c : Call) (rest : List Call) → before ++ (c ∷ rest) ≡ calls
      → (let m = (new rig).model in
      Next rig (ledger_of (turns step m before)) (record { call = c; answer = (step (table_after step m before) c).answer }))

-- The same of the rules.
abbrev pub BoundedWait : ℕ → List Call → Type 0
BoundedWait rig calls = BoundedWaitOf step rig calls

-- "dark: no group .. in a new rig": a call for a new table is refused on this condition alone.
abbrev pub NewNumber : ℕ → ℕ → Type 0
NewNumber rig number = number ≡ first_number (dark rig ∷ [])

abbrev pub NewTestedOf : (ℕ → Step) → Type 0
NewTestedOf new = (rig : ℕ) → NewNumber rig (new rig).answer.number

abbrev pub NewTested : Type 0
NewTested = NewTestedOf new
