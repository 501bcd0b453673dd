-- Demand 3: one statement about a list of calls, "any number, even zero, in any order, with any values, those turned down too". Its words
-- go by the calls, their answers and lookup. proofs/Demand3 has the theorem: it holds of every start that a run may have
-- (`Begins`) and every list.
use Rattle.std.specs.Prelude.{◌≡◌, ◌⊎◌, ◌≢◌, true, false, List, [], ℕ, ◌+◌, ◌≤◌, length}
use Rattle.groups.specs.Groups.{common, shares}
use Rattle.rules.specs.declared.Request.{Request}
use Rattle.rules.specs.Lists.{◌∈◌, Ascends}
use Rattle.rules.specs.declared.Common.{Common}
use Rattle.rules.specs.declared.Common.TheVariants.{Unknown}
use Rattle.rules.specs.declared.Standing.{Standing}
use Rattle.rules.specs.declared.Standing.TheVariants.{NotPending, Waits, Holds}
use Rattle.rules.specs.Calls.{at_ticket, at_two, Call, claim, Answer, step, shared}
use Rattle.promises.specs.Ledger.{Turn, Steps, accepted, Entry, promised, Ledger, after_acting, noted, NoOverrun, ruled_by, rivals_of, bound_on}
use Rattle.promises.specs.Runs.{Told, Start, AtAnyTime, WhileNobodyOverruns, AtAnyCall}

-- "Look, asked after any call of the list, says the same: waiting, on with that promised end, or 8."
pub record Agrees (l : List Entry) (k : ℕ) (told : Standing) : Type 0 where
  pub held : (e : Entry) → e ∈ l → e.ticket ≡ k → e.held ≡ true → told ≡ Holds (promised e)
  pub waiting : (e : Entry) → e ∈ l → e.ticket ≡ k → e.held ≡ false → (s : ℕ) × (told ≡ Waits s)
  pub unknown : ((e : Entry) → e ∈ l → e.ticket ≢ k) → told ≡ NotPending

-- What lookup tells of two tickets agrees with the groups that their calls named: "the lowest common group number, or none"; "a ticket that
-- isn't pending answers 8".
pub record AgreesOnTwo (l : List Entry) (j k : ℕ) (told : Common) : Type 0 where
  pub pending : (e f : Entry) → e ∈ l → f ∈ l → e.ticket ≡ j → f.ticket ≡ k → told ≡ shared (common e.asked.groups f.asked.groups)
  pub unknown : ((e : Entry) → e ∈ l → e.ticket ≢ j) ⊎ ((e : Entry) → e ∈ l → e.ticket ≢ k) → told ≡ Unknown

-- The tickets of the pending claims are in ascending order.
abbrev pub TicketsAscend : List Entry → Type 0
TicketsAscend l = Ascends (λ (e : Entry). e.ticket) l

-- After any number of the calls.
pub record Now (l : Ledger) (told : Told) : Type 0 where
  -- A ticket stands once.
  pub tickets_ascend : TicketsAscend l.claims
  pub lookup_agrees : (k : ℕ) → Agrees l.claims k (told (at_ticket k))
  pub common_agrees : (j k : ℕ) → AgreesOnTwo l.claims j k (told (at_two j k))
  -- Holders share no group.
  pub holders_apart : (e f : Entry) → e ∈ l.claims → f ∈ l.claims → e.ticket ≢ f.ticket → e.held ≡ true → f.held ≡ true → shares e.asked.groups f.asked.groups ≡ false

-- Nobody waits past the first planned start.
abbrev pub NoWaitPast : Ledger → Told → Type 0
NoWaitPast l told = (e : Entry) → e ∈ l.claims → e.held ≡ false → l.clock ≤ e.first

-- Of an accepted claim at clock u, with its answer and what lookup tells after it.
pub record OfClaim (l : Ledger) (u : ℕ) (ask : Request) (a : Answer) (after : Told) : Type 0 where
  -- "Tickets are issued 1, 2, 3 .. and never again": one more than the count of claims accepted before it.
  pub ticket_next : a.ticket ≡ l.issued + 1
  -- "Its first planned start is the start which that issuing call answers": lookup then gives it, or the claim went on at it.
  pub first_told : (after (at_ticket a.ticket) ≡ Waits a.start) ⊎ (after (at_ticket a.ticket) ≡ Holds (a.start + ask.length))
  -- A first planned start is within its bound: "the ceiling is promised for claims that draw none" (document 02, P3).
  pub start_bounded : ask.units ≡ 0 → a.start ≤ bound_on (ruled_by l u) l.claims ask
  -- "Crowd is the number of pending claims that conflict with it"; the ceiling is answered whatever the claim draws.
  pub contention_counted : a.contention ≡ length (rivals_of l.claims ask)
  pub bound_counted : a.bound ≡ bound_on (ruled_by l u) l.claims ask

-- Of the grants that an answer names: "those tickets in ascending order".
pub record OfGrants (l : Ledger) (t : Turn) : Type 0 where
  pub grants_ascend : Ascends (λ (k : ℕ). k) t.answer.grants
  -- Each is that of a claim that waited, or that the call issued.
  pub grants_waited : (k : ℕ) → k ∈ t.answer.grants
      → (e : Entry) × e ∈ after_acting t l.claims × (e.ticket ≡ k) × (e.held ≡ false)
  -- Only an accepted timed call names any.
  pub others_none : accepted t ≡ false → t.answer.grants ≡ []

-- Of one call, with what lookup told before and tells after it.
pub record Next (l : Ledger) (t : Turn) (before after : Told) : Type 0 where
  pub of_claim : (u : ℕ) (ask : Request) → t.call ≡ claim u ask → t.answer.number ≡ 0 → OfClaim l u ask t.answer after
  pub of_grants : OfGrants l t
  -- A call that bears no clock past a holder's promised end raises no start, whatever clocks came before it. "A call raises it if the claim
  -- waits before the call and after it waits with a greater start, or is on with a grant greater than that start."
  pub never_raised : NoOverrun l t → (k s : ℕ) → before (at_ticket k) ≡ Waits s
      → ((r : ℕ) → after (at_ticket k) ≡ Waits r → r ≤ s)
      × ((e : Entry) → e ∈ (noted l t).claims → e.ticket ≡ k → e.held ≡ true → e.grant ≤ s)

-- Of a run from a start, by `step`.
pub record Demand3Of (step : Steps) (s : Start) (calls : List Call) : Type 0 where
  pub at_any_time : AtAnyTime step s calls Now
  pub no_wait_past : WhileNobodyOverruns step s calls NoWaitPast
  pub at_any_call : AtAnyCall step s calls Next

-- Demand 3 of the rules.
abbrev pub Demand3 : Start → List Call → Type 0
Demand3 s calls = Demand3Of step s calls
