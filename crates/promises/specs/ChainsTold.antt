-- Blocking chains, by ledger and lookups alone, after any calls: "For a waiting ticket give the chain of tickets that explains its start, itself
-- first. Each link goes to the lowest ticket whose end equals this claim's start and which shares a group, or the pool, with it. The chain is
-- followed link by link until it reaches a claim that is on. Each link is true, the end of the on claim plus the lengths of the waiting claims
-- between make the start, and every waiting claim has a chain. Tickets that aren't pending answer 8, those on 10." (Document 02, P7.) Beside
-- demand 3, by the same ledger and lookup. proofs/ChainsTold has the theorem.
use Rattle.std.specs.Prelude.{◌≡◌, ◌≢◌, true, List, [], ◌∷◌, map, ℕ, ◌<◌}
use Rattle.numbers.specs.Numbers.{unknown_number, already_on_number}
use Rattle.rules.specs.declared.Standing.{Standing}
use Rattle.rules.specs.declared.Standing.TheVariants.{NotPending, Waits, Holds}
use Rattle.rules.specs.Lists.{◌∈◌, sum, Distinct}
use Rattle.rules.specs.Calls.{at_ticket, at_chain, Call, step}
use Rattle.rules.specs.Chains.{ChainValues, chain_refused}
use Rattle.promises.specs.Ledger.{Steps, Entry, Ledger}
use Rattle.promises.specs.Runs.{Told, Start, AtAnyTime}
use Rattle.promises.specs.Plan.{end_as, end_told}
use Rattle.promises.specs.WaitsExplained.{in_common}

-- ── links ──
-- Whom a waiting claim counts as in the search for its link: itself.
abbrev pub counts_as : List Entry → Entry → Entry
counts_as es f = f

-- From f, which waits with the start s, to e.
pub record LinkTold (l : Ledger) (told : Told) (f : Entry) (s : ℕ) (e : Entry) : Type 0 where
  pub pending : e ∈ l.claims
  -- "which shares a group, or the pool, with it"
  pub common : in_common e (counts_as l.claims f) ≡ true
  -- "whose end equals this claim's start"
  pub ends : end_told l told e ≡ s
  -- "the lowest ticket": no lower one does both.
  pub lowest : (d : Entry) → d ∈ l.claims → d.ticket < e.ticket → in_common d (counts_as l.claims f) ≡ true → end_told l told d ≢ s

-- ── chains ──
-- From f through these claims: "Each link is true", from each waiting claim to the next; "until it reaches a claim that is on": the last is held,
-- by lookup, and no other is.
abbrev pub Followed : Ledger → Told → Entry → List Entry → Type 0
Followed l told e [] = (p : ℕ) × (told (at_ticket e.ticket) ≡ Holds p)
Followed l told f (e ∷ es) = (s : ℕ) × (told (at_ticket f.ticket) ≡ Waits s) × LinkTold l told f s e × Followed l told e es

-- What a claim adds to the start that it explains: "the end of the on claim", "the lengths of the waiting claims".
abbrev pub adds_as : Ledger → Entry → Standing → ℕ
adds_as l e NotPending = 0
adds_as l e (Waits s) = e.asked.length
adds_as l e (Holds p) = end_as l e (Holds p)

abbrev pub adds_told : Ledger → Told → Entry → ℕ
adds_told l told e = adds_as l e (told (at_ticket e.ticket))

abbrev pub chain_of_entries : List Entry → ChainValues
chain_of_entries es = record { number = 0; tickets = map (λ (e : Entry). e.ticket) es }

-- The chain of f, which waits with the start s: f and then the claims `behind`.
pub record ChainTold (l : Ledger) (told : Told) (f : Entry) (s : ℕ) : Type 0 where
  pub behind : List Entry
  pub pending : (e : Entry) → e ∈ behind → e ∈ l.claims
  -- "the chain of tickets that explains its start, itself first"
  pub itself_first : told (at_chain f.ticket) ≡ chain_of_entries (f ∷ behind)
  -- "followed link by link"
  pub followed : Followed l told f behind
  -- "the end of the on claim plus the lengths of the waiting claims between make the start": f is not counted.
  pub makes : sum (adds_told l told) behind ≡ s
  -- No ticket stands twice.
  pub once : Distinct (λ (e : Entry). e.ticket) (f ∷ behind)

-- ── after any number of the calls ──
pub record Chains (l : Ledger) (told : Told) : Type 0 where
  -- "every waiting claim has a chain"
  pub waiting : (f : Entry) → f ∈ l.claims → (s : ℕ) → told (at_ticket f.ticket) ≡ Waits s → ChainTold l told f s
  -- "Tickets that aren't pending answer 8", and no tickets,
  pub unknown : (k : ℕ) → ((e : Entry) → e ∈ l.claims → e.ticket ≢ k) → told (at_chain k) ≡ chain_refused unknown_number
  -- "those on 10", and no tickets.
  pub held : (e : Entry) → e ∈ l.claims → (p : ℕ) → told (at_ticket e.ticket) ≡ Holds p → told (at_chain e.ticket) ≡ chain_refused already_on_number

-- There is no other way to tell them: who tells the same of each ticket, and chains of which this holds, tells these.
abbrev pub OnlyChains : Ledger → Told → Type 0
OnlyChains l told = (other : Told) → ((k : ℕ) → other (at_ticket k) ≡ told (at_ticket k)) → Chains l other → (k : ℕ) → other (at_chain k) ≡ told (at_chain k)

pub record ChainsToldOf (step : Steps) (s : Start) (calls : List Call) : Type 0 where
  pub at_any_time : AtAnyTime step s calls Chains
  pub no_other : AtAnyTime step s calls OnlyChains

abbrev pub ChainsTold : Start → List Call → Type 0
ChainsTold s calls = ChainsToldOf step s calls
